-- The gateway of a world is always the state after some items, so what is known of every such state is known of it.
use Rattle.std.proofs.Common.{◌≡◌, ℕ, ◌<◌, ◌++◌, map, true, false, cond, List, [], ◌∷◌, refl, sym, ap, ◌∙◌, subst}
use Rattle.std.specs.List.{AllByRecursion as Each}
use Rattle.redir_data.specs.declared.packet.RedirPacket.{RedirPacket}
use Rattle.redir_data.specs.Sent.{sent_header}
use Rattle.model_device.specs.Meaning.{Meaning}
use Rattle.gate_history.specs.declared.item.Item.{Item as GateItem}
use Rattle.gate_history.specs.declared.item.Item.TheVariants.{Told}
use Rattle.gate_history.specs.step.Marks.{Submission, Mark}
use Rattle.gate_history.specs.client.Submits.{Pending, pending, live, abandoned}
use Rattle.gate_history.specs.state.Ids.{holds, AreFresh, Fits, greatest}
use Rattle.gate_history.specs.state.Flight.{ids_of, in_flight, wide_ids}
use Rattle.gate_history.specs.state.StreamIds.{stream_ids, ids_of_streams}
use Rattle.gate_history.specs.state.State.{State, state_of, flying}
use Rattle.gate_history.specs.state.Sound.{IsSound, HasFewPackets}
use Rattle.gate_history.specs.step.Past.{is_left_out, past}
use Rattle.gate_history.specs.step.Meaning.{mark_of}
use Rattle.gate_history.specs.step.Machine.{step, with_mark}
use Rattle.gate_history.proofs.lemmas.state.Sound.{state-sound}
use Rattle.gate_history.proofs.lemmas.step.Runs.{state-run}
use Rattle.gate_history.proofs.lemmas.state.Flights.{item-fresh}
use Rattle.direct_run.specs.World.{first_id}
use Rattle.direct_run.specs.Moves.{World, Move, ByClient, HostReads, GateReads, Performs, Offers, Unplugs, move, quiet, gate_move, gate_made, gate_reads, host_reads, runs_from}
use Rattle.direct_proof.proofs.submits.Submitting.{AreBefore}
use Rattle.direct_proof.proofs.shared.Found.{before, unmap-each}
use Rattle.direct_proof.proofs.shared.New.{IsDrawn, not-zero}
use Rattle.direct_proof.specs.Deeds.{as_deeds}
use Rattle.direct_proof.specs.Runs.{IsRun}

pub run-sound : (st : State) → IsRun st → IsSound st
run-sound st r = subst IsSound (state-run first_id r.0 ∙ sym r.1) (state-sound first_id r.0)

step-is : {S : Type 0} (w : World S) (x : GateItem) → (gate_move as_deeds w x).world.gate ≡ step w.gate x
step-is w x = elim (is_left_out w.gate x) as (λ b. (cond b (quiet w) (gate_made as_deeds w (mark_of w.gate x))).world.gate ≡ cond b w.gate (with_mark w.gate (mark_of w.gate x))) [ true ↦ refl | false ↦ refl ]

stepped : {S : Type 0} (w : World S) (x : GateItem) → IsRun w.gate → IsRun (gate_move as_deeds w x).world.gate
stepped w x r = (x ∷ r.0, step-is w x ∙ ap (λ (st : State). step st x) r.1)

pub move-run : {S : Type 0} (m : Meaning S) (w : World S) (x : Move) → IsRun w.gate → IsRun (move as_deeds m w x).world.gate
move-run m w (ByClient x) r = stepped w x r
move-run {S = S} m w HostReads r = go w.to_host
  where
    go : (ps : List (ℕ × RedirPacket)) → IsRun (host_reads as_deeds m w ps).world.gate
    go [] = r
    go (p ∷ ps) = r
move-run {S = S} m w (GateReads place) r = go w.to_gate
  where
    go : (ps : List (ℕ × RedirPacket)) → IsRun (gate_reads as_deeds w place ps).world.gate
    go [] = r
    go (p ∷ ps) = stepped (record w { to_gate = ps }) (Told place (sent_header w.gate.sides.agreed p) p.1) r
move-run m w (Performs ep) r = r
move-run m w (Offers ep) r = r
move-run m w Unplugs r = r

pub runs-run : {S : Type 0} (m : Meaning S) (w : World S) → IsRun w.gate → (xs : List Move) → IsRun (runs_from as_deeds m w xs).world.gate
runs-run m w r [] = r
runs-run m w r (x ∷ xs) = move-run m (runs_from as_deeds m w xs).world x (runs-run m w r xs)

-- the ids that an item draws are in flight nowhere
live-submits : (ms : List Mark) (ss : List Submission) → map (λ (p : Pending). p.submit) (map (pending ms) ss) ≡ ss
live-submits ms [] = refl
live-submits ms (s ∷ ss) = ap (λ (l : List Submission). s ∷ l) (live-submits ms ss)

flying-is : (first : ℕ) (ms : List Mark) → flying (state_of first ms) ≡ in_flight ms
flying-is first ms = ap (λ (ss : List Submission). ids_of ss ++ ids_of (abandoned ms) ++ ids_of_streams (stream_ids ms)) (live-submits ms (live ms))

pub run-fresh : (st : State) → IsRun st → (x : GateItem) → HasFewPackets x → Each (IsDrawn st) (mark_of st x).drawn
run-fresh st r x few = subst (λ (s : State). Each (IsDrawn s) (mark_of s x).drawn) (state-run first_id r.0 ∙ sym r.1) (each-of (mark_of was x).drawn fresh.fit fresh.free)
  where
    was : State
    was = state_of first_id (past first_id r.0)

    fresh : AreFresh (greatest (wide_ids was.sides.agreed)) (in_flight (past first_id r.0)) (mark_of was x).drawn
    fresh = item-fresh first_id r.0 x few

    each-of : (ids : List ℕ) → Each (Fits (greatest (wide_ids was.sides.agreed))) ids → Each (λ (id : ℕ). holds (in_flight (past first_id r.0)) id ≡ false) ids → Each (IsDrawn was) ids
    each-of [] h k = tt
    each-of (id ∷ ids) h k = ((not-zero id h.0.low, ap (λ (fs : List ℕ). holds fs id) (flying-is first_id (past first_id r.0)) ∙ k.0), each-of ids h.1 k.1)

pub run-before : (st : State) → IsRun st → AreBefore st.items st.live
run-before st r = before st.items st.live (unmap-each (λ (x : Submission). x.place < st.items) (λ (p : Pending). p.submit) st.live (run-sound st r).places)
