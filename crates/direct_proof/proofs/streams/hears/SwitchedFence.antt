-- The host reads a start or a stop: what the move makes, and the fence.
use Rattle.std.proofs.Common.{◌≡◌, ℕ, ◌+◌, ◌≤◌, ◌==◌, ◌&&◌, ◌||◌, not, Bool, true, false, cond, List, [], ◌∷◌, ◌++◌, Option, Some, None, refl, sym, ap, ◌∙◌, arith, append-nil, true≢false}
use Rattle.redir_data.specs.declared.packet.RedirPacket.{RedirPacket}
use Rattle.redir_data.specs.Streams.{advanced}
use Rattle.model_device.specs.Meaning.{Meaning}
use Rattle.redir_host.specs.declared.state.running.Running.{Running}
use Rattle.redir_host.specs.step.Moves.{quiet as host_quiet}
use Rattle.redir_host.specs.guest.Packets.{packet_move_by}
use Rattle.gate_history.specs.state.Ids.{times}
use Rattle.gate_history.proofs.lemmas.state.StreamIds.{times-append}
use Rattle.direct_run.specs.Moves.{World, HostReads, move, quiet, host_reads, host_takes}
use Rattle.direct_proof.specs.Deeds.{as_deeds}
use Rattle.direct_proof.specs.Tagged.{Tagged, Stated, on_wire}
use Rattle.direct_proof.specs.StreamIds.{Fenced, stream_id, statuses_on, stream_ids_on}
use Rattle.direct_proof.specs.Stale.{is_fence}
use Rattle.direct_proof.proofs.streams.fills.FillLists.{weight}
use Rattle.direct_proof.proofs.streams.hears.Switching.{HostSwitches}

-- ---- what the move makes

abbrev pub switched_world : {S : Type 0} → World S → List (ℕ × RedirPacket) → List Running → ℕ × RedirPacket → World S
switched_world w ps running p = record w { to_host = ps; host = record w.host { running = running }; to_gate = w.to_gate ++ p ∷ [] }

pub switched-moved : {S : Type 0} (m : Meaning S) (w : World S) (q : ℕ × RedirPacket) (ps : List (ℕ × RedirPacket)) (c : HostSwitches m w.host w.gate.streams q) → w.to_host ≡ q ∷ ps → w.host.unplugged ≡ false →
    move as_deeds m w HostReads ≡ quiet (switched_world w ps c.running (on_wire (Stated c.kind q.0 c.ep 0)))
switched-moved {S = S} m w q ps c wire plugged =
    ap (host_reads as_deeds m w) wire
    ∙ ap (host_takes as_deeds (record w { to_host = ps })) (
    (λ i. cond (plugged i) (host_quiet (record w.host { guest = c.same i })) (packet_move_by m (record w.host { guest = c.same i }) q.0 q.1))
    ∙ c.moved)

pub unheard-moved : {S : Type 0} (m : Meaning S) (w : World S) (q : ℕ × RedirPacket) (ps : List (ℕ × RedirPacket)) → advanced w.host.guest q.1 ≡ w.host.guest → w.to_host ≡ q ∷ ps → w.host.unplugged ≡ true →
    move as_deeds m w HostReads ≡ quiet (record w { to_host = ps })
unheard-moved m w q ps same wire gone =
    ap (host_reads as_deeds m w) wire
    ∙ ap (host_takes as_deeds (record w { to_host = ps })) (λ i. cond (gone i) (host_quiet (record w.host { guest = same i })) (packet_move_by m (record w.host { guest = same i }) q.0 q.1))
    ∙ (λ i. quiet (record w { to_host = ps; to_gate = append-nil w.to_gate i }))

-- ---- the fence

abbrev pub unfenced : Option ℕ → ℕ → Bool → Bool
unfenced fence id fenced = fenced && not (is_fence fence id)

pub stays-clean : (a f x : Bool) → (a || f) ≡ true → ((a || (f && not x)) || (x || false)) ≡ true
stays-clean true f x h = refl
stays-clean false true true h = refl
stays-clean false true false h = refl
stays-clean false false x h = absurd (true≢false (sym h))

pub fenced-switched : (fence : Option ℕ) (fenced : Bool) (q : ℕ × RedirPacket) (ps : List (ℕ × RedirPacket)) (back : List Tagged) (b : Tagged) → stream_id q ≡ q.0 ∷ [] → statuses_on (back ++ b ∷ []) ≡ statuses_on back ++ q.0 ∷ [] →
    ((id : ℕ) → times id (stream_ids_on (q ∷ ps)) + times id (statuses_on back) ≤ 1) → Fenced fence fenced (q ∷ ps) back → Fenced fence (unfenced fence q.0 fenced) ps (back ++ b ∷ [])
fenced-switched None fenced q ps back b id stated once h = ap (λ (x : Bool). x && true) h
fenced-switched (Some f) fenced q ps back b id stated once h = by (f == q.0) refl
  where
    here : times f (stream_ids_on (q ∷ ps)) ≡ (cond (f == q.0) 1 0 + 0) + times f (stream_ids_on ps)
    here = times-append f (stream_id q) (stream_ids_on ps) ∙ ap (λ (l : List ℕ). times f l + times f (stream_ids_on ps)) id

    more : times f (statuses_on (back ++ b ∷ [])) ≡ times f (statuses_on back) + (cond (f == q.0) 1 0 + 0)
    more = ap (times f) stated ∙ times-append f (statuses_on back) (q.0 ∷ [])

    by : (x : Bool) → (f == q.0) ≡ x → (1 ≤ times f (stream_ids_on ps) → (fenced && not (f == q.0)) ≡ true) × ((fenced && not (f == q.0)) ≡ true → times f (statuses_on (back ++ b ∷ [])) ≡ 0)
    by true e = (
      (λ k. let o = once f in let z : weight (f == q.0) ≡ weight true = ap weight e in absurd (omega (arith, k, o, z, here))),
      (λ k. absurd (and-false fenced (sym k ∙ ap (λ (y : Bool). fenced && not y) e))),
    )
      where
        and-false : (y : Bool) → true ≡ (y && false) → ⊥
        and-false true z = true≢false z
        and-false false z = true≢false z
    by false e = (
      (λ k. let z : weight (f == q.0) ≡ weight false = ap weight e in ap (λ (y : Bool). fenced && not y) e ∙ and-true fenced (h.0 (omega (arith, k, z, here)))),
      (λ k. let z : weight (f == q.0) ≡ weight false = ap weight e in let s = h.1 (fst-true fenced (sym (ap (λ (y : Bool). fenced && not y) e) ∙ k)) in omega (arith, s, z, more)),
    )
      where
        and-true : (y : Bool) → y ≡ true → (y && true) ≡ true
        and-true y z = ap (λ (v : Bool). v && true) z

        fst-true : (y : Bool) → (y && true) ≡ true → y ≡ true
        fst-true true z = refl
        fst-true false z = z
