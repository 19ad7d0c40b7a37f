-- What the gateway's laws say where it accepts a submit that waits: its id is free, and its number differs.
use Rattle.direct_proof.proofs.streams.submits.Drawn.{any-back}
use Rattle.std.proofs.Common.{◌≡◌, ℕ, ◌≤◌, ◌==◌, Bool, true, false, List, [], ◌∷◌, ◌++◌, map, refl, ap, subst, arith}
use Rattle.std.specs.List.{count_by, AllByRecursion as Each}
use Rattle.usb_base.specs.declared.endpoint.EpRow.{EpRow}
use Rattle.gate_history.specs.declared.request.Request.{Request}
use Rattle.gate_history.specs.state.Flight.{wide_ids, ids_of}
use Rattle.gate_history.specs.state.Ids.{AreFresh, holds, greatest}
use Rattle.gate_history.specs.state.StreamIds.{ids_of_streams}
use Rattle.gate_history.specs.step.Marks.{Submission}
use Rattle.gate_history.specs.client.Submits.{Pending}
use Rattle.gate_history.specs.write.Output.{fresh}
use Rattle.gate_history.specs.state.Sound.{IsSound}
use Rattle.gate_history.specs.state.State.{State, submits, flying, next_ids, has_number, is_number as has_seq}
use Rattle.gate_history.proofs.lemmas.state.StreamIds.{AreLong}
use Rattle.direct_proof.proofs.shared.New.{next_id}
use Rattle.direct_proof.proofs.lists.Counts.{count-append, count-zero, any-none}
use Rattle.direct_proof.proofs.streams.fills.FillLists.{weight}
use Rattle.direct_proof.proofs.streams.fills.Fills.{Differ, has_seqnum}
use Rattle.direct_proof.proofs.streams.submits.Waits.{waiter, with_waiter}

-- what is true of every gateway: its laws
pub record IsGate (st : State) : Type 0 where
  pub sound : IsSound st
  pub long : AreLong st.stream_ids
  pub fresh : AreFresh (greatest (wide_ids st.sides.agreed)) (flying st) (next_ids st 1)

-- the id that is drawn is that of no start or stop
pub id-free : (st : State) → IsGate st → holds (ids_of_streams st.stream_ids) (next_id st) ≡ false
id-free st g = any-back (ids_of (submits st) ++ ids_of st.abandoned) (ids_of_streams st.stream_ids) (next_id st) (g.fresh.free.0)

pub differ-more : (st : State) (r : Request) (row : EpRow) → Differ st.live → has_number st r.seqnum ≡ false → Differ (with_waiter st r row)
differ-more st r row d new n = go (r.seqnum == n) refl
  where
    none : Each (λ (p : Pending). has_seqnum r.seqnum p ≡ false) st.live
    none = unmapped st.live (any-none (has_seq r.seqnum) (submits st) new)
      where
        unmapped : (ps : List Pending) → Each (λ (s : Submission). has_seq r.seqnum s ≡ false) (map (λ (p : Pending). p.submit) ps) → Each (λ (p : Pending). has_seqnum r.seqnum p ≡ false) ps
        unmapped [] h = tt
        unmapped (p ∷ ps) h = (h.0, unmapped ps h.1)

    go : (b : Bool) → (r.seqnum == n) ≡ b → count_by (has_seqnum n) (with_waiter st r row) ≤ 1
    go false e = let few = d n in let z : weight (r.seqnum == n) ≡ weight false = ap weight e in omega (arith, few, z, count-append (has_seqnum n) st.live (fresh (waiter st r row) ∷ []))
    go true e =
        let same : r.seqnum ≡ n = grind (arith, e) in
        let z : weight (r.seqnum == n) ≡ weight true = ap weight e in
        let c : count_by (has_seqnum n) st.live ≡ 0 = subst (λ (k : ℕ). count_by (has_seqnum k) st.live ≡ 0) same (count-zero (has_seqnum r.seqnum) st.live none) in
        omega (arith, c, z, count-append (has_seqnum n) st.live (fresh (waiter st r row) ∷ []))
