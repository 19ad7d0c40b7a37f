-- The state after every past is sound.
use Rattle.std.proofs.Common.{◌≡◌, ℕ, ◌<◌, ◌+◌, ◌&&◌, Bool, true, false, cond, if◌then◌else◌, eqb, List, [], ◌∷◌, ◌++◌, length, map, None, refl, sym, ap, subst, ◌∙◌, arith}
use Rattle.std.specs.Prelude.{filter}
use Rattle.std.proofs.lemmas.List.{length-append, length-map}
use Rattle.std.proofs.lemmas.List.Elements.{filter-append}
use Rattle.gate_history.specs.declared.item.Item.{Item}
use Rattle.gate_history.specs.state.Ids.{times}
use Rattle.gate_history.specs.client.Verdict.{goes_by_id}
use Rattle.gate_history.specs.step.Marks.{Submission}
use Rattle.gate_history.specs.client.Submits.{accepted, is_live, live, abandoned, pending}
use Rattle.gate_history.specs.client.Ends.{has_id, at_once}
use Rattle.gate_history.specs.state.StreamIds.{stream_ids, ids_of_streams}
use Rattle.gate_history.specs.state.Flight.{ids_of}
use Rattle.gate_history.specs.state.State.{state_of, submits, is_number}
use Rattle.gate_history.specs.step.Past.{past}
use Rattle.gate_history.specs.state.Sound.{IsSound}
use Rattle.gate_history.proofs.lemmas.Lists.{Each, Each-filter}
use Rattle.gate_history.proofs.lemmas.step.Steps.{submits-is, placed}
use Rattle.gate_history.proofs.lemmas.step.Runs.{well}
use Rattle.gate_history.proofs.lemmas.client.Once.{few-numbered}
use Rattle.gate_history.proofs.lemmas.state.StreamIds.{swap, times-append}
use Rattle.gate_history.proofs.lemmas.state.Flights.{sound}

-- as often as an id is there, so many have it
one-more : (id : ℕ) (s : Submission) (ss : List Submission) → length (filter (has_id id) ss) ≡ times id (ids_of ss) → (b : Bool) →
    length (cond b (s ∷ filter (has_id id) ss) (filter (has_id id) ss)) ≡ (if b then 1 else 0) + times id (ids_of ss)
one-more id s ss h true = omega (arith, h)
one-more id s ss h false = omega (arith, h)

have-id : (id : ℕ) (ss : List Submission) → length (filter (has_id id) ss) ≡ times id (ids_of ss)
have-id id [] = refl
have-id id (s ∷ ss) =
    let h = have-id id ss in
    elim (goes_by_id s.verdict) as (λ (b : Bool). length (cond (b && eqb s.id id) (s ∷ filter (has_id id) ss) (filter (has_id id) ss)) ≡ times id (map (λ s. s.id) (cond b (s ∷ filter (λ s. goes_by_id s.verdict) ss) (filter (λ s. goes_by_id s.verdict) ss))))
    [ true ↦ ap (λ (b : Bool). length (cond b (s ∷ filter (has_id id) ss) (filter (has_id id) ss))) (swap s.id id) ∙ one-more id s ss h (eqb id s.id) | false ↦ h ]

pub state-sound : (first : ℕ) (xs : List Item) → IsSound (state_of first (past first xs))
state-sound first xs =
    let s = sound first xs in
    let ms = past first xs in
    record {
      few = omega (arith, s.few, length-map (live ms) (pending ms));
      left = s.left;
      apart = s.apart;
      gone = λ h. ap (map (pending ms)) (s.gone h);
      ids = λ id.
          let a = ap length (filter-append (has_id id) (submits (state_of first ms)) (abandoned ms)) in
          let b = length-append (filter (has_id id) (submits (state_of first ms))) (filter (has_id id) (abandoned ms)) in
          let c = ap (λ (l : List Submission). length (filter (has_id id) l)) (submits-is ms (live ms)) in
          let d = have-id id (live ms) in
          let e = have-id id (abandoned ms) in
          let f = times-append id (ids_of (live ms)) (ids_of (abandoned ms)) in
          let g = times-append id (ids_of (live ms) ++ ids_of (abandoned ms)) (ids_of_streams (stream_ids ms)) in
          omega (arith, a, b, c, d, e, f, g, s.once id);
      places = subst (Each (λ s. s.place < length ms)) (sym (submits-is ms (live ms))) (Each-filter (λ s. s.place < length ms) (is_live ms) (accepted ms) (placed ms (well first xs)));
      going = subst (Each (λ s. at_once s.verdict ≡ None)) (sym (submits-is ms (live ms))) s.going;
      numbers = λ n. omega (arith, ap (λ (l : List Submission). length (filter (is_number n) l)) (submits-is ms (live ms)), few-numbered first xs n);
    }
