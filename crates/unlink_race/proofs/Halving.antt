-- A binary search of the keys by the ranks of their requests.
use Rattle.std.proofs.Common.{◌≡◌, ◌≢◌, ◌==◌, ℕ, zero, suc, ◌+◌, ◌<◌, ◌≤◌, List, [], ◌∷◌, length, get_or, Option, Some, None, Result, Ok, Err, refl, ap, sym, ◌∙◌, arith, inl, inr}
use Rattle.std.specs.List.{position}
use Rattle.std.specs.List.Sorted.{IsSearchInRange, IsBinarySearchResult, IsNonDecreasingBy}
use Rattle.std.specs.Option.{option_map, option_cmp}
use Rattle.std.specs.Ordering.{nat_cmp, ordering_index}
use Rattle.std.specs.declared.cmp.Ordering.{Ordering}
use Rattle.std.specs.Result.{result_ok}
use Rattle.std.proofs.lemmas.Bool.{lt-ltb, le-ltb, eq-eqb, ne_eqb, cases_lt, cases_eq}
use Rattle.std.proofs.lemmas.Bool.Decides.{nat_tests}
use Rattle.std.proofs.lemmas.Cmp.{ranked}
use Rattle.std.proofs.lemmas.List.{get_or-map, get_or_default}
use Rattle.std.proofs.lemmas.List.Sorted.{IsNonDecreasingBy-from_default}
use Rattle.std.proofs.lemmas.List.Sums.{position_or_len_is}
use Rattle.std.proofs.lemmas.Option.{slice_get-get_or}
use Rattle.urb_arena.specs.ArenaView.{ArenaView}
use Rattle.unlink_race.specs.declared.live.Live.{Live}
use Rattle.unlink_race.specs.Inner.Listed.{IsKeyed}
use Rattle.unlink_race.specs.Inner.Sound.{entry_of, in_order, ranks_of, Rises}
use Rattle.unlink_race.proofs.Dealing.{long_ranks}
use Rattle.unlink_race.proofs.Ids.{no_live}
use Rattle.unlink_race.proofs.Rows.{length-listed, took_at}

abbrev key_of : ℕ → ℕ
key_of k = k

-- each rising rank is below those behind it
pub rises_at : (low : ℕ) (ns : List ℕ) (high i j : ℕ) → Rises low ns high → i < j → j < length ns → get_or ns i 0 < get_or ns j 0
rises_at low [] high i j rises before within = absurd (omega (arith, within))
rises_at low (n ∷ ns) high zero zero rises before within = absurd (omega (arith, before))
rises_at low (n ∷ ns) high zero (suc j) rises before within = let above = at_least (n + 1) ns high j rises.1 (omega (arith, within)) in omega (arith, above)
  where
    at_least : (low : ℕ) (ns : List ℕ) (high j : ℕ) → Rises low ns high → j < length ns → low ≤ get_or ns j 0
    at_least low [] high j rises within = absurd (omega (arith, within))
    at_least low (n ∷ ns) high zero rises within = rises.0
    at_least low (n ∷ ns) high (suc j) rises within = let first = rises.0 in let later = at_least (n + 1) ns high j rises.1 (omega (arith, within)) in omega (arith, first, later)
rises_at low (n ∷ ns) high (suc i) zero rises before within = absurd (omega (arith, before))
rises_at low (n ∷ ns) high (suc i) (suc j) rises before within = rises_at (n + 1) ns high i j rises.1 (omega (arith, before)) (omega (arith, within))

-- the rank that a key leads to
abbrev pub rank_at : ArenaView (ℕ × Live) → ℕ → Option ℕ
rank_at arena r = option_map (λ (e : ℕ × Live). e.0) (entry_of arena r)

module _ (arena : ArenaView (ℕ × Live)) (keys : List ℕ) (kept : IsKeyed key_of (entry_of arena) keys) where
  abbrev ranks : List ℕ
  ranks = ranks_of arena keys

  long : length (ranks_of arena keys) ≡ length keys
  long = long_ranks arena keys kept

  leads : (i : ℕ) → i < length keys → rank_at arena (get_or keys i 0) ≡ Some (get_or (ranks_of arena keys) i 0)
  leads i within =
      let all = length-listed key_of (entry_of arena) keys kept in
      let inside : i < length (in_order arena keys) = omega (arith, all, within) in
      let row = get_or keys i 0 in
      let took = took_at key_of (entry_of arena) (entry_of arena) keys i row within (get_or_default keys i 0 row within) (λ _ _. refl) kept in
      ap (option_map (λ (e : ℕ × Live). e.0)) (took.entry ∙ slice_get-get_or (in_order arena keys) i (0, no_live) inside)
      ∙ ap Some (sym (get_or-map (λ (e : ℕ × Live). e.0) (in_order arena keys) i (0, no_live) 0 inside))

  module _ (high : ℕ) (rises : Rises 0 (ranks_of arena keys) high) (rank : ℕ) where
    up : (i j : ℕ) → i < j → j < length keys → get_or (ranks_of arena keys) i 0 < get_or (ranks_of arena keys) j 0
    up i j before within = rises_at 0 (ranks_of arena keys) high i j rises before (let e = long in omega (arith, within, e))

    -- the rank stands at one place, or at none
    pub rank_at_place : (i : ℕ) → i < length keys → get_or (ranks_of arena keys) i 0 ≡ rank → Some i ≡ position (λ n. n == rank) (ranks_of arena keys)
    rank_at_place i within is =
        let e = long in
        let inside : i < length (ranks_of arena keys) = omega (arith, within, e) in
        let at = position_or_len_is (λ n. n == rank) (ranks_of arena keys) i 0 (omega (arith, inside)) (λ k before. ne_eqb _ rank (λ same. (let less = up k i before within in omega (arith, less, same, is)))) (λ _. eq-eqb _ rank is) in
        rw (at, lt-ltb i (length (ranks_of arena keys)) inside) refl

    pub rank_first : 0 < length keys → rank_at arena (get_or keys 0 0) ≡ Some rank → Some 0 ≡ position (λ n. n == rank) (ranks_of arena keys)
    rank_first some is =
        let e : Some (get_or (ranks_of arena keys) 0 0) ≡ Some rank = sym (leads 0 some) ∙ is in
        rank_at_place 0 some (cc)

    rank_nowhere : ((k : ℕ) → k < length keys → get_or (ranks_of arena keys) k 0 ≢ rank) → None ≡ position (λ n. n == rank) (ranks_of arena keys)
    rank_nowhere none =
        let e = long in
        let n = length (ranks_of arena keys) in
        let at = position_or_len_is (λ n. n == rank) (ranks_of arena keys) n 0 (omega arith) (λ k before. ne_eqb _ rank (none k (omega (arith, before, e)))) (λ past. absurd (omega (arith, past))) in
        rw (at, le-ltb n n (omega arith)) refl

    abbrev compared : ℕ → Ordering
    compared r = option_cmp nat_cmp (rank_at arena r) (Some rank)

    compared_at : (i : ℕ) → i < length keys → compared (get_or keys i 0) ≡ nat_cmp (get_or (ranks_of arena keys) i 0) rank
    compared_at i within = ap (λ o. option_cmp nat_cmp o (Some rank)) (leads i within)

    ordered : (a b : ℕ) → a ≤ b → ordering_index (nat_cmp a rank) ≤ ordering_index (nat_cmp b rank)
    ordered a b le = grind (arith, nat_tests)

    rise : IsNonDecreasingBy (λ r. ordering_index (compared r)) keys
    rise = IsNonDecreasingBy-from_default (λ r. ordering_index (compared r)) keys 0 (λ i j le within.
        elim (cases_eq i j) [
          | inl same ↦ (let e : ordering_index (compared (get_or keys i 0)) ≡ ordering_index (compared (get_or keys j 0)) = ap (λ k. ordering_index (compared (get_or keys k 0))) same in omega (arith, e))
          | inr other ↦ (
              let less = up i j (omega (arith, le, other)) within in
              rw (compared_at i (omega (arith, le, within)), compared_at j within) (ordered _ _ (omega (arith, less))))
        ])

    pub halved : (r : Result ℕ ℕ) → IsSearchInRange r (length keys) → IsBinarySearchResult compared keys r → result_ok r ≡ position (λ n. n == rank) (ranks_of arena keys)
    halved (Ok i) within equal = rank_at_place i within (ranked _ rank _ (sym (sym (compared_at i within) ∙ equal 0)))
    halved (Err i) within parted = rank_nowhere (λ k inside same.
        elim (cases_lt k i) [
          | inl before ↦ (let less : get_or (ranks_of arena keys) k 0 < rank = ranked _ rank _ (sym (sym (compared_at k inside) ∙ (parted rise).0 k 0 (omega arith) before)) in omega (arith, less, same))
          | inr after ↦ (let more : rank < get_or (ranks_of arena keys) k 0 = ranked _ rank _ (sym (sym (compared_at k inside) ∙ (parted rise).1 k 0 after inside)) in omega (arith, more, same))
        ])
