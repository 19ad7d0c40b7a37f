-- A table is emptied, lane by lane, and its block goes back.
use Rattle.std.proofs.Common.{◌≡◌, ℕ, zero, suc, ◌+◌, ◌<◌, ◌≤◌, ◌⊎◌, inl, inr, List, [], ◌∷◌, length, map, replicate, get_or, Option, Some, None, refl, ap, sym, ◌∙◌, arith}
use Rattle.std.proofs.lemmas.Bool.{eq-eqb, cases_eq}
use Rattle.urb_arena.specs.Inner.Turns.{ring_of, row, In}
use Rattle.std.specs.Option.{option_or}
use Rattle.urb_arena.specs.Lanes.{find, without, first_key, count, find_in}
use Rattle.urb_arena.specs.Inner.Tables.{pairs, IsTable, lanes_of}
use Rattle.urb_arena.specs.declared.table.Table.{Table}
use Rattle.urb_arena.proofs.Joins.{total_at}
use Rattle.urb_arena.proofs.Lanes.{listed-length}
use Rattle.urb_arena.proofs.Views.{table_len}

differ : {Y : Type 0} (y : Y) → Some y ≡ None → ⊥
differ {Y} y e = let one = ap {B = ℕ} (λ (c : Option Y). elim c as (λ _. ℕ) [ None ↦ 0 | Some i ↦ 1 ]) e in omega (arith, one)

module _ {X : Type 0} where
  -- a first key is found
  pub first_found : (k : ℕ) (pss : List (List (ℕ × X))) (r : ℕ) → first_key (get_or pss r []) ≡ Some k → (x : X) × (find_in k pss ≡ Some x)
  first_found k [] r e = absurd (differ k (sym e))
  first_found k (ps ∷ pss) zero e = here ps e
    where
      here : (ps : List (ℕ × X)) → first_key ps ≡ Some k → (x : X) × (option_or (find k ps) (find_in k pss) ≡ Some x)
      here [] e = absurd (differ k (sym e))
      here ((j, x) ∷ ps) e = (x, rw (eq-eqb j k (same e)) refl)
        where
          same : {j k : ℕ} → Some j ≡ Some k → j ≡ k
          same e = ap {B = ℕ} (λ (c : Option ℕ). elim c as (λ _. ℕ) [ None ↦ 0 | Some i ↦ i ]) e
  first_found k (ps ∷ pss) (suc r) e = more (find k ps) (first_found k pss r e)
    where
      more : (c : Option X) → (x : X) × (find_in k pss ≡ Some x) → (x : X) × (option_or c (find_in k pss) ≡ Some x)
      more None rest = rest
      more (Some y) rest = (y, refl)

  pub still_empty : (k : ℕ) (pss : List (List (ℕ × X))) (r : ℕ) → get_or pss r [] ≡ [] → get_or (map (without k) pss) r [] ≡ []
  still_empty k [] r e = refl
  still_empty k (ps ∷ pss) zero e = ap (without k) e
  still_empty k (ps ∷ pss) (suc r) e = still_empty k pss r e

  pub counts_none : (pss : List (List (ℕ × X))) → ((r : ℕ) → r < length pss → get_or pss r [] ≡ []) → count pss ≡ 0
  counts_none [] h = refl
  counts_none (ps ∷ pss) h = let rest = counts_none pss (λ r lt. h (suc r) (omega (arith, lt))) in let here = ap length (h 0 (omega arith)) in omega (arith, rest, here)

  all_bare : (vs : List (Option X)) → ((i : ℕ) → i < length vs → get_or vs i None ≡ None) → vs ≡ replicate (length vs) None
  all_bare [] h = refl
  all_bare (c ∷ vs) h = (λ i. h 0 (omega arith) i ∷ all_bare vs (λ j lt. h (suc j) (omega (arith, lt))) i)

  module _ (t : Table X) (is : IsTable t) where
    pub lanes_length : length (lanes_of t) ≡ t.lanes
    unfolding lanes_of
    lanes_length = listed-length (λ r. pairs t.block.values (row t.block.links r)) t.lanes

    pub emptied : count (lanes_of t) ≡ 0 → t.block.values ≡ replicate (t.lanes + 1 + t.capacity) None
    emptied nothing =
        let long = is.filled.long in let size = is.tied.size in let n = table_len t is in let all = is.len in
        all_bare t.block.values (λ i lt. bare i (omega (arith, lt, long))) ∙ ap (λ k. replicate k None) (omega (arith, long, size))
      where
        not_in : (k : ℕ) (ks : List ℕ) → length ks ≡ 0 → In k ks → ⊥
        not_in k [] e i = i
        not_in k (j ∷ ks) e i = absurd (omega (arith, e))

        bare : (i : ℕ) → i < length t.block.links → get_or t.block.values i None ≡ None
        bare i lt = elim (cases_le i t.lanes) [
          | inl low ↦ is.filled.bare i lt (inl low)
          | inr high ↦ (
              let at = is.tied.found i high lt in
              elim (cases_eq (ring_of t.block.links i) t.lanes) [
                | inl e ↦ is.filled.bare i lt (inr e)
                | inr ne ↦ (
                    let rm = at.0 in let few = total_at (row t.block.links) t.lanes (ring_of t.block.links i) (omega (arith, ne, rm)) in let n = table_len t is in let all = is.len in
                    absurd (not_in i (row t.block.links (ring_of t.block.links i)) (omega (arith, few, n, all, nothing)) at.1))
              ])
        ]
          where
            cases_le : (a b : ℕ) → (a ≤ b) ⊎ (b < a)
            cases_le zero b = inl (omega arith)
            cases_le (suc a) zero = inr (omega arith)
            cases_le (suc a) (suc b) = elim (cases_le a b) [ inl h ↦ inl (omega (arith, h)) | inr h ↦ inr (omega (arith, h)) ]
