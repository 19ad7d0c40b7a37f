-- A key leads to one pair.
use Rattle.std.proofs.Common.{◌≡◌, ℕ, zero, suc, ◌<◌, ◌≤◌, ◌⊎◌, inl, inr, List, [], ◌∷◌, ◌++◌, length, get_or, Option, Some, None, refl, ap, sym, subst, ◌∙◌, arith}
use Rattle.urb_arena.specs.Inner.Columns.{There}
use Rattle.urb_arena.specs.Distinct.{Distinct, itself}
use Rattle.urb_arena.specs.Inner.Turns.{row, listed, In}
use Rattle.urb_arena.specs.Lanes.{first_key, key_after, ByKey}
use Rattle.urb_arena.specs.Inner.Tables.{pairs, IsTable, lanes_of}
use Rattle.urb_arena.specs.declared.table.Table.{Table}
use Rattle.urb_arena.proofs.Joins.{In-left, In-right, Distinct-without}
use Rattle.urb_arena.proofs.Lanes.{pairs_there, after-there, after-absent, listed_at, listed-length, search-one}
use Rattle.urb_arena.proofs.Views.{table_found}

in_range : (m r : ℕ) → (r < m) ⊎ (m ≤ r)
in_range zero r = inr (omega arith)
in_range (suc m) zero = inl (omega arith)
in_range (suc m) (suc r) = elim (in_range m r) [ inl h ↦ inl (omega (arith, h)) | inr h ↦ inr (omega (arith, h)) ]

module _ {X : Type 0} where
  abbrev Split : List (Option X) → List ℕ → ℕ × X → List (ℕ × X) → Type 0
  Split vs ks p ys = (js₀ : List ℕ) × ((bs : List ℕ) × ((ks ≡ js₀ ++ p.0 ∷ bs) × (get_or vs p.0 None ≡ Some p.1) × (pairs vs bs ≡ ys)))

  tail_of : List (ℕ × X) → List (ℕ × X)
  tail_of [] = []
  tail_of (q ∷ qs) = qs

  head_of : ℕ × X → List (ℕ × X) → ℕ × X
  head_of d [] = d
  head_of d (q ∷ qs) = q

  pairs-split : (vs : List (Option X)) (ks : List ℕ) → ((k : ℕ) → In k ks → There vs k) → (xs : List (ℕ × X)) (p : ℕ × X) (ys : List (ℕ × X)) → pairs vs ks ≡ xs ++ p ∷ ys → Split vs ks p ys
  unfolding tail_of head_of
  pairs-split vs [] there [] p ys e = absurd (let l = ap length e in omega (arith, l))
  pairs-split vs [] there (q ∷ xs) p ys e = absurd (let l = ap length e in omega (arith, l))
  pairs-split vs (k ∷ ks) there [] p ys e =
      let x = there k (inl refl) in let e' : (k, x.0) ∷ pairs vs ks ≡ p ∷ ys = sym (pairs_there vs k ks x.0 x.1) ∙ e in
      let at : (k, x.0) ≡ p = ap (head_of p) e' in
      ([], (ks, (ap (λ (q : ℕ × X). q.0 ∷ ks) at, subst (λ (q : ℕ × X). get_or vs q.0 None ≡ Some q.1) at x.1, ap tail_of e')))
  pairs-split vs (k ∷ ks) there (q ∷ xs) p ys e =
      let x = there k (inl refl) in let e' = sym (pairs_there vs k ks x.0 x.1) ∙ e in
      let rest = pairs-split vs ks (λ j i. there j (inr i)) xs p ys (ap tail_of e') in
      (k ∷ rest.0, (rest.1.0, (ap (λ js. k ∷ js) rest.1.1.0, rest.1.1.1, rest.1.1.2)))

  past : (pss : List (List (ℕ × X))) (r : ℕ) → length pss ≤ r → get_or pss r [] ≡ []
  past [] r le = refl
  past (ps ∷ pss) zero le = absurd (omega (arith, le))
  past (ps ∷ pss) (suc r) le = past pss r (omega (arith, le))

  pub table_by_key : (t : Table X) → IsTable t → ByKey (lanes_of t)
  unfolding lanes_of
  table_by_key t is r xs p ys e =
      let ls = t.block.links in let vs = t.block.values in let m = t.lanes in let lane : ℕ → List (ℕ × X) = λ q. pairs vs (row ls q) in
      elim (in_range m r) [
        | inr far ↦ absurd (let long = listed-length lane m in let none = ap length (sym (past (listed lane m) r (omega (arith, far, long))) ∙ e) in let l = some xs in omega (arith, none, l))
        | inl lt ↦ (
            let rm : r ≤ m = omega (arith, lt) in
            let holds : (k : ℕ) → In k (row ls r) → There vs k = λ k i. (let at = is.tied.members r rm k i in let ring = at.2 in is.filled.live k at.0 at.1 (omega (arith, ring, lt))) in
            let cut = pairs-split vs (row ls r) holds xs p ys (sym (listed_at lane m r [] lt) ∙ e) in let js₀ = cut.0 in let bs = cut.1.0 in
            let here : In p.0 (row ls r) = subst (λ ks. In p.0 ks) (sym cut.1.1.0) (In-right p.0 js₀ (p.0 ∷ bs) (inl refl)) in
            let at = is.tied.members r rm p.0 here in let ring = at.2 in
            let alone = (Distinct-without js₀ p.0 bs (subst (Distinct itself) cut.1.1.0 (is.tied.distinct r rm))).1 in (
              table_found t is p.0 (at.0, at.1, omega (arith, ring, lt)) ∙ cut.1.1.1,
              search-one (key_after p.0) lane m r (first_key ys)
                  (ap (λ ks. key_after p.0 (pairs vs ks)) cut.1.1.0 ∙ after-there vs js₀ p.0 bs p.1 cut.1.1.1 (λ i. alone (In-left p.0 js₀ bs i)) ∙ ap first_key cut.1.1.2)
                  (λ q qm ne. after-absent vs p.0 (row ls q) (λ i. ne (sym (is.tied.members q (omega (arith, qm)) p.0 i).2 ∙ at.2))) lt,
            ))
      ]
    where
      some : (xs : List (ℕ × X)) → 0 < length (xs ++ p ∷ ys)
      some [] = omega arith
      some (x ∷ xs) = omega arith
