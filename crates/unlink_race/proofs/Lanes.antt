-- What a change of an arena's lanes makes of what is found by a key, and of how many values there are.
use Rattle.std.proofs.Common.{◌≡◌, ◌≢◌, ◌==◌, ℕ, zero, suc, ◌+◌, ◌<◌, cond, List, [], ◌∷◌, ◌++◌, length, map, get_or, set, Option, Some, None, refl, ap, sym, ◌∙◌, arith, inl, inr}
use Rattle.std.specs.Option.{option_map, option_or}
use Rattle.std.proofs.lemmas.Bool.{ne_eqb, eq-eqb, cases_eq}
use Rattle.std.proofs.lemmas.List.{length-append}
use Rattle.urb_arena.specs.Lanes.{find, without, replaced, count, find_in}

module _ {X : Type 0} where
  option_or_none : (o : Option X) → option_or o None ≡ o
  option_or_none None = refl
  option_or_none (Some x) = refl

  option_or_map : (f : X → X) (o q : Option X) → option_or (option_map f o) (option_map f q) ≡ option_map f (option_or o q)
  option_or_map f None q = refl
  option_or_map f (Some x) q = refl

  none_left : (o q : Option X) → option_or o q ≡ None → o ≡ None
  none_left None q is = refl
  none_left (Some x) q is = is

  none_right : (o q : Option X) → option_or o q ≡ None → q ≡ None
  none_right None q is = is
  none_right (Some x) q is = let e : Some x ≡ None = is in absurd (cc)

  -- the first pair is that of k, or is passed
  here : (k j : ℕ) (x : X) (ps : List (ℕ × X)) → j ≡ k → find k ((j, x) ∷ ps) ≡ Some x
  here k j x ps same = rw (eq-eqb j k same) refl

  passed : (k : ℕ) (p : ℕ × X) (ps : List (ℕ × X)) → p.0 ≢ k → find k (p ∷ ps) ≡ find k ps
  passed k p ps other = rw (ne_eqb p.0 k other) refl

  -- ---- a pair comes last in its lane

  find_more : (k : ℕ) (ps : List (ℕ × X)) (q : ℕ × X) → find k (ps ++ q ∷ []) ≡ option_or (find k ps) (find k (q ∷ []))
  find_more k [] q = refl
  find_more k (p ∷ ps) q =
      elim (cases_eq p.0 k) [
        | inl same ↦ rw (eq-eqb p.0 k same) refl
        | inr other ↦ rw (ne_eqb p.0 k other) (find_more k ps q)
      ]

  pub found_pushed : (k : ℕ) (x : X) (pss : List (List (ℕ × X))) (l : ℕ) → l < length pss → find_in k pss ≡ None → find_in k (set pss l (get_or pss l [] ++ (k, x) ∷ [])) ≡ Some x
  found_pushed k x [] l within none = absurd (omega (arith, within))
  found_pushed k x (ps ∷ pss) zero within none =
      ap (λ o. option_or o (find_in k pss)) (find_more k ps (k, x) ∙ ap (λ o. option_or o (find k ((k, x) ∷ []))) (none_left (find k ps) (find_in k pss) none) ∙ here k k x [] refl)
  found_pushed k x (ps ∷ pss) (suc l) within none =
      ap (λ o. option_or o (find_in k (set pss l (get_or pss l [] ++ (k, x) ∷ [])))) (none_left (find k ps) (find_in k pss) none) ∙ found_pushed k x pss l (omega (arith, within)) (none_right (find k ps) (find_in k pss) none)

  pub others_pushed : (j k : ℕ) (x : X) → j ≢ k → (pss : List (List (ℕ × X))) (l : ℕ) → find_in j (set pss l (get_or pss l [] ++ (k, x) ∷ [])) ≡ find_in j pss
  others_pushed j k x other [] l = refl
  others_pushed j k x other (ps ∷ pss) zero =
      ap (λ o. option_or o (find_in j pss)) (find_more j ps (k, x) ∙ ap (option_or (find j ps)) (passed j (k, x) [] (λ h. other (sym h))) ∙ option_or_none (find j ps))
  others_pushed j k x other (ps ∷ pss) (suc l) = ap (option_or (find j ps)) (others_pushed j k x other pss l)

  pub count_pushed : (q : ℕ × X) (pss : List (List (ℕ × X))) (l : ℕ) → l < length pss → count (set pss l (get_or pss l [] ++ q ∷ [])) ≡ count pss + 1
  count_pushed q [] l within = absurd (omega (arith, within))
  count_pushed q (ps ∷ pss) zero within = let more = length-append ps (q ∷ []) in omega (arith, more)
  count_pushed q (ps ∷ pss) (suc l) within = let rest = count_pushed q pss l (omega (arith, within)) in omega (arith, rest)

  -- ---- a pair goes

  find_without : (j k : ℕ) → j ≢ k → (ps : List (ℕ × X)) → find j (without k ps) ≡ find j ps
  find_without j k other [] = refl
  find_without j k other (p ∷ ps) =
      elim (cases_eq p.0 k) [
        | inl same ↦ rw (eq-eqb p.0 k same) (find_without j k other ps ∙ sym (passed j p ps (λ h. other (sym h ∙ same))))
        | inr stays ↦ rw (ne_eqb p.0 k stays) (ap (cond (p.0 == j) (Some p.1)) (find_without j k other ps))
      ]

  pub others_removed : (j k : ℕ) → j ≢ k → (pss : List (List (ℕ × X))) → find_in j (map (without k) pss) ≡ find_in j pss
  others_removed j k other [] = refl
  others_removed j k other (ps ∷ pss) = (λ i. option_or (find_without j k other ps i) (others_removed j k other pss i))

  -- ---- a value is written anew

  find_replaced : (k : ℕ) (x : X) (ps : List (ℕ × X)) → find k (replaced k x ps) ≡ option_map (λ _. x) (find k ps)
  find_replaced k x [] = refl
  find_replaced k x (p ∷ ps) =
      elim (cases_eq p.0 k) [
        | inl same ↦ rw (eq-eqb p.0 k same) (here k p.0 x (replaced k x ps) same)
        | inr other ↦ rw (ne_eqb p.0 k other) (passed k p (replaced k x ps) other ∙ find_replaced k x ps)
      ]

  pub found_replaced : (k : ℕ) (x : X) (pss : List (List (ℕ × X))) → find_in k (map (replaced k x) pss) ≡ option_map (λ _. x) (find_in k pss)
  found_replaced k x [] = refl
  found_replaced k x (ps ∷ pss) =
      (λ i. option_or (find_replaced k x ps i) (found_replaced k x pss i)) ∙ option_or_map (λ _. x) (find k ps) (find_in k pss)

  find_beside : (j k : ℕ) (x : X) → j ≢ k → (ps : List (ℕ × X)) → find j (replaced k x ps) ≡ find j ps
  find_beside j k x other [] = refl
  find_beside j k x other (p ∷ ps) =
      elim (cases_eq p.0 k) [
        | inl same ↦ rw (eq-eqb p.0 k same) (passed j (p.0, x) (replaced k x ps) (λ h. other (sym h ∙ same)) ∙ find_beside j k x other ps ∙ sym (passed j p ps (λ h. other (sym h ∙ same))))
        | inr stays ↦ rw (ne_eqb p.0 k stays) (ap (cond (p.0 == j) (Some p.1)) (find_beside j k x other ps))
      ]

  pub others_replaced : (j k : ℕ) (x : X) → j ≢ k → (pss : List (List (ℕ × X))) → find_in j (map (replaced k x) pss) ≡ find_in j pss
  others_replaced j k x other [] = refl
  others_replaced j k x other (ps ∷ pss) = (λ i. option_or (find_beside j k x other ps i) (others_replaced j k x other pss i))

  length-replaced : (k : ℕ) (x : X) (ps : List (ℕ × X)) → length (replaced k x ps) ≡ length ps
  length-replaced k x [] = refl
  length-replaced k x (p ∷ ps) =
      elim (cases_eq p.0 k) [
        | inl same ↦ rw (eq-eqb p.0 k same) (ap suc (length-replaced k x ps))
        | inr other ↦ rw (ne_eqb p.0 k other) (ap suc (length-replaced k x ps))
      ]

  pub count_replaced : (k : ℕ) (x : X) (pss : List (List (ℕ × X))) → count (map (replaced k x) pss) ≡ count pss
  count_replaced k x [] = refl
  count_replaced k x (ps ∷ pss) = let first = length-replaced k x ps in let rest = count_replaced k x pss in omega (arith, first, rest)
