-- How many of a list pass a test, and whether any does.
use Rattle.std.proofs.Common.{◌≡◌, ℕ, ◌+◌, Bool, true, false, cond, ltb, List, [], ◌∷◌, ◌++◌, ◌||◌, Some, get_or, set, refl, ap, sym, ◌∙◌, arith, inl, inr}
use Rattle.std.specs.List.{count_by, list_any, remove, slice_get}
use Rattle.std.proofs.lemmas.Bool.{lt-ltb, cases_Bool}
use Rattle.std.proofs.lemmas.List.Sums.{sum_by_push, sum_by-remove, sum_by-set}
use Rattle.std.proofs.lemmas.Option.{slice_get_within, get_or_from_slice_get}
use mir.Val.{bool_byte}
use Rattle.unlink_race.proofs.Firsts.{counted, uncounted}

pub one_for : (b : Bool) → bool_byte b ≡ cond b 1 0
one_for true = refl
one_for false = refl

module _ {X : Type 0} (p : X → Bool) where
  pub some_counted : (xs : List X) → list_any p xs ≡ ltb 0 (count_by p xs)
  some_counted [] = refl
  some_counted (x ∷ xs) =
      elim (cases_Bool (p x)) [
        | inl here ↦ (let e = counted p x xs here in ap (λ b. b || list_any p xs) here ∙ sym (lt-ltb 0 (count_by p (x ∷ xs)) (omega (arith, e))))
        | inr other ↦ ap (λ b. b || list_any p xs) other ∙ some_counted xs ∙ ap (ltb 0) (uncounted p x xs other)
      ]

  pub count_pushed : (xs : List X) (x : X) → count_by p (xs ++ x ∷ []) ≡ count_by p xs + cond (p x) 1 0
  count_pushed xs x = sum_by_push (λ y. cond (p y) 1 0) xs x

  pub count_removed : (xs : List X) (i : ℕ) (x : X) → slice_get xs i ≡ Some x → count_by p (remove xs i) + cond (p x) 1 0 ≡ count_by p xs
  count_removed xs i x is =
      ap (λ y. count_by p (remove xs i) + cond (p y) 1 0) (sym (get_or_from_slice_get xs i x x is)) ∙ sum_by-remove (λ y. cond (p y) 1 0) xs i x (slice_get_within xs i x is)

  pub count_changed : (xs : List X) (i : ℕ) (x y : X) → slice_get xs i ≡ Some x → p y ≡ p x → count_by p (set xs i y) ≡ count_by p xs
  count_changed xs i x y is same =
      let sum = sum_by-set (λ z. cond (p z) 1 0) xs i y x (slice_get_within xs i x is) in
      let old : ◌≡◌ {A = ℕ} (cond (p (get_or xs i x)) 1 0) (cond (p x) 1 0) = ap (λ z. cond (p z) 1 0) (get_or_from_slice_get xs i x x is) in
      let new : ◌≡◌ {A = ℕ} (cond (p y) 1 0) (cond (p x) 1 0) = ap (λ b. cond b 1 0) same in
      omega (arith, sum, old, new)
