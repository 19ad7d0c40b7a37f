-- A list of which the elements from a place on were tried, and only those that pass are left.
use Rattle.std.proofs.Common.{◌≡◌, ℕ, zero, suc, ◌-◌, ◌<◌, ◌≤◌, Bool, true, false, cond, List, [], ◌∷◌, ◌++◌, length, take, drop, filter, Some, refl, ap, arith}
use Rattle.std.specs.List.{remove, slice_get}

module _ {X : Type 0} (test : X → Bool) where
  abbrev pub tried_from : ℕ → List X → List X
  tried_from i xs = take i xs ++ filter test (drop i xs)

  -- the element before that place stays where it passes, and else is taken out
  pub one_tried : (xs : List X) (i : ℕ) (x : X) (b : Bool) → i < length xs → slice_get (tried_from (suc i) xs) i ≡ Some x → test x ≡ b → cond b (tried_from (suc i) xs) (remove (tried_from (suc i) xs) i) ≡ tried_from i xs
  one_tried [] i x b within is told = absurd (omega arith)
  one_tried (y ∷ xs) zero x b within is told =
      let e : Some y ≡ Some x = is in
      let here : y ≡ x = cc in
      rw (here, told) refl
  one_tried (y ∷ xs) (suc i) x b within is told = behind b (one_tried xs i x b (omega arith) is told)
    where
      behind : (c : Bool) → cond c (tried_from (suc i) xs) (remove (tried_from (suc i) xs) i) ≡ tried_from i xs → cond c (y ∷ tried_from (suc i) xs) (remove (y ∷ tried_from (suc i) xs) (suc i)) ≡ y ∷ tried_from i xs
      behind true rest = ap (λ ys. y ∷ ys) rest
      behind false rest = ap (λ ys. y ∷ ys) rest

  -- at first none was tried
  pub none_tried : (xs : List X) → xs ≡ tried_from (length xs) xs
  none_tried [] = refl
  none_tried (x ∷ xs) = ap (λ ys. x ∷ ys) (none_tried xs)

  pub untried_stand : (xs : List X) (i : ℕ) → i ≤ length xs → i ≤ length (tried_from i xs)
  untried_stand xs zero within = omega arith
  untried_stand [] (suc i) within = absurd (omega arith)
  untried_stand (x ∷ xs) (suc i) within = let rest = untried_stand xs i (omega arith) in omega arith

  pub step_tried : (xs ys : List X) (i : ℕ) (x : X) (b : Bool) → 0 < i → i ≤ length xs → ys ≡ tried_from i xs → slice_get ys (i - 1) ≡ Some x → test x ≡ b → cond b ys (remove ys (i - 1)) ≡ tried_from (i - 1) xs
  step_tried xs ys zero x b some within tried is told = absurd (omega arith)
  step_tried xs ys (suc i) x b some within tried is told =
      let e : suc i - 1 ≡ i = omega arith in
      let there : slice_get (tried_from (suc i) xs) i ≡ Some x = rw (← tried, ← e) is in
      rw (e, tried) (one_tried xs i x b (omega arith) there told)
