-- A column of a list: what a function gives of each element, in order.
use Rattle.std.proofs.Common.{◌≡◌, ℕ, zero, suc, ◌+◌, Bool, cond, not, List, [], ◌∷◌, map, set, Some, refl, ap}
use Rattle.std.specs.List.{insert, position_or_len, remove, slice_get}

module _ {X Y : Type 0} (f : X → Y) where
  pub map-remove : (xs : List X) (i : ℕ) → remove (map f xs) i ≡ map f (remove xs i)
  map-remove [] zero = refl
  map-remove [] (suc i) = refl
  map-remove (x ∷ xs) zero = refl
  map-remove (x ∷ xs) (suc i) = ap (λ ys. f x ∷ ys) (map-remove xs i)

  pub map-set : (xs : List X) (i : ℕ) (y : X) → map f (set xs i y) ≡ set (map f xs) i (f y)
  map-set [] i y = refl
  map-set (x ∷ xs) zero y = refl
  map-set (x ∷ xs) (suc i) y = ap (λ ys. f x ∷ ys) (map-set xs i y)

  pub map-insert : (xs : List X) (i : ℕ) (y : X) → insert (map f xs) i (f y) ≡ map f (insert xs i y)
  map-insert [] zero y = refl
  map-insert [] (suc i) y = refl
  map-insert (x ∷ xs) zero y = refl
  map-insert (x ∷ xs) (suc i) y = ap (λ ys. f x ∷ ys) (map-insert xs i y)

  -- the first place that passes in the column is that of the list
  pub position_or_len-map : (p : Y → Bool) (xs : List X) → position_or_len p (map f xs) ≡ position_or_len (λ x. p (f x)) xs
  position_or_len-map p [] = refl
  position_or_len-map p (x ∷ xs) = ap (λ n. cond (not (p (f x))) (1 + n) 0) (position_or_len-map p xs)

  -- an element is replaced by one of which the function gives the same
  pub map_unchanged : (xs : List X) (i : ℕ) (x y : X) → slice_get xs i ≡ Some x → f y ≡ f x → map f (set xs i y) ≡ map f xs
  map_unchanged [] i x y is same = refl
  map_unchanged (z ∷ xs) zero x y is same = let e : z ≡ x = (let g : Some z ≡ Some x = is in cc) in ap (λ w. w ∷ map f xs) (rw e same)
  map_unchanged (z ∷ xs) (suc i) x y is same = ap (λ ys. f z ∷ ys) (map_unchanged xs i x y is same)
