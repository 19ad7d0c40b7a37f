-- A list of which the first elements are changed, for loops that change one after another.
use Rattle.std.proofs.Common.{◌≡◌, ℕ, zero, suc, ◌+◌, ◌<◌, ◌≤◌, List, [], ◌∷◌, length, map, get_or, set, refl, ap, ◌∙◌, arith}

pub mapped : {X : Type 0} → (X → X) → ℕ → List X → List X
mapped f zero xs = xs
mapped f (suc n) [] = []
mapped f (suc n) (x ∷ xs) = f x ∷ mapped f n xs

pub mapped-none : {X : Type 0} (f : X → X) (xs : List X) → mapped f 0 xs ≡ xs
unfolding mapped
mapped-none f xs = refl

next : {X : Type 0} (f : X → X) (n : ℕ) (xs : List X) (d : X) → n < length xs → set (mapped f n xs) n (f (get_or (mapped f n xs) n d)) ≡ mapped f (suc n) xs
unfolding mapped
next f zero [] d h = refl
next f zero (x ∷ xs) d h = refl
next f (suc n) [] d h = refl
next {X = X} f (suc n) (x ∷ xs) d h = ap (λ (l : List X). f x ∷ l) (next f n xs d (omega arith))

pub mapped-next : {X : Type 0} (f : X → X) (n : ℕ) (xs : List X) (d : X) → n < length xs → set (mapped f n xs) n (f (get_or (mapped f n xs) n d)) ≡ mapped f (n + 1) xs
mapped-next f n xs d h = let one : suc n ≡ n + 1 = omega arith in next f n xs d h ∙ ap (λ (k : ℕ). mapped f k xs) one

pub mapped-all : {X : Type 0} (f : X → X) (n : ℕ) (xs : List X) → length xs ≤ n → mapped f n xs ≡ map f xs
unfolding mapped
mapped-all f zero [] h = refl
mapped-all f zero (x ∷ xs) h = absurd (omega arith)
mapped-all f (suc n) [] h = refl
mapped-all {X = X} f (suc n) (x ∷ xs) h = ap (λ (l : List X). f x ∷ l) (mapped-all f n xs (omega arith))
