-- Lists that have something.
use Rattle.std.proofs.Common.{◌≡◌, ℕ, zero, suc, ◌<◌, not, true, List, [], ◌∷◌, ◌++◌, length, drop, refl, ap, ◌∙◌, arith}
use Rattle.std.specs.List.{flat_map}
use Rattle.usb_base.specs.Lists.{is_empty}

-- an item stands at this place
pub any-at : {X : Type 0} (xs : List X) (i : ℕ) → i < length xs → not (is_empty xs) ≡ true
any-at [] i within = absurd (none i within)
  where
    none : (n : ℕ) → n < 0 → ⊥
    none n within = omega arith
any-at (x ∷ xs) i within = refl

any-behind : {X : Type 0} (xs ys : List X) → not (is_empty ys) ≡ true → not (is_empty (xs ++ ys)) ≡ true
any-behind [] ys some = some
any-behind (x ∷ xs) ys some = refl

-- what is made of the items from this place on has something
pub any-made : {X Y : Type 0} (f : X → List Y) (xs : List X) (i : ℕ) → not (is_empty (flat_map f (drop i xs))) ≡ true → not (is_empty (flat_map f xs)) ≡ true
any-made f xs zero some = some
any-made f [] (suc i) some = some
any-made f (x ∷ xs) (suc i) some = any-behind (f x) (flat_map f xs) (any-made f xs i some)

-- and so where the item at this place makes something
pub any-made-at : {X Y : Type 0} (f : X → List Y) (xs : List X) (i : ℕ) (x : X) (rest : List X) (y : Y) (ys : List Y) → drop i xs ≡ x ∷ rest → f x ≡ y ∷ ys → not (is_empty (flat_map f xs)) ≡ true
any-made-at f xs i x rest y ys is made = any-made f xs i (ap (λ l. not (is_empty (flat_map f l))) is ∙ ap (λ l. not (is_empty (l ++ flat_map f rest))) made)
