-- Counting.
use Rattle.std.proofs.Common.{◌≡◌, ℕ, ◌+◌, ◌≤◌, ◌<◌, ◌||◌, Bool, true, false, cond, eqb, List, [], ◌∷◌, refl, sym, ap, ◌∙◌, arith}
use Rattle.std.specs.Prelude.{filter}
use Rattle.std.specs.List.{list_any, count_by, AllByRecursion as Each}
use Rattle.std.proofs.lemmas.List.Sums.{sum_by-le-sum_by}
use Rattle.gate_history.proofs.lemmas.Lists.{both, Each-weaker}
pub use Rattle.direct_device.proofs.Counts.{count-cons, count-append, count-map, count-parts, any-some, any-none, count-zero, zero-count, itself, Each-and, Each-map}

pub count-both : {X : Type 0} (p q : X → Bool) (xs : List X) → count_by (λ x. both (p x) (q x)) xs ≤ count_by p xs
count-both p q xs = sum_by-le-sum_by (λ x. cond (both (p x) (q x)) 1 0) (λ x. cond (p x) 1 0) xs (λ x. one (p x) (q x))
  where
    one : (a b : Bool) → cond (both a b) 1 0 ≤ cond a 1 0
    one true true = omega arith
    one true false = omega arith
    one false b = omega arith

pub count-both_right : {X : Type 0} (p q : X → Bool) (xs : List X) → count_by (λ x. both (p x) (q x)) xs ≤ count_by q xs
count-both_right p q xs = sum_by-le-sum_by (λ x. cond (both (p x) (q x)) 1 0) (λ x. cond (q x) 1 0) xs (λ x. one (p x) (q x))
  where
    one : (a b : Bool) → cond (both a b) 1 0 ≤ cond b 1 0
    one true b = omega arith
    one false b = omega arith

-- two tests of which each finds one at most, and which find one together, are the same there
pub same_test : {X : Type 0} (p q : X → Bool) (xs : List X) → count_by p xs ≤ 1 → count_by q xs ≤ 1 → 1 ≤ count_by (λ x. both (p x) (q x)) xs → Each (λ x. p x ≡ q x) xs
same_test p q [] a b c = tt
same_test {X = X} p q (x ∷ xs) a0 b0 c0 = go (p x) (q x) refl refl (same_test p q xs) (omega (arith, a0, count-cons p x xs)) (omega (arith, b0, count-cons q x xs)) (omega (arith, c0, count-cons (λ y. both (p y) (q y)) x xs))
  where
    both_none : count_by p xs ≡ 0 → count_by q xs ≡ 0 → Each (λ y. p y ≡ q y) xs
    both_none h k = pairs xs (zero-count p xs h) (zero-count q xs k)
      where
        pairs : (ys : List X) → Each (λ y. p y ≡ false) ys → Each (λ y. q y ≡ false) ys → Each (λ y. p y ≡ q y) ys
        pairs [] h k = tt
        pairs (y ∷ ys) h k = (h.0 ∙ sym k.0, pairs ys h.1 k.1)

    go : (b c : Bool) → p x ≡ b → q x ≡ c → (count_by p xs ≤ 1 → count_by q xs ≤ 1 → 1 ≤ count_by (λ y. both (p y) (q y)) xs → Each (λ y. p y ≡ q y) xs) →
        cond b 1 0 + count_by p xs ≤ 1 → cond c 1 0 + count_by q xs ≤ 1 → 1 ≤ cond (both b c) 1 0 + count_by (λ y. both (p y) (q y)) xs → Each (λ y. p y ≡ q y) (x ∷ xs)
    go true true h k rest a b c = (h ∙ sym k, both_none (omega arith) (omega arith))
    go true false h k rest a b c = absurd (omega (arith, count-both p q xs))
    go false true h k rest a b c = absurd (omega (arith, count-both_right p q xs))
    go false false h k rest a b c = (h ∙ sym k, rest (omega arith) (omega arith) (omega arith))

pub apart : (i n : ℕ) → i < n → eqb i n ≡ false
apart i n h = grind arith

-- the one that a test finds
pub single : {X : Type 0} (p q : X → Bool) (xs : List X) → count_by p xs ≤ 1 → 1 ≤ count_by (λ x. both (p x) (q x)) xs → (x : X) × (filter p xs ≡ x ∷ []) × (p x ≡ true) × (q x ≡ true)
single p q [] a b = absurd (omega arith)
single {X = X} p q (x ∷ xs) a0 b0 = go (p x) (q x) refl refl (single p q xs) (omega (arith, a0, count-cons p x xs)) (omega (arith, b0, count-cons (λ y. both (p y) (q y)) x xs))
  where
    no_more : (ys : List X) → Each (λ y. p y ≡ false) ys → filter p ys ≡ []
    no_more [] e = refl
    no_more (y ∷ ys) e = ap (λ (b : Bool). cond b (y ∷ filter p ys) (filter p ys)) e.0 ∙ no_more ys e.1

    go : (b c : Bool) → p x ≡ b → q x ≡ c → (count_by p xs ≤ 1 → 1 ≤ count_by (λ y. both (p y) (q y)) xs → (z : X) × (filter p xs ≡ z ∷ []) × (p z ≡ true) × (q z ≡ true)) →
        cond b 1 0 + count_by p xs ≤ 1 → 1 ≤ cond (both b c) 1 0 + count_by (λ y. both (p y) (q y)) xs → (z : X) × (cond b (x ∷ filter p xs) (filter p xs) ≡ z ∷ []) × (p z ≡ true) × (q z ≡ true)
    go true true h k rest a b = (x, ap (λ (l : List X). x ∷ l) (no_more xs (zero-count p xs (omega arith))), h, k)
    go true false h k rest a b = absurd (omega (arith, count-both p q xs))
    go false c h k rest a b = rest (omega arith) (omega arith)

pub list_any-same : {X : Type 0} (p q : X → Bool) (xs : List X) → Each (λ x. p x ≡ q x) xs → list_any p xs ≡ list_any q xs
list_any-same p q [] e = refl
list_any-same p q (x ∷ xs) e = λ t. e.0 t || list_any-same p q xs e.1 t

pub Each-swap : {X Y : Type 0} (R : X → Y → Type 0) (xs : List X) (ys : List Y) → Each (λ y. Each (λ x. R x y) xs) ys → Each (λ x. Each (R x) ys) xs
Each-swap R [] ys e = tt
Each-swap R (x ∷ xs) ys e =
    (Each-weaker (λ y. Each (λ z. R z y) (x ∷ xs)) (R x) (λ y h. h.0) ys e, Each-swap R xs ys (Each-weaker (λ y. Each (λ z. R z y) (x ∷ xs)) (λ y. Each (λ z. R z y) xs) (λ y h. h.1) ys e))

-- each element is found by its own test
pub Each-found : {X : Type 0} (R : X → X → Bool) → ((x : X) → R x x ≡ true) → (xs : List X) → Each (λ x. 1 ≤ count_by (R x) xs) xs
Each-found R same [] = tt
Each-found {X = X} R same (x ∷ xs) =
    (omega (arith, first (R x x) (same x), count-cons (R x) x xs), Each-weaker (λ y. 1 ≤ count_by (R y) xs) (λ y. 1 ≤ count_by (R y) (x ∷ xs)) (λ y h. omega (arith, h, count-cons (R y) x xs)) xs (Each-found R same xs))
  where
    first : (b : Bool) → b ≡ true → 1 ≤ cond b 1 0 + count_by (R x) xs
    first true e = omega arith
    first false e = absurd (cc)
