-- How many elements of a list pass a test.
use Rattle.std.proofs.Common.{◌≡◌, ℕ, ◌+◌, ◌≤◌, ◌||◌, Bool, true, false, cond, not, eqb, List, [], ◌∷◌, ◌++◌, map, refl, ap, ◌∙◌, arith}
use Rattle.std.specs.Prelude.{filter}
use Rattle.std.specs.List.{list_any, count_by}
use Rattle.std.proofs.lemmas.List.Sums.{sum_by-cons, sum_by-append}
use Rattle.gate_history.proofs.lemmas.Lists.{Each}

pub count-cons : {X : Type 0} (p : X → Bool) (x : X) (xs : List X) → count_by p (x ∷ xs) ≡ cond (p x) 1 0 + count_by p xs
count-cons p x xs = sum_by-cons (λ y. cond (p y) 1 0) x xs

pub count-append : {X : Type 0} (p : X → Bool) (xs ys : List X) → count_by p (xs ++ ys) ≡ count_by p xs + count_by p ys
count-append p xs ys = sum_by-append (λ x. cond (p x) 1 0) xs ys

pub count-map : {X Y : Type 0} (p : Y → Bool) (f : X → Y) (xs : List X) → count_by p (map f xs) ≡ count_by (λ x. p (f x)) xs
count-map p f [] = refl
count-map p f (x ∷ xs) = omega (arith, count-map p f xs, count-cons p (f x) (map f xs), count-cons (λ y. p (f y)) x xs)

-- what a filter keeps and what it drops
pub count-parts : {X : Type 0} (p q : X → Bool) (xs : List X) → count_by p (filter q xs) + count_by p (filter (λ x. not (q x)) xs) ≡ count_by p xs
count-parts p q [] = refl
count-parts p q (x ∷ xs) =
    let rest = count-parts p q xs in
    let all = count-cons p x xs in
    elim (q x) as (λ b. count_by p (cond b (x ∷ filter q xs) (filter q xs)) + count_by p (cond (not b) (x ∷ filter (λ y. not (q y)) xs) (filter (λ y. not (q y)) xs)) ≡ count_by p (x ∷ xs))
    [ true ↦ omega (arith, count-cons p x (filter q xs)) | false ↦ omega (arith, count-cons p x (filter (λ y. not (q y)) xs)) ]

pub any-some : {X : Type 0} (p : X → Bool) (xs : List X) → 1 ≤ count_by p xs → list_any p xs ≡ true
any-some p [] e = absurd (omega arith)
any-some p (x ∷ xs) e0 =
    let rest : 1 ≤ count_by p xs → list_any p xs ≡ true = any-some p xs in
    (elim (p x) as (λ b. 1 ≤ cond b 1 0 + count_by p xs → (b || list_any p xs) ≡ true)
    [ true ↦ (λ e. refl) | false ↦ (λ e. rest (omega arith)) ]) (omega (arith, e0, count-cons p x xs))

pub any-none : {X : Type 0} (p : X → Bool) (xs : List X) → list_any p xs ≡ false → Each (λ x. p x ≡ false) xs
any-none p [] e = tt
any-none p (x ∷ xs) e0 = go (p x) refl (any-none p xs) e0
  where
    go : (b : Bool) → p x ≡ b → (list_any p xs ≡ false → Each (λ y. p y ≡ false) xs) → (b || list_any p xs) ≡ false → Each (λ y. p y ≡ false) (x ∷ xs)
    go true h rest e = absurd (cc)
    go false h rest e = (h, rest e)

pub count-zero : {X : Type 0} (p : X → Bool) (xs : List X) → Each (λ x. p x ≡ false) xs → count_by p xs ≡ 0
count-zero p [] e = refl
count-zero p (x ∷ xs) e = count-cons p x xs ∙ ap (λ (b : Bool). cond b 1 0 + count_by p xs) e.0 ∙ ap (λ (n : ℕ). 0 + n) (count-zero p xs e.1)

pub zero-count : {X : Type 0} (p : X → Bool) (xs : List X) → count_by p xs ≡ 0 → Each (λ x. p x ≡ false) xs
zero-count p [] e = tt
zero-count p (x ∷ xs) e0 = go (p x) refl (zero-count p xs) (omega (arith, e0, count-cons p x xs))
  where
    go : (b : Bool) → p x ≡ b → (count_by p xs ≡ 0 → Each (λ y. p y ≡ false) xs) → cond b 1 0 + count_by p xs ≡ 0 → Each (λ y. p y ≡ false) (x ∷ xs)
    go true h rest e = absurd (omega arith)
    go false h rest e = (h, rest (omega arith))

pub itself : (n : ℕ) → eqb n n ≡ true
itself n = grind arith

-- ---- what holds of each

pub Each-and : {X : Type 0} (P Q R : X → Type 0) → ((x : X) → P x → Q x → R x) → (xs : List X) → Each P xs → Each Q xs → Each R xs
Each-and P Q R h [] e f = tt
Each-and P Q R h (x ∷ xs) e f = (h x e.0 f.0, Each-and P Q R h xs e.1 f.1)

pub Each-map : {X Y : Type 0} (P : Y → Type 0) (f : X → Y) (xs : List X) → Each (λ x. P (f x)) xs → Each P (map f xs)
Each-map P f [] e = tt
Each-map P f (x ∷ xs) e = (e.0, Each-map P f xs e.1)
