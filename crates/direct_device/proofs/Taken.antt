-- What a test counts in lists of which something is taken.
use Rattle.std.proofs.Common.{◌≡◌, ℕ, ◌+◌, ◌≤◌, Bool, true, false, cond, not, eqb, List, [], ◌∷◌, Some, refl, sym, ap, subst, ◌∙◌, arith}
use Rattle.std.specs.Prelude.{filter}
use Rattle.std.specs.List.{find, count_by}
use Rattle.gate_history.proofs.lemmas.Lists.{Each}
use Rattle.direct_device.specs.Direct.{without_first}
use Rattle.direct_device.proofs.Counts.{count-cons, zero-count}

abbrev pub weight : Bool → ℕ
weight b = cond b 1 0

pub weight-true : (b : Bool) → b ≡ true → weight b ≡ 1
weight-true b e = ap weight e

pub weight-false : (b : Bool) → b ≡ false → weight b ≡ 0
weight-false b e = ap weight e

pub away : (n k : ℕ) → eqb n k ≡ false → eqb k n ≡ false
away n k h = grind arith

-- ---- the first that a test finds

pub find-passes : {X : Type 0} (p : X → Bool) (xs : List X) (x : X) → find p xs ≡ Some x → p x ≡ true
find-passes p [] x e = absurd (cc)
find-passes {X = X} p (y ∷ xs) x e0 = go (p y) refl (find-passes p xs x) e0
  where
    go : (b : Bool) → p y ≡ b → (find p xs ≡ Some x → p x ≡ true) → cond b (Some y) (find p xs) ≡ Some x → p x ≡ true
    go true h rest e = let same : y ≡ x = cc in ap p (sym same) ∙ h
    go false h rest e = rest e

pub count-taken : {X : Type 0} (t p : X → Bool) (xs : List X) (x : X) → find p xs ≡ Some x → count_by t xs ≡ cond (t x) 1 0 + count_by t (without_first p xs)
count-taken t p [] x e = absurd (cc)
count-taken {X = X} t p (y ∷ xs) x e0 =
    let rest : find p xs ≡ Some x → count_by t xs ≡ cond (t x) 1 0 + count_by t (without_first p xs) = count-taken t p xs x in
    (elim (p y) as (λ b. cond b (Some y) (find p xs) ≡ Some x → count_by t (y ∷ xs) ≡ cond (t x) 1 0 + count_by t (cond b xs (y ∷ without_first p xs))) [
      | true ↦ (λ e. let same : y ≡ x = cc in count-cons t y xs ∙ ap (λ (z : X). cond (t z) 1 0 + count_by t xs) same)
      | false ↦ (λ e. omega (arith, rest e, count-cons t y xs, count-cons t y (without_first p xs)))
    ]) e0

pub Each-without : {X : Type 0} (P : X → Type 0) (p : X → Bool) (xs : List X) → Each P xs → Each P (without_first p xs)
Each-without P p [] e = tt
Each-without P p (x ∷ xs) e = elim (p x) as (λ b. Each P (cond b xs (x ∷ without_first p xs))) [ true ↦ e.1 | false ↦ (e.0, Each-without P p xs e.1) ]

pub Each-find : {X : Type 0} (P : X → Type 0) (p : X → Bool) (xs : List X) (x : X) → Each P xs → find p xs ≡ Some x → P x
Each-find P p [] x e k = absurd (cc)
Each-find {X = X} P p (y ∷ xs) x e k0 =
    let rest : find p xs ≡ Some x → P x = Each-find P p xs x e.1 in
    (elim (p y) as (λ b. cond b (Some y) (find p xs) ≡ Some x → P x) [ true ↦ (λ k. let same : y ≡ x = cc in subst P same e.0) | false ↦ rest ]) k0

-- ---- what a filter leaves

pub count-same : {X : Type 0} (t f : X → Bool) → ((x : X) → f x ≡ true → t x ≡ false) → (xs : List X) → count_by t (filter (λ x. not (f x)) xs) ≡ count_by t xs
count-same t f h [] = refl
count-same t f h (x ∷ xs) = go (f x) refl (count-same t f h xs)
  where
    go : (b : Bool) → f x ≡ b → count_by t (filter (λ y. not (f y)) xs) ≡ count_by t xs → count_by t (cond (not b) (x ∷ filter (λ y. not (f y)) xs) (filter (λ y. not (f y)) xs)) ≡ count_by t (x ∷ xs)
    go true e rest = let z = weight-false (t x) (h x e) in omega (arith, z, rest, count-cons t x xs)
    go false e rest = omega (arith, rest, count-cons t x xs, count-cons t x (filter (λ y. not (f y)) xs))

-- the only one that a test finds is all that its filter leaves
pub filter-only : {X : Type 0} (p : X → Bool) (xs : List X) (x : X) → find p xs ≡ Some x → count_by p xs ≤ 1 → filter p xs ≡ x ∷ []
filter-only p [] x e one = absurd (cc)
filter-only {X = X} p (y ∷ xs) x e0 one0 = go (p y) (filter-only p xs x) e0 (omega (arith, one0, count-cons p y xs))
  where
    none : (ys : List X) → Each (λ z. p z ≡ false) ys → filter p ys ≡ []
    none [] h = refl
    none (z ∷ ys) h = ap (λ (b : Bool). cond b (z ∷ filter p ys) (filter p ys)) h.0 ∙ none ys h.1

    go : (b : Bool) → (find p xs ≡ Some x → count_by p xs ≤ 1 → filter p xs ≡ x ∷ []) → cond b (Some y) (find p xs) ≡ Some x → cond b 1 0 + count_by p xs ≤ 1 → cond b (y ∷ filter p xs) (filter p xs) ≡ x ∷ []
    go true rest e one =
        let same : y ≡ x = cc in
        let empty = none xs (zero-count p xs (omega arith)) in
        λ i. same i ∷ empty i
    go false rest e one = rest e (omega arith)

-- ---- two tests of which no element passes both

pub count-apart : {X : Type 0} (p q all : X → Bool) → ((x : X) → weight (p x) + weight (q x) ≤ weight (all x)) → (xs : List X) → count_by p xs + count_by q xs ≤ count_by all xs
count-apart p q all h [] = omega arith
count-apart p q all h (x ∷ xs) = omega (arith, h x, count-apart p q all h xs, count-cons p x xs, count-cons q x xs, count-cons all x xs)
