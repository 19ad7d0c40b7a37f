-- The first element that passes a test: `position`, `find`, `without_first` and `change_first` together.
use Rattle.std.proofs.Common.{◌≡◌, ℕ, suc, ◌+◌, ◌<◌, ◌≤◌, Bool, true, false, cond, not, ltb, List, [], ◌∷◌, length, filter, count_by, set, Some, None, is_some, ◌||◌, refl, ap, sym, ◌∙◌, zero-add, arith, ◌⊎◌, inl, inr}
use Rattle.std.specs.List.{find, position, position_or_len, remove, slice_get, list_any}
use Rattle.std.proofs.lemmas.Bool.{ltb-true, ltb-false, lt-ltb, cases_Bool, false≢true}
use Rattle.std.proofs.lemmas.Grind.{common_steps}
use Rattle.std.proofs.lemmas.List.Folds.{find_at}
use Rattle.std.proofs.lemmas.List.Sums.{sum_by-cons}
use Rattle.usb_base.specs.Firsts.{without_first, change_first}

remove_front : {X : Type 0} (x : X) (xs : List X) (n : ℕ) → remove (x ∷ xs) (1 + n) ≡ x ∷ remove xs n
remove_front x xs n = let e : 1 + n ≡ suc n = omega arith in ap (remove (x ∷ xs)) e

-- what stands at the first place that passes, and what is left without it
pub remove_first : {X : Type 0} (p : X → Bool) (xs : List X) → remove xs (position_or_len p xs) ≡ without_first p xs
remove_first p [] = refl
remove_first {X = X} p (x ∷ xs) =
    elim (p x) as (λ (b : Bool). remove {X = X} (x ∷ xs) (cond (not b) (1 + position_or_len p xs) 0) ≡ cond b xs (x ∷ without_first p xs)) [
      | true ↦ refl
      | false ↦ remove_front x xs (position_or_len p xs) ∙ ap (λ ys. x ∷ ys) (remove_first p xs)
    ]

pub position_found : {X : Type 0} (p : X → Bool) (xs : List X) (i : ℕ) → position p xs ≡ Some i → (i ≡ position_or_len p xs) × (i < length xs)
position_found p xs i is =
    let n = position_or_len p xs in
    elim (cases_Bool (ltb n (length xs))) [
      | inl there ↦
          let e : Some n ≡ Some i = sym (ap (λ b. cond b (Some n) None) there) ∙ is in
          let same : i ≡ n = cc in
          (same, rw same (ltb-true n (length xs) there))
      | inr past ↦
          let e : None ≡ Some i = sym (ap (λ b. cond b (Some n) None) past) ∙ is in
          absurd (cc)
    ]

pub position_past : {X : Type 0} (p : X → Bool) (xs : List X) → position p xs ≡ None → length xs ≤ position_or_len p xs
position_past p xs is =
    let n = position_or_len p xs in
    elim (cases_Bool (ltb n (length xs))) [
      | inl there ↦
          let e : Some n ≡ None = sym (ap (λ b. cond b (Some n) None) there) ∙ is in
          absurd (cc)
      | inr past ↦ ltb-false n (length xs) past
    ]

pub find_past : {X : Type 0} (p : X → Bool) (xs : List X) → length xs ≤ position_or_len p xs → (find p xs ≡ None) × (without_first p xs ≡ xs)
find_past p [] past = (refl, refl)
find_past {X = X} p (x ∷ xs) past =
    elim (p x) as (λ (b : Bool). length (x ∷ xs) ≤ cond (not b) (1 + position_or_len p xs) 0 → (cond b (Some x) (find p xs) ≡ None) × (cond b xs (x ∷ without_first p xs) ≡ x ∷ xs)) [
      | true ↦ λ h. absurd (omega arith)
      | false ↦ λ h. let r = find_past p xs (omega arith) in (r.0, ap (λ ys. x ∷ ys) r.1)
    ] past

-- what stands at the place that `position` gives is what `find` gives, and the rest is the list without it
pub took_first : {X : Type 0} (p : X → Bool) (xs : List X) (i : ℕ) → position p xs ≡ Some i → (slice_get xs i ≡ find p xs) × (remove xs i ≡ without_first p xs)
took_first p xs i is =
    let at = position_found p xs i is in
    (ap (slice_get xs) at.0 ∙ sym (find_at p xs), ap (remove xs) at.0 ∙ remove_first p xs)

pub took_none : {X : Type 0} (p : X → Bool) (xs : List X) → position p xs ≡ None → (None ≡ find p xs) × (xs ≡ without_first p xs)
took_none p xs is = let r = find_past p xs (position_past p xs is) in (sym r.0, sym r.1)

-- the first of those that pass
pub first_passing : {X : Type 0} (p : X → Bool) (xs : List X) → slice_get (filter p xs) 0 ≡ find p xs
first_passing p [] = refl
first_passing p (x ∷ xs) =
    elim (cases_Bool (p x)) [
      | inl here ↦ rw here refl
      | inr away ↦ rw away (first_passing p xs)
    ]

-- a place is found where an element passes
pub is_some-position : {X : Type 0} (p : X → Bool) (xs : List X) → is_some (position p xs) ≡ list_any p xs
is_some-position p xs = is_some-cond _ _ ∙ within p xs
  where
    is_some-cond : (b : Bool) (n : ℕ) → is_some (cond b (Some n) None) ≡ b
    is_some-cond true n = refl
    is_some-cond false n = refl

    within : {X : Type 0} (p : X → Bool) (xs : List X) → ltb (position_or_len p xs) (length xs) ≡ list_any p xs
    within p [] = refl
    within p (x ∷ xs) =
        elim (p x) as (λ (b : Bool). ltb (cond (not b) (1 + position_or_len p xs) 0) (length (x ∷ xs)) ≡ (b || list_any p xs)) [
          | true ↦ lt-ltb _ _ (omega arith)
          | false ↦ ltb-suc (position_or_len p xs) (length xs) ∙ within p xs
        ]
      where
        ltb-suc : (a b : ℕ) → ltb (1 + a) (suc b) ≡ ltb a b
        ltb-suc a b = grind (arith, common_steps)

set_front : {X : Type 0} (x y : X) (xs : List X) (n : ℕ) → set (x ∷ xs) (1 + n) y ≡ x ∷ set xs n y
set_front x y xs n = let e : 1 + n ≡ suc n = omega arith in ap (λ m. set (x ∷ xs) m y) e

get_front : {X : Type 0} (x : X) (xs : List X) (n : ℕ) → slice_get (x ∷ xs) (1 + n) ≡ slice_get xs n
get_front x xs n = let e : 1 + n ≡ suc n = omega arith in ap (slice_get (x ∷ xs)) e

pub changed_first : {X : Type 0} (p : X → Bool) (f : X → X) (xs : List X) (i : ℕ) (x : X) → position p xs ≡ Some i → slice_get xs i ≡ Some x → set xs i (f x) ≡ change_first p f xs
changed_first {X = X} p f xs i x is read =
    let at = position_found p xs i is in
    let there : slice_get xs (position_or_len p xs) ≡ Some x = ap (slice_get xs) (sym at.0) ∙ read in
    ap (λ k. set xs k (f x)) at.0 ∙ within xs there
  where
    within : (ys : List X) → slice_get ys (position_or_len p ys) ≡ Some x → set ys (position_or_len p ys) (f x) ≡ change_first p f ys
    within [] h = refl
    within (y ∷ ys) h =
        elim (p y) as (λ (b : Bool). slice_get (y ∷ ys) (cond (not b) (1 + position_or_len p ys) 0) ≡ Some x → set (y ∷ ys) (cond (not b) (1 + position_or_len p ys) 0) (f x) ≡ cond b (f y ∷ ys) (y ∷ change_first p f ys)) [
          | true ↦ λ g. let e : Some y ≡ Some x = g in let same : y ≡ x = cc in ap (λ z. f z ∷ ys) (sym same)
          | false ↦ λ g. set_front y (f x) ys (position_or_len p ys) ∙ ap (λ zs. y ∷ zs) (within ys (sym (get_front y ys (position_or_len p ys)) ∙ g))
        ] h

-- ---- for callers: what the first that passes leaves of the others

at_most : (a b : ℕ) → a ≡ b → b ≤ 1 → a ≤ 1
at_most a b same once = rw same once

module _ {X : Type 0} where
  pub counted : (p : X → Bool) (x : X) (xs : List X) → p x ≡ true → 1 + count_by p xs ≡ count_by p (x ∷ xs)
  counted p x xs here = sym (sum_by-cons (λ y. cond (p y) 1 0) x xs ∙ ap (λ b. cond b 1 0 + count_by p xs) here)

  pub uncounted : (p : X → Bool) (x : X) (xs : List X) → p x ≡ false → count_by p xs ≡ count_by p (x ∷ xs)
  uncounted p x xs other =
      sym (sum_by-cons (λ y. cond (p y) 1 0) x xs ∙ ap (λ b. cond b 1 0 + count_by p xs) other ∙ zero-add (count_by p xs))

  -- what p passes q doesn't
  taken_or_other : (p q : X → Bool) → ((x : X) → q x ≡ true → p x ≡ false) → (x : X) → ((p x ≡ true) × (q x ≡ false)) ⊎ (p x ≡ false)
  taken_or_other p q apart x =
      elim (cases_Bool (p x)) [
        | inl taken ↦
            elim (cases_Bool (q x)) [
              | inl kept ↦ absurd (false≢true (sym (apart x kept) ∙ taken))
              | inr not_kept ↦ inl (taken, not_kept)
            ]
        | inr other ↦ inr other
      ]

  -- a test that p never passes with keeps what it kept
  pub filter-without_first : (p q : X → Bool) → ((x : X) → q x ≡ true → p x ≡ false) → (xs : List X) → filter q (without_first p xs) ≡ filter q xs
  filter-without_first p q apart [] = refl
  filter-without_first p q apart (x ∷ xs) =
      elim (taken_or_other p q apart x) [
        | inl taken ↦ rw (taken.0, taken.1) refl
        | inr other ↦ rw other (ap (λ ys. cond (q x) (x ∷ ys) ys) (filter-without_first p q apart xs))
      ]

  -- where none passes all stay
  pub without_none : (p : X → Bool) (xs : List X) → count_by p xs ≡ 0 → filter (λ x. not (p x)) xs ≡ xs
  without_none p [] none = refl
  without_none p (x ∷ xs) none =
      elim (cases_Bool (p x)) [
        | inl here ↦ (let e = counted p x xs here ∙ none in absurd (omega (arith, e)))
        | inr other ↦ rw other (ap (λ ys. x ∷ ys) (without_none p xs (uncounted p x xs other ∙ none)))
      ]

  -- where at most one passes, the list without the first is the list without all
  pub without_first-filter : (p : X → Bool) (xs : List X) → count_by p xs ≤ 1 → without_first p xs ≡ filter (λ x. not (p x)) xs
  without_first-filter p [] once = refl
  without_first-filter p (x ∷ xs) once =
      elim (cases_Bool (p x)) [
        | inl here ↦ (let e = at_most _ _ (counted p x xs here) once in rw here (sym (without_none p xs (omega (arith, e)))))
        | inr other ↦ rw other (ap (λ ys. x ∷ ys) (without_first-filter p xs (at_most _ _ (uncounted p x xs other) once)))
      ]
