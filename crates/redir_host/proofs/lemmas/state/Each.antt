-- What is known of each element of a list.
use Rattle.std.proofs.Common.{◌≡◌, Bool, true, false, cond, List, [], ◌∷◌, ◌++◌, filter, Some, None, refl, sym, ap, subst, ◌∙◌, inl, inr}
use Rattle.std.specs.Prelude.{Option, IfSome}
use Rattle.std.specs.List.{find, AllByRecursion as Each}
use Rattle.std.proofs.lemmas.Bool.{cases_Bool}
use Rattle.model_device.specs.Meaning.{given_in}

pub each_found : {A : Type 0} (P : A → Type 0) (test : A → Bool) (xs : List A) (x : A) → Each P xs → find test xs ≡ Some x → P x × (test x ≡ true)
each_found P test [] x each is = absurd cc
each_found P test (y ∷ ys) x each is =
    elim (cases_Bool (test y)) [
      | inl passes ↦
          let e : Some y ≡ Some x = sym (ap (λ (b : Bool). cond b (Some y) (find test ys)) passes) ∙ is in
          let same : y ≡ x = cc in
          let Says : _ → Type 0 = λ z. P z × (test z ≡ true) in
          subst Says same (each.0, passes)
      | inr fails ↦ each_found P test ys x each.1 (sym (ap (λ (b : Bool). cond b (Some y) (find test ys)) fails) ∙ is)
    ]

pub each_filtered : {A : Type 0} (P : A → Type 0) (test : A → Bool) (xs : List A) → Each P xs → Each P (filter test xs)
each_filtered P test [] each = tt
each_filtered P test (x ∷ xs) each =
    elim (test x) as (λ (b : Bool). Each P (cond b (x ∷ filter test xs) (filter test xs))) [ true ↦ (each.0, each_filtered P test xs each.1) | false ↦ each_filtered P test xs each.1 ]

pub each_appended : {A : Type 0} (P : A → Type 0) (xs : List A) (x : A) → Each P xs → P x → Each P (xs ++ x ∷ [])
each_appended P [] x each here = (here, tt)
each_appended P (y ∷ ys) x each here = (each.0, each_appended P ys x each.1 here)

pub each_joined : {A : Type 0} (P : A → Type 0) (xs ys : List A) → Each P xs → Each P ys → Each P (xs ++ ys)
each_joined P [] ys front back = back
each_joined P (x ∷ xs) ys front back = (front.0, each_joined P xs ys front.1 back)

pub each_front : {A : Type 0} (P : A → Type 0) (xs ys : List A) → Each P (xs ++ ys) → Each P xs
each_front P [] ys each = tt
each_front P (x ∷ xs) ys each = (each.0, each_front P xs ys each.1)

pub each_behind : {A : Type 0} (P : A → Type 0) (xs ys : List A) → Each P (xs ++ ys) → Each P ys
each_behind P [] ys each = each
each_behind P (x ∷ xs) ys each = each_behind P xs ys each.1

pub each_weaker : {A : Type 0} (P Q : A → Type 0) → ((x : A) → P x → Q x) → (xs : List A) → Each P xs → Each Q xs
each_weaker P Q weaker [] each = tt
each_weaker P Q weaker (x ∷ xs) each = (weaker x each.0, each_weaker P Q weaker xs each.1)

-- of one that is found
pub if_found : {A : Type 0} (P : A → Type 0) (test : A → Bool) (xs : List A) → Each P xs → IfSome (find test xs) (λ x. P x × (test x ≡ true))
if_found P test [] each = tt
if_found {A = A} P test (x ∷ xs) each = by (if_found P test xs each.1) (test x) refl
  where
    by : IfSome (find test xs) (λ y. P y × (test y ≡ true)) → (b : Bool) → test x ≡ b → IfSome (cond b (Some x) (find test xs)) (λ y. P y × (test y ≡ true))
    by later true passes = (each.0, passes)
    by later false fails = later

-- what holds of what comes of a call holds of what it gives
pub given_if : {S A : Type 0} (P : A → Type 0) (o : Option (S × A)) (a : A) → Some a ≡ given_in o → IfSome o (λ r. P r.1) → P a
given_if P None a is h = absurd cc
given_if P (Some r) a is h = let same : r.1 ≡ a = cc in subst P same h

all_well : {A : Type 0} (xs : List A) → Each (λ (x : A). Unit {0}) xs
all_well [] = tt
all_well (x ∷ xs) = (tt, all_well xs)

-- what is found passes
pub found_passes : {A : Type 0} (test : A → Bool) (xs : List A) (x : A) → find test xs ≡ Some x → test x ≡ true
found_passes test xs x is = (each_found (λ _. Unit {0}) test xs x (all_well xs) is).1
