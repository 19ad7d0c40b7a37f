-- Where at most one of a list passes a test: the first that does is all that do.
use Rattle.std.proofs.Common.{◌≡◌, ◌≤◌, Bool, not, List, [], ◌∷◌, length, refl, ap, arith, inl, inr}
use Rattle.std.specs.Prelude.{filter}
use Rattle.std.specs.List.{find}
use Rattle.std.specs.Option.{option_to_list}
use Rattle.std.proofs.lemmas.Bool.{cases_Bool}
use Rattle.std.proofs.lemmas.List.Sums.{length-filter}
use Rattle.unlink_race.specs.Firsts.{without_first}
use Rattle.unlink_race.proofs.Firsts.{without_first-filter}

none-found : {X : Type 0} (test : X → Bool) (xs : List X) → length (filter test xs) ≤ 0 → filter test xs ≡ []
none-found test [] h = refl
none-found test (x ∷ xs) h =
    elim (cases_Bool (test x)) [
      | inl e ↦ let k : length (x ∷ filter test xs) ≤ 0 = rw e at h in absurd (omega arith)
      | inr e ↦ rw e (none-found test xs (rw e at h))
    ]

-- taking the first is leaving all others
pub without-first : {X : Type 0} (test : X → Bool) (xs : List X) → length (filter test xs) ≤ 1 → without_first test xs ≡ filter (λ x. not (test x)) xs
without-first test xs h = without_first-filter test xs (let same = length-filter test xs in omega (arith, h, same))

-- the first is all that pass
pub find-first : {X : Type 0} (test : X → Bool) (xs : List X) → length (filter test xs) ≤ 1 → filter test xs ≡ option_to_list (find test xs)
find-first test [] h = refl
find-first {X = X} test (x ∷ xs) h =
    elim (cases_Bool (test x)) [
      | inl e ↦ let k : length (x ∷ filter test xs) ≤ 1 = rw e at h in rw e (ap (λ (l : List X). x ∷ l) (none-found test xs (omega arith)))
      | inr e ↦ rw e (find-first test xs (rw e at h))
    ]
