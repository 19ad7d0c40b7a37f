-- The least number that passes a test, as it is looked for.
use Rattle.std.proofs.Common.{◌≡◌, ℕ, zero, suc, ◌+◌, ◌<◌, inl, inr, Bool, true, false, cond, Option, Some, None, refl, ap, ◌∙◌, arith}
use Rattle.std.proofs.Math.Numerals.{add-one}
use Rattle.std.proofs.lemmas.Bool.{cases_lt}
use Rattle.std.specs.Option.{option_or}
use Rattle.stream_buffers.specs.Least.{least_below, IsLeastBelow}

-- what was found below n, or else n, where it passes
abbrev or_this : ℕ → Bool → Option ℕ → Option ℕ
or_this n passes found = option_or found (cond passes (Some n) None)

neither : (n : ℕ) (b : Bool) (o : Option ℕ) → o ≡ None → b ≡ false → or_this n b o ≡ None
neither n b o none fails = ap (or_this n b) none ∙ ap (λ x. or_this n x None) fails

this : (n : ℕ) (b : Bool) (o : Option ℕ) → o ≡ None → b ≡ true → or_this n b o ≡ Some n
this n b o none passes = ap (or_this n b) none ∙ ap (λ x. or_this n x None) passes

pub none_below : (test : ℕ → Bool) (n : ℕ) → ((j : ℕ) → j < n → test j ≡ false) → least_below test n ≡ None
none_below test zero fail = refl
none_below test (suc n) fail = neither n (test n) (least_below test n) (none_below test n (λ j less. fail j (omega arith))) (fail n (omega arith))

pub none_more : (test : ℕ → Bool) (n : ℕ) → least_below test n ≡ None → test n ≡ false → least_below test (n + 1) ≡ None
none_more test n none fails = ap (least_below test) (add-one n) ∙ neither n (test n) (least_below test n) none fails

pub least_found : (test : ℕ → Bool) (k n : ℕ) → least_below test k ≡ None → test k ≡ true → k < n → least_below test n ≡ Some k
least_found test k zero none passes within = absurd (omega arith)
least_found test k (suc n) none passes within = elim (cases_lt k n) [
  | inl less ↦ ap (or_this n (test n)) (least_found test k n none passes less)
  | inr least ↦
      let same : n ≡ k = omega arith in
      this n (test n) (least_below test n) (ap (least_below test) same ∙ none) (ap test same ∙ passes) ∙ ap (λ x. Some x) same
]

one_more : (test : ℕ → Bool) (n : ℕ) (b : Bool) (o : Option ℕ) → test n ≡ b → IsLeastBelow test n o → IsLeastBelow test (suc n) (or_this n b o)
one_more test n b (Some k) is least = (omega (arith, least.0), least.1, least.2)
one_more test n true None is none = (omega arith, is, none)
one_more test n false None is none = λ j less. elim (cases_lt j n) [
  | inl below ↦ none j below
  | inr above ↦ (let same : j ≡ n = omega arith in ap test same ∙ is)
]

pub is_least : (test : ℕ → Bool) (n : ℕ) → IsLeastBelow test n (least_below test n)
is_least test zero = λ j less. absurd (omega arith)
is_least test (suc n) = one_more test n (test n) (least_below test n) refl (is_least test n)
