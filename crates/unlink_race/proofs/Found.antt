-- The request that a search of the keys leads to.
use Rattle.std.proofs.Common.{◌≡◌, ℕ, Bool, List, [], ◌∷◌, map, Option, Some, None, option_map, refl, ap, sym, ◌∙◌, inl, inr}
use Rattle.std.specs.List.{find, zip}
use Rattle.std.proofs.lemmas.Bool.{cases_Bool}
use Rattle.urb_arena.specs.Distinct.{itself}
use Rattle.unlink_race.specs.declared.live.Live.{Live}
use Rattle.unlink_race.specs.Inner.Earliest.{earliest}
use Rattle.unlink_race.specs.Inner.Listed.{IsKeyed, listed}
use Rattle.unlink_race.proofs.Rows.{entry_of}

abbrev pub lives : List (ℕ × Live) → List Live
lives es = map (λ (e : ℕ × Live). e.1) es

-- the first key whose request passes
abbrev pub key_found : (Live → Bool) → List ℕ → List Live → Option ℕ
key_found test ks xs = option_map (λ (r : ℕ × Live). r.0) (find (λ (r : ℕ × Live). test r.1) (zip ks xs))

-- its request is the earliest that passes
pub record IsFound (test : Live → Bool) (g : ℕ → Option (ℕ × Live)) (es : List (ℕ × Live)) (k : ℕ) : Type 0 where
  pub entry : ℕ × Live
  pub is : g k ≡ Some entry
  pub rank : earliest test es ≡ Some entry.0

module _ (test : Live → Bool) (g : ℕ → Option (ℕ × Live)) where
  -- from what is found behind the first
  ahead : (j : ℕ) (es : List (ℕ × Live)) (ks : List ℕ) (k : ℕ) → (key_found test ks (lives es) ≡ Some k → IsFound test g es k) → (x : ℕ × Live) → g j ≡ Some x → key_found test (j ∷ ks) (lives (x ∷ es)) ≡ Some k → IsFound test g (x ∷ es) k
  ahead j es ks k behind x there is =
      elim (cases_Bool (test x.1)) [
        | inl here ↦ (
            let one : Some j ≡ Some k = rw here at is in
            let same : j ≡ k = cc in
            record { entry = x; is = ap g (sym same) ∙ there; rank = rw here refl })
        | inr other ↦ (
            let later = behind (rw other at is) in
            record { entry = later.entry; is = later.is; rank = rw other later.rank })
      ]

  pub found : (ks : List ℕ) → IsKeyed itself g ks → (k : ℕ) → key_found test ks (lives (listed itself g ks)) ≡ Some k → IsFound test g (listed itself g ks) k
  found [] kept k is = let e : None ≡ Some k = is in absurd (cc)
  found (j ∷ ks) kept k is =
      let e = entry_of itself g j kept.0 in
      rw e.1 (ahead j (listed itself g ks) ks k (found ks kept.2 k) e.0 e.1 (rw e.1 at is))

  none_ahead : (j : ℕ) (es : List (ℕ × Live)) (ks : List ℕ) → (key_found test ks (lives es) ≡ None → earliest test es ≡ None) → (x : ℕ × Live) → key_found test (j ∷ ks) (lives (x ∷ es)) ≡ None → earliest test (x ∷ es) ≡ None
  none_ahead j es ks behind x is =
      elim (cases_Bool (test x.1)) [
        | inl here ↦ (let e : Some j ≡ None = rw here at is in absurd (cc))
        | inr other ↦ (let later = behind (rw other at is) in rw other later)
      ]

  pub found_none : (ks : List ℕ) → IsKeyed itself g ks → key_found test ks (lives (listed itself g ks)) ≡ None → earliest test (listed itself g ks) ≡ None
  found_none [] kept is = refl
  found_none (j ∷ ks) kept is =
      let e = entry_of itself g j kept.0 in
      rw e.1 (none_ahead j (listed itself g ks) ks (found_none ks kept.2) e.0 (rw e.1 at is))
