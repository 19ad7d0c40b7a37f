-- The search for a free id: the relation, and why the loop ends.
use Rattle.std.proofs.Common.{◌≡◌, ℕ, zero, suc, ◌<◌, true, false, cond, List, [], ◌∷◌, length, refl, sym, ap, ◌∙◌, arith, inl, inr}
use Rattle.std.proofs.lemmas.Bool.{cases_Bool, false≢true}
use Rattle.gate_history.specs.state.Ids.{id_after, holds, free_from, draw, ReachesId, IsNext, Fits}
use Rattle.gate_history.proofs.lemmas.state.Cycle.{after-fits}
use Rattle.gate_history.proofs.lemmas.state.Draws.{free_from-free}

-- ---- the draw is what the relation says

record Reached (m : ℕ) (flying : List ℕ) (id found : ℕ) : Type 0 where
  turns : ℕ
  reaches : ReachesId m flying turns id found

reached : (m : ℕ) (flying : List ℕ) (n id : ℕ) → holds flying (free_from m flying n id) ≡ false → Reached m flying id (free_from m flying n id)
reached m flying zero id h = record { turns = zero; reaches = (refl, h) }
reached m flying (suc n) id h =
    elim (cases_Bool (holds flying id)) [
      | inl here ↦
          let later = reached m flying n (id_after m id) (rw here at h) in
          rw here record { turns = suc later.turns; reaches = (here, later.reaches) }
      | inr none ↦ rw none record { turns = zero; reaches = (refl, none) }
    ]

pub draw-next : (m : ℕ) (flying : List ℕ) (last : ℕ) → length flying < m → IsNext m flying last (draw m flying last)
draw-next m flying last room =
    let r = reached m flying (length flying) (id_after m last) (free_from-free m flying (id_after m last) (after-fits m last (omega arith)) room) in
    (r.turns, r.reaches)

one_end : (m : ℕ) (flying : List ℕ) (j k id a b : ℕ) → ReachesId m flying j id a → ReachesId m flying k id b → a ≡ b
one_end m flying zero zero id a b r s = r.0 ∙ sym s.0
one_end m flying zero (suc k) id a b r s = absurd (false≢true (sym r.1 ∙ ap (holds flying) r.0 ∙ s.0))
one_end m flying (suc j) zero id a b r s = absurd (false≢true (sym s.1 ∙ ap (holds flying) s.0 ∙ r.0))
one_end m flying (suc j) (suc k) id a b r s = one_end m flying j k (id_after m id) a b r.1 s.1

pub next-one : (m : ℕ) (flying : List ℕ) (last a b : ℕ) → IsNext m flying last a → IsNext m flying last b → a ≡ b
next-one m flying last a b r s = one_end m flying r.0 s.0 (id_after m last) a b r.1 s.1

-- ---- a loop that goes on while the candidate is in flight

-- how many candidates are passed over
abbrev pub passes : ℕ → List ℕ → ℕ → ℕ → ℕ
passes m flying zero id = zero
passes m flying (suc n) id = cond (holds flying id) (suc (passes m flying n (id_after m id))) zero

-- more tries find the same
stays : (m : ℕ) (flying : List ℕ) (n id : ℕ) → holds flying (free_from m flying n id) ≡ false →
    (free_from m flying (suc n) id ≡ free_from m flying n id) × (passes m flying (suc n) id ≡ passes m flying n id)
stays m flying zero id h = (rw h refl, rw h refl)
stays m flying (suc n) id h =
    elim (cases_Bool (holds flying id)) [
      | inl here ↦
          let s = stays m flying n (id_after m id) (rw here at h) in
          (rw here s.0, rw here (ap suc s.1))
      | inr none ↦ (rw none refl, rw none refl)
    ]

passed : (m : ℕ) (flying : List ℕ) (n id : ℕ) → holds flying (free_from m flying (suc n) id) ≡ false → holds flying id ≡ true →
    (free_from m flying (suc n) (id_after m id) ≡ free_from m flying (suc n) id) × (passes m flying (suc n) (id_after m id) < passes m flying (suc n) id)
passed m flying n id h here =
    let s = stays m flying n (id_after m id) (rw here at h) in
    let one : passes m flying (suc n) id ≡ suc (passes m flying n (id_after m id)) = rw here refl in
    (s.0 ∙ rw here refl, omega (arith, one, s.1))

-- a pass changes nothing of what is found, and leaves fewer
pub pass : (m : ℕ) (flying : List ℕ) (id : ℕ) → Fits m id → length flying < m → holds flying id ≡ true →
    (free_from m flying (length flying) (id_after m id) ≡ free_from m flying (length flying) id)
    × (passes m flying (length flying) (id_after m id) < passes m flying (length flying) id)
pass m [] id f room here = absurd (false≢true here)
pass m (x ∷ xs) id f room here = passed m (x ∷ xs) (length xs) id (free_from-free m (x ∷ xs) id f room) here

-- at a free one the search ends
pub stop : (m : ℕ) (flying : List ℕ) (n id : ℕ) → holds flying id ≡ false → free_from m flying n id ≡ id
stop m flying zero id h = refl
stop m flying (suc n) id h = rw h refl
