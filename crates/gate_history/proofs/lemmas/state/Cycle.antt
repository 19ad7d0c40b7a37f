-- Ids in turn: up to m of them differ, and so some of them aren't in flight.
use Rattle.std.proofs.Common.{◌≡◌, ℕ, zero, suc, ◌+◌, ◌<◌, ◌≤◌, Bool, false, cond, ltb, eqb, List, [], ◌∷◌, length, refl, ap, arith, inl, inr, ◌⊎◌}
use Rattle.std.specs.List.{IsDistinct, AllByRecursion}
use Rattle.std.proofs.lemmas.Bool.{ltb-true, ltb-false, cases_Bool}
use Rattle.std.proofs.lemmas.Bool.Decides.{nat_tests}
use Rattle.gate_history.specs.state.Ids.{id_after, Fits}

-- k ids in turn, from this one on
abbrev pub turn : ℕ → ℕ → ℕ → List ℕ
turn m id zero = []
turn m id (suc k) = id ∷ turn m (id_after m id) k

-- the two forms of the next id
pub after_is : (m id : ℕ) → Fits m id → ((id_after m id ≡ id + 1) × (id < m)) ⊎ ((id_after m id ≡ 1) × (id ≡ m))
after_is m id f =
    elim (cases_Bool (ltb id m)) [
      | inl below ↦ inl (ap (λ (b : Bool). cond b (id + 1) 1) below, ltb-true id m below)
      | inr top ↦ let h = ltb-false id m top in inr (ap (λ (b : Bool). cond b (id + 1) 1) top, omega (arith, f.high))
    ]

pub after-fits : (m last : ℕ) → 1 ≤ m → Fits m (id_after m last)
after-fits m last some =
    elim (cases_Bool (ltb last m)) [
      | inl below ↦ let h = ltb-true last m below in rw below record { low = omega arith; high = omega arith }
      | inr top ↦ rw top record { low = omega arith; high = some }
    ]

-- id stands j turns after x
abbrev Later : ℕ → ℕ → ℕ → ℕ → Type 0
Later m x j id = (x + j ≡ id) ⊎ (x + j ≡ id + m)

later-after : (m x j id : ℕ) → Fits m x → Fits m id → suc j ≤ m → Later m x j id → Later m x (suc j) (id_after m id)
later-after m x j id fx f short e =
    elim (after_is m id f) [
      | inl up ↦ elim e [ inl a ↦ inl (omega (arith, up.0)) | inr b ↦ inr (omega (arith, up.0)) ]
      | inr back ↦ elim e [ inl a ↦ inr (omega (arith, back.0, back.1)) | inr b ↦ absurd (omega (arith, back.1, fx.high)) ]
    ]

-- no id comes back within m turns
apart : (m x j id k : ℕ) → Fits m x → Fits m id → 1 ≤ j → j + k ≤ m → Later m x j id → AllByRecursion (λ y. eqb x y ≡ false) (turn m id k)
apart m x j id zero fx f some short e = tt
apart m x j id (suc k) fx f some short e = (
  elim e [ inl a ↦ differ (omega arith) | inr b ↦ differ (omega arith) ],
  apart m x (suc j) (id_after m id) k fx (after-fits m id (omega arith)) (omega arith) (omega arith) (later-after m x j id fx f (omega arith) e),
)
  where
    differ : (x ≡ id → ⊥) → eqb x id ≡ false
    differ ne = grind (arith, nat_tests, ne)

pub turn-distinct : (m id k : ℕ) → Fits m id → k ≤ m → IsDistinct eqb (turn m id k)
unfolding IsDistinct
turn-distinct m id zero f short = tt
turn-distinct m id (suc k) f short = (
  apart m id 1 (id_after m id) k f (after-fits m id (omega arith)) (omega arith) (omega arith) (first (after_is m id f)),
  turn-distinct m (id_after m id) k (after-fits m id (omega arith)) (omega arith),
)
  where
    first : ((id_after m id ≡ id + 1) × (id < m)) ⊎ ((id_after m id ≡ 1) × (id ≡ m)) → Later m id 1 (id_after m id)
    first (inl up) = inl (omega (arith, up.0))
    first (inr back) = inr (omega (arith, back.0, back.1))

pub length-turn : (m id k : ℕ) → length (turn m id k) ≡ k
length-turn m id zero = refl
length-turn m id (suc k) = ap suc (length-turn m (id_after m id) k)
