-- Ids that were drawn.
use Rattle.std.proofs.Common.{◌≡◌, ℕ, ◌≤◌, ◌==◌, Bool, true, false, List, [], ◌∷◌, ◌++◌, refl, ap, ◌∙◌, subst, arith}
use Rattle.std.specs.Prelude.{nat_eq}
use Rattle.std.specs.List.{AllByRecursion, IsDistinct}
use Rattle.std.proofs.lemmas.Bool.{or_parts}
use Rattle.gate_history.specs.state.Ids.{times, holds}
use Rattle.direct_proof.proofs.streams.fills.FillLists.{weight}

pub any-back : (xs ys : List ℕ) (id : ℕ) → holds (xs ++ ys) id ≡ false → holds ys id ≡ false
any-back [] ys id h = h
any-back (x ∷ xs) ys id h = any-back xs ys id (or_parts (id == x) (holds (xs ++ ys) id) h).1

pub times-some : (n : ℕ) (ids : List ℕ) (fly : List ℕ) → AllByRecursion (λ id. holds fly id ≡ false) ids → 1 ≤ times n ids → holds fly n ≡ false
times-some n [] fly h k = absurd (omega (arith, k))
times-some n (id ∷ ids) fly h k = go (n == id) refl (times-some n ids fly h.1)
  where
    go : (b : Bool) → (n == id) ≡ b → (1 ≤ times n ids → holds fly n ≡ false) → holds fly n ≡ false
    go true i rest = let same : n ≡ id = grind (arith, i) in ap (holds fly) same ∙ h.0
    go false i rest = let z : weight (n == id) ≡ weight false = ap weight i in rest (omega (arith, k, z))

pub times-distinct : (q : ℕ) (ids : List ℕ) → IsDistinct nat_eq ids → times q ids ≤ 1
unfolding IsDistinct
times-distinct q [] h = omega arith
times-distinct q (id ∷ ids) h = go (q == id) refl (times-distinct q ids h.1)
  where
    absent : (k : ℕ) (xs : List ℕ) → AllByRecursion (λ y. nat_eq k y ≡ false) xs → times k xs ≡ 0
    absent k [] a = refl
    absent k (y ∷ ys) a = let rest = absent k ys a.1 in let z : weight (k == y) ≡ weight false = ap weight a.0 in omega (arith, rest, z)

    go : (b : Bool) → (q == id) ≡ b → times q ids ≤ 1 → times q (id ∷ ids) ≤ 1
    go false i rest = let z : weight (q == id) ≡ weight false = ap weight i in omega (arith, rest, z)
    go true i rest = let same : id ≡ q = grind (arith, i) in let n : times q ids ≡ 0 = absent q ids (subst (λ (k : ℕ). AllByRecursion (λ y. nat_eq k y ≡ false) ids) same h.0) in let z : weight (q == id) ≡ weight true = ap weight i in omega (arith, n, z)
