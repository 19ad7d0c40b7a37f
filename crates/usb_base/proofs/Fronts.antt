-- The first bytes of a list, each at its place.
use Rattle.std.proofs.Common.{◌≡◌, ℕ, ◌≤◌, List, [], ◌∷◌, length, take, refl, ap, arith}
use Rattle.usb_base.specs.Number.{byte_at}

pub one : (b : List ℕ) → 1 ≤ length b → byte_at 0 b ∷ [] ≡ take 1 b
one [] there = absurd (omega arith)
one (x ∷ b) there = refl

pub two : (b : List ℕ) → 2 ≤ length b → byte_at 0 b ∷ byte_at 1 b ∷ [] ≡ take 2 b
two [] there = absurd (omega arith)
two (x ∷ b) there = ap (λ (l : List ℕ). x ∷ l) (one b (omega arith))
