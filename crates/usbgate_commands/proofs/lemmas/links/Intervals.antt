use Rattle.std.specs.Prelude.{min}
use Rattle.std.proofs.Common.{◌≡◌, ℕ, Option, None, Some, refl, ap, arith}
use Rattle.usbgate_commands.specs.links.Interval.{shorter}

pub min_assoc : (a b c : ℕ) → min (min a b) c ≡ min a (min b c)
min_assoc a b c = omega arith

-- of three intervals it doesn't matter which two are compared first
pub shorter_assoc : (a b c : Option ℕ) → shorter (shorter a b) c ≡ shorter a (shorter b c)
shorter_assoc None b c = refl
shorter_assoc (Some a) None c = refl
shorter_assoc (Some a) (Some b) None = refl
shorter_assoc (Some a) (Some b) (Some c) = ap Some (min_assoc a b c)
