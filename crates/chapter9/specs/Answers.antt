-- What is said of a walk that gave no parts.
use Rattle.std.specs.Prelude.{ℕ, List, Result, Err}
use Rattle.chapter9.specs.declared.part.Part.{Part}
use Rattle.chapter9.specs.declared.descriptors.WalkError.{WalkError}
use Rattle.chapter9.specs.declared.descriptors.WalkError.TheVariants.{Bad, Memory}

-- where it was a wrong descriptor, this holds of its place
abbrev pub IfBad : Result (List Part) WalkError → (ℕ → Type 0) → Type 0
IfBad (Err (Bad place)) P = P place
IfBad _ P = Unit {0}

-- where memory was wanting, this holds
abbrev pub OnMemory : Result (List Part) WalkError → Type 0 → Type 0
OnMemory (Err (Memory memory)) p = p
OnMemory _ p = Unit {0}
