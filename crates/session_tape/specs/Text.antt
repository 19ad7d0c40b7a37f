-- A tape in memory.
use Rattle.std.specs.Prelude.{ℕ, Bool, if◌then◌else◌, List, Option, Some, None, Result}
use Rattle.session_tape.specs.declared.tape.Unmade.{Unmade}

pub record Text : Type 0 where
  pub held : List ℕ
  -- what the first call of `make` answers
  pub answer : Result (Unit {0}) Unmade
  pub is_made : Bool
  pub faults : ℕ
  pub there : ℕ

-- it tells its bytes once it is made
abbrev pub told : Text → Option (List ℕ)
told text = if text.is_made then Some text.held else None
