-- Which calls of a form in memory fail.
use Rattle.std.specs.Prelude.{◌≡◌, ◌==◌, ℕ, Bool, true, false, List, Result, Ok, Err}
use Rattle.std.specs.List.{list_any}
use Rattle.gate_outside.specs.Faults.{one_more}

pub record Plan : Type 0 where
  -- the number of the next call
  pub calls : ℕ
  -- the numbers of those that fail
  pub fails : List ℕ
  -- how many did
  pub faults : ℕ

abbrev pub fresh : List ℕ → Plan
fresh fails = record { calls = 0; fails = fails; faults = 0 }

-- whether the next call fails
abbrev pub fails_now : Plan → Bool
fails_now plan = list_any (λ number. number == plan.calls) plan.fails

abbrev pub passed : Plan → Plan
passed plan = record plan { calls = one_more plan.calls }

abbrev pub faulted : Plan → Plan
faulted plan = record plan { faults = one_more plan.faults }

abbrev pub failed : Plan → Plan
failed plan = faulted (passed plan)

-- the next call is counted, and fails exactly where that is planned
abbrev pub Counts : {T E : Type 0} → Result T E → Plan → Plan → Type 0
Counts (Ok _) old new = (fails_now old ≡ false) × (new ≡ passed old)
Counts (Err _) old new = (fails_now old ≡ true) × (new ≡ failed old)
