-- The least number that passes a test.
use Rattle.std.specs.Option.{option_or}
use Rattle.std.specs.Prelude.{◌≡◌, ℕ, zero, suc, ◌<◌, Bool, true, false, if◌then◌else◌, Option, Some, None}

-- of those below n
abbrev pub least_below : (ℕ → Bool) → ℕ → Option ℕ
least_below test zero = None
least_below test (suc n) = option_or (least_below test n) (if test n then Some n else None)

-- it passes and none below it does, or none at all does
abbrev pub IsLeastBelow : (ℕ → Bool) → ℕ → Option ℕ → Type 0
IsLeastBelow test n (Some k) = (k < n) × (test k ≡ true) × ((j : ℕ) → j < k → test j ≡ false)
IsLeastBelow test n None = (j : ℕ) → j < n → test j ≡ false
