-- Faults of the outside are counted where they happen.
use Rattle.std.specs.Prelude.{◌≡◌, ℕ, ◌+◌, max, Result, OnOk, OnErr}
use Rattle.usb_base.specs.Number.{capped}

-- a count after one more: it stands still at the greatest number of 64 bits
abbrev pub one_more : ℕ → ℕ
one_more count = max count (capped (count + 1))

-- the count rose by one, or stands at its greatest number
abbrev pub Rose : ℕ → ℕ → Type 0
Rose before now = now ≡ one_more before

-- a call that failed counted one fault, and any other none
pub record HasCause {T E : Type 0} (before now : ℕ) (result : Result T E) : Type 0 where
  pub stands : OnOk result (now ≡ before)
  pub failed : OnErr result (Rose before now)
