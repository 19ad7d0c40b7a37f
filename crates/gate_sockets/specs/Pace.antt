-- The pace at which a link is polled that has nothing to give, in nanoseconds of the clock.
use Rattle.std.specs.Prelude.{◌≡◌, ◌<◌, ◌≤◌, ℕ, ◌+◌, ◌-◌, ◌*◌, min, max, Option, Some, None}
use Rattle.std.specs.Duration.{max_nanos, as_nanos}
use Rattle.std.specs.declared.time.Duration.{Duration}
use Rattle.gate_sockets.specs.declared.limits.TheConstants.{MADE_UP}

-- how many intervals are made up for at most
abbrev pub most_made_up : ℕ
most_made_up = MADE_UP

-- when the next interval ends: an interval behind the last one's end, but no more of them are made up for
abbrev pub next_due : ℕ → ℕ → ℕ → ℕ
next_due interval due now = min (max due (now - most_made_up * interval) + interval) max_nanos

-- how long it is at this time to the end of the interval that was due, or of the next one where that has ended
pub record IsLeft (now left interval due due_new : ℕ) : Type 0 where
  pub early : now < due → due_new ≡ due
  pub late : due ≤ now → due_new ≡ next_due interval due now
  pub rest : left ≡ min (due_new - now) interval

-- the same by what a clock tells. Where it tells nothing, it is an interval.
abbrev pub IsLeftBy : Option Duration → ℕ → ℕ → ℕ → ℕ → Type 0
IsLeftBy (Some now) left interval due due_new = IsLeft (as_nanos now) left interval due due_new
IsLeftBy None left interval due due_new = (left ≡ interval) × (due_new ≡ due)
