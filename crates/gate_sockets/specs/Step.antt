-- What one call of the system moved.
use Rattle.std.specs.Prelude.{ℕ, ◌≤◌, List, [], take, Result, Ok, Err}
use Rattle.std.specs.declared.io.Error.{Error}
use Rattle.std.specs.declared.io.ErrorKind.{ErrorKind}
use Rattle.std.specs.declared.io.ErrorKind.TheVariants.{WouldBlock, Interrupted, OutOfMemory}
use Rattle.std.specs.IoError.{error_kind}
use Rattle.gate_sockets.specs.declared.step.Step.{Step}
use Rattle.gate_sockets.specs.declared.step.Step.TheVariants.{Moved, Blocked, Cut, Broken}

-- what was moved fits in a buffer of this length
abbrev pub IsStepWithin : ℕ → Step → Type 0
IsStepWithin limit (Moved n) = n ≤ limit
IsStepWithin limit _ = Unit {0}

-- nothing to move now is no failure, and want of memory passes. Any other error ends the link: a reset, a broken pipe,
-- a timeout of the system, a peer that can't be reached.
abbrev pub step_at : ErrorKind → Error → Step
step_at WouldBlock e = Blocked
step_at Interrupted e = Cut
step_at OutOfMemory e = Cut
step_at _ e = Broken e

abbrev pub step_for : Result ℕ Error → Step
step_for (Ok n) = Moved n
step_for (Err e) = step_at (error_kind e) e

-- the bytes that were moved to the front of a buffer, or from the front of a piece
abbrev pub moved_of : Step → List ℕ → List ℕ
moved_of (Moved n) bytes = take n bytes
moved_of _ bytes = []
