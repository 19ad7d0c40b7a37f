-- What a run has read and written, by the log of its calls, which says it over any tape and any sink, since it speaks
-- of nothing but what their calls answered; and what follows of a tape and a sink that tell their bytes.
use Rattle.std.specs.Prelude.{◌≡◌, ℕ, List, [], ◌++◌, Option, Some, Result}
use Rattle.gate_outside.specs.declared.fault.Failed.{Failed}
use Rattle.gate_outside.specs.Moved.{Move, Moved, moved, MayFollow, Moves}
use Rattle.tape_run.specs.declared.status.Status.{Status}
use Rattle.tape_run.specs.declared.status.Status.TheVariants.{OutOfMemory}
use Rattle.tape_run.specs.Printout.{Printout}
use Rattle.tape_run.specs.Run.{LeavesTold, LeavesWhereTold}
use Rattle.tape_run.specs.Wants.{RunsOut}

-- These reads were made, one after the other, and these bytes were written. For each tape that begins with what the
-- reads gave, and ends there where the last of them found the end, what follows of it and what was written is what a
-- run leaves over a tape and a sink that tell their bytes. Memory ran out only where these reads and what was written
-- allow it.
pub record LeavesByLog {S K : Type 0} (read_gives : S → List ℕ → Result ℕ Failed → S → Type 0) (write_gives : K → List ℕ → Result ℕ Failed → K → Type 0) (status : Status) (p : Printout) (tape_old tape_new : S) (out_old out_new : K) : Type 0 where
  pub reads : List Move
  pub read : Moved read_gives reads tape_old tape_new
  pub written : List ℕ
  pub writes : Moves write_gives written out_old out_new
  pub leaves : (later : List ℕ) → MayFollow reads later → LeavesTold status p (moved reads ++ later) (Some later) written
  pub wants : status ≡ OutOfMemory → RunsOut p reads written

-- the same of a run that reads no tape: memory ran out only before anything was written
pub record WritesByLog {K : Type 0} (write_gives : K → List ℕ → Result ℕ Failed → K → Type 0) (status : Status) (p : Printout) (out_old out_new : K) : Type 0 where
  pub written : List ℕ
  pub writes : Moves write_gives written out_old out_new
  pub leaves : (tape : List ℕ) → LeavesTold status p tape (Some tape) written
  pub wants : status ≡ OutOfMemory → written ≡ []

-- what a run leaves: by its log, over any tape and any sink, and where these tell their bytes
pub record RunLeaves {S K : Type 0} (read_gives : S → List ℕ → Result ℕ Failed → S → Type 0) (write_gives : K → List ℕ → Result ℕ Failed → K → Type 0) (remaining : S → Option (List ℕ)) (contents : K → Option (List ℕ)) (status : Status) (p : Printout) (tape_old tape_new : S) (out_old out_new : K) : Type 0 where
  pub by_log : LeavesByLog read_gives write_gives status p tape_old tape_new out_old out_new
  pub where_told : LeavesWhereTold status p (remaining tape_old) (remaining tape_new) (contents out_old) (contents out_new)

-- the same of a run that reads no tape
pub record RunWrites {K : Type 0} (write_gives : K → List ℕ → Result ℕ Failed → K → Type 0) (contents : K → Option (List ℕ)) (status : Status) (p : Printout) (out_old out_new : K) : Type 0 where
  pub by_log : WritesByLog write_gives status p out_old out_new
  pub where_told : (remaining : Option (List ℕ)) → LeavesWhereTold status p remaining remaining (contents out_old) (contents out_new)

-- these reads were made, one after the other, and this holds of each tape that begins with what they gave, and ends
-- there where the last of them found the end
pub record HoldsOfRead {S : Type 0} (read_gives : S → List ℕ → Result ℕ Failed → S → Type 0) (Holds : List ℕ → Type 0) (tape_old tape_new : S) : Type 0 where
  pub reads : List Move
  pub read : Moved read_gives reads tape_old tape_new
  pub each : (later : List ℕ) → MayFollow reads later → Holds (moved reads ++ later)
