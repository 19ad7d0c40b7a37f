-- What a command keeps of its tape, which Keeps says: behind a line, and where its run ends.
use Rattle.std.specs.Prelude.{◌≡◌, ℕ, List, ◌++◌, Option, Some, None, Result}
use Rattle.gate_outside.specs.declared.fault.Failed.{Failed}
use Rattle.tape_run.specs.declared.status.Status.{Status}
use Rattle.tape_run.specs.tape.TapeCommand.{TapeCommand, read_tape}
use Rattle.tape_run.specs.Printout.{tape_printout}
use Rattle.tape_run.specs.Run.{ComesToEnd}
use Rattle.tape_run.specs.Logs.{HoldsOfRead, RunLeaves}

-- some command keeps this
abbrev pub SomeKeeps : {C S : Type 0} → (C → S → Type 0) → S → Type 0
SomeKeeps {C = C} Keeps kept = (c : C) × Keeps c kept

-- of what a command makes of a line, the text is put behind the text
abbrev pub TakesLine : {C S : Type 0} → (C → S → Type 0) → Option (List ℕ × S) → C → List ℕ → List ℕ → Type 0
TakesLine Keeps None new text_old text_new = ⊥
TakesLine Keeps (Some x) new text_old text_new = (text_new ≡ text_old ++ x.0) × Keeps new x.1

-- where it comes to the end of its tape, or to a bad line, some command keeps what the lines before say: by the log of
-- the reads, over any tape, and of one that tells its bytes
pub record ReadsTo {C S T : Type 0} (read_gives : T → List ℕ → Result ℕ Failed → T → Type 0) (remaining : T → Option (List ℕ)) (status : Status) (Keeps : C → S → Type 0) (command : TapeCommand S) (old new : T) : Type 0 where
  pub by_log : ComesToEnd status (HoldsOfRead read_gives (λ tape. SomeKeeps Keeps (read_tape command tape).after.kept) old new)
  pub where_told : ComesToEnd status ((tape : List ℕ) → remaining old ≡ Some tape → SomeKeeps Keeps (read_tape command tape).after.kept)

-- what a run leaves, and to what it has read
pub record ReaderRuns {C T S K : Type 0} (command : TapeCommand T) (Keeps : C → T → Type 0) (read_gives : S → List ℕ → Result ℕ Failed → S → Type 0) (write_gives : K → List ℕ → Result ℕ Failed → K → Type 0) (remaining : S → Option (List ℕ)) (contents : K → Option (List ℕ))
    (status : Status) (tape_old tape_new : S) (out_old out_new : K) : Type 0 where
  pub leaves : RunLeaves read_gives write_gives remaining contents status (tape_printout command) tape_old tape_new out_old out_new
  pub kept : ReadsTo read_gives remaining status Keeps command tape_old tape_new
