-- What a command is to print that goes over a tape or over nothing, and how it is to end, where it meets no fault and
-- has memory.
use Rattle.std.specs.Prelude.{Bool, true, false, List, [], ◌∷◌, ◌++◌, ℕ, codes, Option, None}
use Rattle.tape_run.specs.declared.status.Status.{Status}
use Rattle.tape_run.specs.declared.status.Status.TheVariants.{Done, Usage}
use Rattle.packet_show.specs.Line.{LF}
use Rattle.tape_run.specs.tape.TapeCommand.{TapeCommand, whole_text, tape_status, front_text}

pub record Printout : Type 0 where
  -- whether a tape is read
  pub taped : Bool
  -- the whole text of a tape
  pub text : List ℕ → List ℕ
  pub status : List ℕ → Status
  -- the text of whole lines, the first of a tape, without a last text; none where one is bad, and where no tape is read
  pub front : List ℕ → Option (List ℕ)
  -- what it leaves of a tape, where it comes to its end
  pub rest : List ℕ → List ℕ
  -- whether a line of a tape says something, by its content; only what it says may take memory
  pub says : List ℕ → Bool

abbrev pub tape_printout : {S : Type 0} → TapeCommand S → Printout
tape_printout command = record { taped = true; text = λ tape. whole_text command tape; status = λ tape. tape_status command tape; front = λ whole. front_text command whole; rest = λ tape. []; says = command.says }

-- a text for which no tape is read
abbrev pub untaped : Status → List ℕ → Printout
untaped status text = record { taped = false; text = λ tape. text; status = λ tape. status; front = λ whole. None; rest = λ tape. tape; says = λ line. false }

abbrev pub usage : Printout
usage = untaped Usage (codes "usage: usbgate COMMAND [options]" ++ LF ∷ [])

abbrev pub printed : List ℕ → Printout
printed text = untaped Done text
