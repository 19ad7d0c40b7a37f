-- Where a reader stands in a tape, of which a part has been read, and a part of whose text has been written. What the
-- command keeps is said by Keeps.
use Rattle.std.specs.Prelude.{◌≡◌, ◌≢◌, ◌⊎◌, ℕ, ◌+◌, ◌<◌, ◌≤◌, true, false, List, [], ◌++◌, length, Option, Some, None}
use Rattle.tape_run.specs.declared.tape.lines.TapeLines.{TapeLines}
use Rattle.tape_run.specs.declared.tape.reader.TapeReader.{TapeReader}
use Rattle.tape_run.specs.declared.status.Status.{Status}
use Rattle.tape_run.specs.declared.status.Status.TheVariants.{BadTape}
use Rattle.tape_run.specs.tape.Tape.{lines_of, content}
use Rattle.tape_run.specs.Text.{bad_line}
use Rattle.packet_show.specs.declared.tape.TheConstants.{TAPE_LIMIT}
use Rattle.tape_run.specs.tape.TapeCommand.{TapeCommand, Progress, begin, next_line, Reading, read_lines, read_tape, whole_text, tape_status}
use Rattle.tape_run.specs.Run.{EndsALine, HasNoLF}
use Rattle.tape_run.specs.Wants.{IsJoined}
use Rattle.tape_run.specs.tape.Kept.{SomeKeeps}

-- ---- lines

-- A line has a byte at least, so there are no more lines than bytes.
pub record HasRead {C S : Type 0} (Keeps : C → S → Type 0) (l : TapeLines C) (s : Progress S) : Type 0 where
  pub keeps : Keeps l.command s.kept
  pub lines : l.lines ≡ s.lines
  pub bytes : s.bytes + l.room ≡ TAPE_LIMIT
  pub fewer : s.lines ≤ s.bytes

-- of a line that is good its text is put behind the text
abbrev pub ReadsLine : {C S : Type 0} → (C → S → Type 0) → Option (List ℕ × Progress S) → TapeLines C → List ℕ → List ℕ → Type 0
ReadsLine Keeps None new text_old text_new = ⊥
ReadsLine Keeps (Some x) new text_old text_new = (text_new ≡ text_old ++ x.0) × HasRead Keeps new x.1

-- memory was wanting for the line after s: to join its parts, or it is good, and says something; it doesn't pass the
-- limit
pub record EndWants {S : Type 0} (command : TapeCommand S) (s : Progress S) (pending last : List ℕ) : Type 0 where
  pub within : s.bytes + length (pending ++ last) ≤ TAPE_LIMIT
  pub wants : IsJoined pending last ⊎ ((command.says (content (pending ++ last)) ≡ true) × (next_line command s (pending ++ last) ≢ None))

-- ---- a tape

-- what is written behind the text where the run ends: at a bad line its own line
abbrev pub end_text : Status → List ℕ
end_text (BadTape number) = bad_line number
end_text _ = []

abbrev pub with_text : {S : Type 0} → List ℕ → Reading S → Reading S
with_text text x = record x { text = text ++ x.text }

-- Whole lines were read, which are good, and a part of the next one, which doesn't pass the limit. However the tape
-- goes on, its text begins with theirs.
pub record Stage {C S : Type 0} (command : TapeCommand S) (Keeps : C → S → Type 0) (p : TapeReader C) (read written : List ℕ) : Type 0 where
  pub whole : List ℕ
  pub text : List ℕ
  pub at : Progress S
  pub read-is : read ≡ whole ++ p.pending
  pub whole_lines : EndsALine whole
  pub part_of_line : HasNoLF p.pending
  pub bytes-is : at.bytes ≡ length whole
  pub within : at.bytes + length p.pending ≤ TAPE_LIMIT
  pub text-is : written ++ p.text ≡ command.opening ++ text
  pub reads : (later : List ℕ) → read_lines command (begin command) (lines_of (whole ++ later)) ≡ with_text text (read_lines command at (lines_of later))
  pub has_read : HasRead Keeps p.lines at

-- a line is bad, however the tape goes on: its text ends here
pub record Spoilt {C S : Type 0} (command : TapeCommand S) (Keeps : C → S → Type 0) (status : Status) (p : TapeReader C) (read written : List ℕ) : Type 0 where
  pub number : ℕ
  pub status-is : status ≡ BadTape number
  pub text : (later : List ℕ) → whole_text command (read ++ later) ≡ written ++ (p.text ++ end_text status)
  pub outcome : (later : List ℕ) → tape_status command (read ++ later) ≡ status
  pub kept : (later : List ℕ) → SomeKeeps Keeps (read_tape command (read ++ later)).after.kept

abbrev pub Took : {C S : Type 0} → TapeCommand S → (C → S → Type 0) → Option Status → TapeReader C → List ℕ → List ℕ → Type 0
Took command Keeps None p read written = Stage command Keeps p read written
Took command Keeps (Some status) p read written = Spoilt command Keeps status p read written

-- the tape has come to its end, and so has its text
pub record Finished {C S : Type 0} (command : TapeCommand S) (Keeps : C → S → Type 0) (status : Status) (p : TapeReader C) (tape written : List ℕ) : Type 0 where
  pub text : whole_text command tape ≡ written ++ (p.text ++ end_text status)
  pub outcome : tape_status command tape ≡ status
  pub kept : SomeKeeps Keeps (read_tape command tape).after.kept

-- the run ends: at the tape's end, where an empty piece comes, or at a bad line, however the tape goes on
pub record Closes {C S : Type 0} (command : TapeCommand S) (Keeps : C → S → Type 0) (status : Status) (p : TapeReader C) (piece read written : List ℕ) : Type 0 where
  pub text : (later : List ℕ) → (piece ≡ [] → later ≡ []) → whole_text command ((read ++ piece) ++ later) ≡ written ++ (p.text ++ end_text status)
  pub outcome : (later : List ℕ) → (piece ≡ [] → later ≡ []) → tape_status command ((read ++ piece) ++ later) ≡ status
  pub kept : (later : List ℕ) → (piece ≡ [] → later ≡ []) → SomeKeeps Keeps (read_tape command ((read ++ piece) ++ later)).after.kept
  pub bad : (piece ≡ [] → ⊥) → (number : ℕ) × (status ≡ BadTape number)

abbrev pub Stepped : {C S : Type 0} → TapeCommand S → (C → S → Type 0) → Option Status → TapeReader C → List ℕ → List ℕ → List ℕ → Type 0
Stepped command Keeps None p piece read written = (piece ≢ []) × Stage command Keeps p (read ++ piece) written
Stepped command Keeps (Some status) p piece read written = Closes command Keeps status p piece read written

-- every line of the tape was read, and is good
pub record AllRead {C S : Type 0} (command : TapeCommand S) (Keeps : C → S → Type 0) (p : TapeReader C) (tape written : List ℕ) : Type 0 where
  pub text : List ℕ
  pub at : Progress S
  pub text-is : written ++ p.text ≡ command.opening ++ text
  pub reads : read_lines command (begin command) (lines_of tape) ≡ record { text = text; after = at; bad = false }
  pub has_read : HasRead Keeps p.lines at

abbrev pub TookLast : {C S : Type 0} → TapeCommand S → (C → S → Type 0) → Option Status → TapeReader C → List ℕ → List ℕ → Type 0
TookLast command Keeps None p tape written = AllRead command Keeps p tape written
TookLast command Keeps (Some status) p tape written = Finished command Keeps status p tape written

-- ---- one line

-- the line after s is bad, and the text stays
pub record Spoils {S : Type 0} (status : Status) (s : Progress S) (text_old text_new : List ℕ) : Type 0 where
  pub status-is : status ≡ BadTape (s.lines + 1)
  pub text-is : text_new ≡ text_old

abbrev pub TookLine : {C S : Type 0} → TapeCommand S → (C → S → Type 0) → Option Status → Progress S → List ℕ → TapeReader C → TapeReader C → Type 0
TookLine command Keeps None s line old new = ReadsLine Keeps (next_line command s line) new.lines old.text new.text × (new.pending ≡ [])
TookLine command Keeps (Some status) s line old new = (next_line command s line ≡ None) × Spoils status s old.text new.text

-- a part of a line is kept, unless the line passes the limit
abbrev pub KeepsPart : {C S : Type 0} → Option Status → Progress S → List ℕ → TapeReader C → TapeReader C → Type 0
KeepsPart None s part old new = (new ≡ record old { pending = part }) × (s.bytes + length part ≤ TAPE_LIMIT)
KeepsPart (Some status) s part old new = (TAPE_LIMIT < s.bytes + length part) × Spoils status s old.text new.text
