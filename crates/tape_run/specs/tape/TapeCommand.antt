-- Commands over a tape, as data: what each line gives, and what then stands on the tape's text and end.
use Rattle.std.specs.Prelude.{ℕ, ◌+◌, Bool, true, false, nat_lt, if◌then◌else◌, List, [], ◌∷◌, ◌++◌, length, option_map, Option, Some, None}
use Rattle.tape_run.specs.declared.status.Status.{Status}
use Rattle.tape_run.specs.declared.status.Status.TheVariants.{Done, Refused, BadTape}
use Rattle.packet_show.specs.declared.tape.TheConstants.{TAPE_LIMIT}
use Rattle.tape_run.specs.tape.Tape.{lines_of, content}
use Rattle.tape_run.specs.Text.{bad_line}

-- a command, which keeps an S of the lines so far
pub record TapeCommand (S : Type 0) : Type 0 where
  -- the text before the first line
  pub opening : List ℕ
  pub start : S
  -- a line's text, by its content, and what is kept with it; none where the line is bad
  pub line : S → List ℕ → Option (List ℕ × S)
  -- whether a line says something, by its content; only what it says may take memory
  pub says : List ℕ → Bool
  -- the text behind the last line
  pub closing : S → List ℕ
  -- whether it ends in a refusal, where no line is bad
  pub refused : S → Bool

-- what has been read of a tape: how many lines, how many bytes, and what the command keeps
pub record Progress (S : Type 0) : Type 0 where
  pub lines : ℕ
  pub bytes : ℕ
  pub kept : S

abbrev pub begin : {S : Type 0} → TapeCommand S → Progress S
begin command = record { lines = 0; bytes = 0; kept = command.start }

abbrev pub one_further : {S : Type 0} → Progress S → List ℕ → List ℕ × S → List ℕ × Progress S
one_further p line x = (x.0, record { lines = p.lines + 1; bytes = p.bytes + length line; kept = x.1 })

-- the text of the next line, and what has then been read; none where the line is bad, as one is, too, that has a byte
-- past the limit of the tape; its LF is one of its bytes
abbrev pub next_line : {S : Type 0} → TapeCommand S → Progress S → List ℕ → Option (List ℕ × Progress S)
next_line command p line =
    if nat_lt TAPE_LIMIT (p.bytes + length line) then None else option_map (one_further p line) (command.line p.kept (content line))

-- the text of the lines up to the first bad one, and what has been read before that
pub record Reading (S : Type 0) : Type 0 where
  pub text : List ℕ
  pub after : Progress S
  pub bad : Bool

abbrev pub on_line : {S : Type 0} → Progress S → (Progress S → Reading S) → Option (List ℕ × Progress S) → Reading S
on_line p later None = record { text = []; after = p; bad = true }
on_line p later (Some x) = record (later x.1) { text = x.0 ++ (later x.1).text }

abbrev pub read_lines : {S : Type 0} → TapeCommand S → Progress S → List (List ℕ) → Reading S
read_lines command p [] = record { text = []; after = p; bad = false }
read_lines command p (line ∷ lines) = on_line p (λ q. read_lines command q lines) (next_line command p line)

abbrev pub read_tape : {S : Type 0} → TapeCommand S → List ℕ → Reading S
read_tape command tape = read_lines command (begin command) (lines_of tape)

-- the last text, or in its place the number of the bad line, counted from 1
abbrev pub last_text : {S : Type 0} → TapeCommand S → Reading S → List ℕ
last_text command x = if x.bad then bad_line (x.after.lines + 1) else command.closing x.after.kept

-- the text that a command prescribes for a tape, and how it then ends
abbrev pub whole_text : {S : Type 0} → TapeCommand S → List ℕ → List ℕ
whole_text command tape = let x = read_tape command tape in command.opening ++ x.text ++ last_text command x

abbrev pub tape_status : {S : Type 0} → TapeCommand S → List ℕ → Status
tape_status command tape =
    let x = read_tape command tape in if x.bad then BadTape (x.after.lines + 1) else if command.refused x.after.kept then Refused else Done

-- the text of whole lines, the first of a tape, without the last text; none where one of them is bad
abbrev pub front_text : {S : Type 0} → TapeCommand S → List ℕ → Option (List ℕ)
front_text command whole = let x = read_tape command whole in if x.bad then None else Some (command.opening ++ x.text)
