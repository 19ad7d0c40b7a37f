-- What memory is wanted for where a tape is read: to join a line of its parts, for what a good line says, and to keep a
-- part of a line. A bad line wants none, once it is whole. A run ends for want of it only at its start, at the end of a
-- tape whose lines are good, or behind a read that brings such a line or such a part.
use Rattle.std.specs.Prelude.{◌≡◌, ◌⊎◌, ℕ, ◌+◌, ◌<◌, ◌≤◌, true, List, [], ◌∷◌, ◌++◌, length, Some, IsSome}
use Rattle.gate_outside.specs.Calls.{front_of}
use Rattle.gate_outside.specs.Moved.{Move, moved}
use Rattle.tape_run.specs.tape.Tape.{content}
use Rattle.packet_show.specs.declared.tape.TheConstants.{TAPE_LIMIT}
use Rattle.tape_run.specs.Printout.{Printout}
use Rattle.tape_run.specs.Run.{EndsALine, HasNoLF, ReadInPart}

-- the line has come in parts, which are joined
abbrev pub IsJoined : List ℕ → List ℕ → Type 0
IsJoined pending last = (0 < length pending) × (0 < length last)

-- Behind whole lines a line ends, of which a part was there before: its parts are joined, or it is good, and says
-- something.
abbrev pub LineWants : Printout → List ℕ → List ℕ → List ℕ → Type 0
LineWants p whole pending last = IsJoined pending last ⊎ ((p.says (content (pending ++ last)) ≡ true) × IsSome (p.front (whole ++ (pending ++ last))))

-- Behind what was read, and behind lines of its own, a piece brings the end of such a line, or at its own end a part of
-- a line, which is kept. The lines before are good, and this one doesn't pass the limit.
pub record PieceWants (p : Printout) (read piece : List ℕ) : Type 0 where
  pub lines : List ℕ
  pub last : List ℕ
  pub rest : List ℕ
  pub whole : List ℕ
  pub pending : List ℕ
  pub piece-is : piece ≡ lines ++ last ++ rest
  pub own_lines : EndsALine lines
  pub read-is : read ++ lines ≡ whole ++ pending
  pub whole_lines : EndsALine whole
  pub part_of_line : HasNoLF pending
  pub good : IsSome (p.front whole)
  pub some : 0 < length last
  pub within : length whole + length (pending ++ last) ≤ TAPE_LIMIT
  pub wants : (HasNoLF last × (rest ≡ [])) ⊎ (EndsALine last × LineWants p whole pending last)

-- a read found the end of a tape whose lines are good, or brought such a piece
abbrev pub ReadWants : Printout → List ℕ → List ℕ → Type 0
ReadWants p read piece = ((piece ≡ []) × IsSome (p.front read)) ⊎ PieceWants p read piece

-- Behind the last of these reads memory may run out, and what is then written is what it would be had that read failed:
-- the text of all whole lines before it. Where none was made, the run has only begun, and nothing is written.
abbrev pub RunsOut : Printout → List Move → List ℕ → Type 0
RunsOut p [] written = written ≡ []
RunsOut p (move ∷ moves) written = ReadInPart p (moved moves) (Some []) written × ReadWants p (moved moves) (front_of move.answer move.bytes)
