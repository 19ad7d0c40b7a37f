-- What a run leaves, by how it ended.
use Rattle.std.specs.Prelude.{◌≡◌, ◌≤◌, ℕ, ◌+◌, List, [], ◌∷◌, ◌++◌, length, Option, Some}
use Rattle.tape_run.specs.declared.status.Status.{Status}
use Rattle.tape_run.specs.declared.status.Status.TheVariants.{Done, Refused, ReadFault, WriteFault, LinkFault, OutOfMemory, BadTape, Idle, Spent}
use Rattle.packet_show.specs.Line.{LF}
use Rattle.packet_show.specs.declared.tape.TheConstants.{TAPE_LIMIT}
use Rattle.tape_run.specs.Printout.{Printout}

-- it is empty, or its last byte is an LF
abbrev pub EndsALine : List ℕ → Type 0
EndsALine [] = Unit {0}
EndsALine (b ∷ []) = b ≡ LF
EndsALine (b ∷ c ∷ bs) = EndsALine (c ∷ bs)

-- none of its bytes is an LF
abbrev pub HasNoLF : List ℕ → Type 0
HasNoLF [] = Unit {0}
HasNoLF (b ∷ bs) = (b ≡ LF → ⊥) × HasNoLF bs

-- Whole lines of the tape and a part of the next one were read, and the rest was not. None of those lines is bad, and
-- the part doesn't pass the tape's limit. The text of the lines is written, and no last line.
pub record ReadInPart (p : Printout) (tape : List ℕ) (remaining : Option (List ℕ)) (written : List ℕ) : Type 0 where
  pub whole : List ℕ
  pub part : List ℕ
  pub rest : List ℕ
  pub tape-is : tape ≡ whole ++ part ++ rest
  pub whole_lines : EndsALine whole
  pub part_of_line : HasNoLF part
  pub good : p.front whole ≡ Some written
  pub within : length whole + length part ≤ TAPE_LIMIT
  pub remaining-is : remaining ≡ Some rest

-- a front of the text is written that is prescribed for the whole tape
pub record WrittenInPart (p : Printout) (tape written : List ℕ) : Type 0 where
  pub back : List ℕ
  pub text-is : p.text tape ≡ written ++ back

-- all of that text is written, and this is how it ends
pub record WrittenWhole (status : Status) (p : Printout) (tape written : List ℕ) : Type 0 where
  pub text-is : p.text tape ≡ written
  pub status-is : status ≡ p.status tape

-- what of this tape remains, and what was written
abbrev pub LeavesTold : Status → Printout → List ℕ → Option (List ℕ) → List ℕ → Type 0
LeavesTold (BadTape n) p tape remaining written = WrittenWhole (BadTape n) p tape written
LeavesTold ReadFault p tape remaining written = ReadInPart p tape remaining written
LeavesTold WriteFault p tape remaining written = WrittenInPart p tape written
LeavesTold OutOfMemory p tape remaining written = WrittenInPart p tape written
LeavesTold (LinkFault side) p tape remaining written = ⊥
LeavesTold Idle p tape remaining written = ⊥
LeavesTold Spent p tape remaining written = ⊥
LeavesTold status p tape remaining written = (remaining ≡ Some (p.rest tape)) × WrittenWhole status p tape written

-- over a tape and a sink that tell their bytes
abbrev pub LeavesWhereTold : Status → Printout → Option (List ℕ) → Option (List ℕ) → Option (List ℕ) → Option (List ℕ) → Type 0
LeavesWhereTold status p remaining_old remaining_new contents_old contents_new =
    (tape text : List ℕ) → remaining_old ≡ Some tape → contents_old ≡ Some text
    → (written : List ℕ) × (contents_new ≡ Some (text ++ written)) × LeavesTold status p tape remaining_new written

-- this holds where a run over a tape comes to the tape's end, or to a bad line
abbrev pub ComesToEnd : Status → Type 0 → Type 0
ComesToEnd Done A = A
ComesToEnd Refused A = A
ComesToEnd (BadTape number) A = A
ComesToEnd status A = Unit {0}
