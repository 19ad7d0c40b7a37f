-- A made tape read again: it says what was written.
use Rattle.std.specs.Prelude.{◌≡◌, ◌==◌, ◌≤◌, false, List, [], ◌∷◌, length, Some}
use Rattle.std.specs.List.{list_any}
use Rattle.packet_show.specs.declared.tape.ModelLine.{ModelLine}
use Rattle.packet_show.specs.declared.tape.TheConstants.{TAPE_LIMIT}
use Rattle.packet_show.specs.Tape.{model_line}
use Rattle.packet_show.specs.Line.{LF}
use Rattle.made_tape.specs.Lines.{words_of, tape_text}

-- what is written of a line is one line, which says just that
pub record IsReadAgain (said : ModelLine) : Type 0 where
  pub one_line : list_any (λ b. b == LF) (words_of said) ≡ false
  pub says : model_line (words_of said) ≡ Some said

abbrev pub AreReadAgain : List ModelLine → Type 0
AreReadAgain [] = Unit {0}
AreReadAgain (said ∷ lines) = IsReadAgain said × AreReadAgain lines

-- of the whole tape, which has no more bytes than a tape may have
pub record TapeAgain (lines : List ModelLine) : Type 0 where
  pub each : AreReadAgain lines
  pub short : length (tape_text lines) ≤ TAPE_LIMIT
