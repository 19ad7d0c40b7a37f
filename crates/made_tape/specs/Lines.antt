-- The lines of a model's tape, as they are written.
use Rattle.std.specs.Prelude.{ℕ, List, [], ◌∷◌, ◌++◌, codes}
use Rattle.std.specs.List.{flat_map}
use Rattle.std.specs.Fmt.{decimal}
use Rattle.packet_show.specs.declared.tape.ModelLine.{ModelLine}
use Rattle.packet_show.specs.declared.tape.ModelLine.TheVariants as line
use Rattle.packet_show.specs.Line.{LF, letter}
use Rattle.session_tape.specs.Lines.{lettered}

-- a line without its LF: bytes are in lower-case hexadecimal, numbers in decimal
abbrev pub words_of : ModelLine → List ℕ
words_of line.Skip = []
words_of (line.Client bytes) = lettered (letter (codes "c")) bytes
words_of line.ClientEnd = codes "c."
words_of (line.ToHost n) = codes "g " ++ decimal n
words_of (line.ToGate n) = codes "h " ++ decimal n
words_of (line.Perform ep) = lettered (letter (codes "p")) (ep ∷ [])
words_of (line.Offer ep) = lettered (letter (codes "o")) (ep ∷ [])
words_of line.Unplug = codes "x"

abbrev pub line_of : ModelLine → List ℕ
line_of said = words_of said ++ LF ∷ []

abbrev pub tape_text : List ModelLine → List ℕ
tape_text lines = flat_map line_of lines
