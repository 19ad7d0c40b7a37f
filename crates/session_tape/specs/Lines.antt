-- The lines of a session's tape. What begins with `#` is a comment.
use Rattle.std.specs.Prelude.{ℕ, List, [], ◌∷◌, ◌++◌, codes}
use Rattle.std.specs.Fmt.{decimal}
use Rattle.hex.specs.Hex.{encode_lower}
use Rattle.usb_base.specs.declared.side.Side.{Side}
use Rattle.usb_base.specs.declared.side.Side.TheVariants.{Client, Host}
use Rattle.usb_base.specs.declared.refusal.Refusal.{Refusal}
use Rattle.usb_base.specs.Refusal.{refusal_line}

-- `c` and `h`
abbrev pub letter_of : Side → ℕ
letter_of Client = 99
letter_of Host = 104

-- a letter, a space, and bytes in lower-case hexadecimal
abbrev pub lettered : ℕ → List ℕ → List ℕ
lettered letter bytes = letter ∷ 32 ∷ encode_lower bytes

-- a side's letter with a piece of its stream, and LF
abbrev pub piece_line : Side → List ℕ → List ℕ
piece_line side bytes = lettered (letter_of side) bytes ++ 10 ∷ []

-- a side's letter, `.` and LF
abbrev pub end_line : Side → List ℕ
end_line side = letter_of side ∷ 46 ∷ 10 ∷ []

-- the line of a refusal
abbrev pub refusal_comment : Refusal → List ℕ
refusal_comment refusal = codes "# " ++ refusal_line refusal

-- the words with which such a tape is to be replayed
abbrev pub first_comment : ℕ → List ℕ
first_comment first_id = codes "# --first-id " ++ decimal first_id ++ 10 ∷ []
