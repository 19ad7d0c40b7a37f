-- A line that shows a packet: its place in its stream, its name and its fields, a space between two words, and LF.
use Rattle.std.specs.Prelude.{ℕ, List, [], ◌∷◌, ◌++◌, map, codes, slice_index}
use Rattle.std.specs.List.{join_with_byte}
pub use Rattle.std.specs.Fmt.{decimal}
use Rattle.hex.specs.Hex.{encode_lower}

abbrev pub LF : ℕ
LF = 10

abbrev pub SPACE : ℕ
SPACE = 32

-- the byte that this text of one letter has
abbrev pub letter : List ℕ → ℕ
letter text = slice_index text 0

-- numbers in decimal
abbrev pub numbers : List ℕ → List (List ℕ)
numbers ns = map decimal ns

-- bytes in lower-case hexadecimal, or `-` where there are none
abbrev pub hex_word : List ℕ → List ℕ
hex_word [] = codes "-"
hex_word (b ∷ bs) = encode_lower (b ∷ bs)

-- the place of the packet, and then the words that name and tell it
abbrev pub line : ℕ → List (List ℕ) → List ℕ
line place words = join_with_byte SPACE (decimal place ∷ words) ++ LF ∷ []

-- a word behind another
unfoldable pub spaced : List ℕ → List ℕ
spaced word = SPACE ∷ word

unfoldable pub spaced_words : List (List ℕ) → List ℕ
spaced_words [] = []
spaced_words (word ∷ words) = spaced word ++ spaced_words words
