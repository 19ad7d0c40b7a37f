-- The words of a usbredir packet: the name of its type in capitals, its id, and its fields in wire order. A field that
-- goes with a capability is there where the header's length has room for it behind the fixed fields.
use Rattle.std.specs.Prelude.{ℕ, false, List, [], ◌∷◌, ◌++◌, flat_map}
use Rattle.std.specs.Int.{w16}
use Rattle.redir_wire.specs.declared.packet.Header.{Header}
use Rattle.redir_wire.specs.declared.packet.RedirControl.{RedirControl}
use Rattle.redir_wire.specs.Table.{plain_row, plain_name, data_name, is_longer}
use Rattle.redir_wire.specs.Words.{numbers as numbers_bytes}
use Rattle.redir_wire.specs.Field.{Field, Bytes, Shorts, Longs, ByteTable, ShortTable, Lower, Upper}
use Rattle.redir_wire.specs.Spelling as wire
use Rattle.redir_data.specs.declared.packet.RedirData.{RedirData}
use Rattle.redir_data.specs.declared.packet.RedirPacket.{RedirPacket}
use Rattle.redir_data.specs.declared.packet.RedirPacket.TheVariants.{Plain, Carrying}
use Rattle.redir_data.specs.Spelling.{form_of, fixed_of}
use Rattle.packet_show.specs.Line.{decimal, numbers, hex_word, line, spaced_words}

-- ---- fields

-- each number in decimal, a table as its bytes on the wire; a number in two fields is shown where its lower half stands
abbrev pub field_words : Field → List (List ℕ)
field_words (Bytes ns) = numbers ns
field_words (Shorts ns) = numbers ns
field_words (Longs ns) = numbers ns
field_words (ByteTable ns) = hex_word ns ∷ []
field_words (ShortTable ns) = hex_word (numbers_bytes w16 ns) ∷ []
field_words (Lower n) = decimal n ∷ []
field_words (Upper n) = []

abbrev pub words_of : List Field → List (List ℕ)
words_of fs = flat_map field_words fs

-- the words of one, with a space before each
unfoldable pub field_text : Field → List ℕ
field_text f = spaced_words (field_words f)

-- ---- packets

-- the fields of a packet that moves no data, with so many bytes behind its header
abbrev pub control_fields : ℕ → RedirControl → List (List ℕ)
control_fields size p = words_of (wire.fields_of (is_longer (plain_row (wire.kind_of p)) size) p)

-- those of one that moves data, and its data; the upper half of a bulk packet's length shows nothing
abbrev pub data_fields : RedirData → List (List ℕ)
data_fields d = words_of (fixed_of false d) ++ hex_word (form_of d).body ∷ []

abbrev pub redir_words : Header → RedirPacket → List (List ℕ)
redir_words head (Plain p) = plain_name (wire.kind_of p) ∷ decimal head.id ∷ control_fields head.length p
redir_words head (Carrying d) = data_name (form_of d).kind ∷ decimal head.id ∷ data_fields d

abbrev pub redir_line : ℕ → Header → RedirPacket → List ℕ
redir_line place head p = line place (redir_words head p)
