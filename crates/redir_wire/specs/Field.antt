-- The kinds of fields that packets have, their bytes on the wire, numbers little-endian, and their ranges.
use Rattle.std.specs.Prelude.{◌≡◌, ℕ, ◌<◌, ◌/◌, ◌%◌, ◌^◌, List, [], ◌∷◌, length, flat_map}
use Rattle.std.specs.Int.{w16, w32}
use Rattle.usb_base.specs.Number.{le}
use Rattle.usb_base.specs.declared.endpoint.TheConstants.{ENDPOINTS}
use Rattle.redir_wire.specs.Words.{numbers, AreNumbers}

pub data Field : Type 0 where
  -- numbers of 8, of 16 or of 32 bits, one behind another
  Bytes : List ℕ → Field
  Shorts : List ℕ → Field
  Longs : List ℕ → Field
  -- a table, whose rows are numbers of 8 or of 16 bits
  ByteTable : List ℕ → Field
  ShortTable : List ℕ → Field
  -- a number of 32 bits in two fields: its lower 16 bits, and its upper ones
  Lower : ℕ → Field
  Upper : ℕ → Field

abbrev pub field_bytes : Field → List ℕ
field_bytes (Bytes ns) = ns
field_bytes (Shorts ns) = numbers w16 ns
field_bytes (Longs ns) = numbers w32 ns
field_bytes (ByteTable ns) = ns
field_bytes (ShortTable ns) = numbers w16 ns
field_bytes (Lower n) = le w16 (n % 65536)
field_bytes (Upper n) = le w16 (n / 65536)

-- the bytes of fields, one behind another
abbrev pub wire_bytes : List Field → List ℕ
wire_bytes fs = flat_map field_bytes fs

-- the ranges that the types of the code have, beside those of bytes: each number has its width, and a table as many
-- rows as a device has endpoints, and interfaces
abbrev pub AreInRange : List Field → Type 0
AreInRange [] = Unit {0}
AreInRange (Bytes ns ∷ fs) = AreInRange fs
AreInRange (Shorts ns ∷ fs) = AreNumbers w16 ns × AreInRange fs
AreInRange (Longs ns ∷ fs) = AreNumbers w32 ns × AreInRange fs
AreInRange (ByteTable ns ∷ fs) = (length ns ≡ ENDPOINTS) × AreInRange fs
AreInRange (ShortTable ns ∷ fs) = (length ns ≡ ENDPOINTS) × AreNumbers w16 ns × AreInRange fs
AreInRange (Lower n ∷ fs) = AreInRange fs
AreInRange (Upper n ∷ fs) = (n < 2 ^ 32) × AreInRange fs
