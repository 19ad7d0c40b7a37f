-- Numbers in bytes, the most or the least significant byte first, and what stands at a place of a list of bytes.
use Rattle.std.specs.Prelude.{ℕ, ◌<◌, ◌-◌, ◌^◌, min, List, take, drop, slice_index}
use Rattle.std.specs.Int.{Width, byte_len, to_be_bytes, to_le_bytes, from_be_bytes, from_le_bytes}

-- the bytes of a number of this width
unfoldable pub be : Width → ℕ → List ℕ
be w n = to_be_bytes w n

unfoldable pub le : Width → ℕ → List ℕ
le w n = to_le_bytes w n

-- the n bytes at a place
abbrev pub part : ℕ → ℕ → List ℕ → List ℕ
part place n bytes = take n (drop place bytes)

-- the number at a place
unfoldable pub be_at : Width → ℕ → List ℕ → ℕ
be_at w place bytes = from_be_bytes w (part place (byte_len w) bytes)

unfoldable pub le_at : Width → ℕ → List ℕ → ℕ
le_at w place bytes = from_le_bytes w (part place (byte_len w) bytes)

-- the byte at a place
abbrev pub byte_at : ℕ → List ℕ → ℕ
byte_at place bytes = slice_index bytes place

-- a list of bytes is a list of numbers below 256
abbrev pub AreBytes : List ℕ → Type 0
AreBytes bytes = (i : ℕ) → slice_index bytes i < 256

-- a number past the greatest of 64 bits is that number
abbrev pub capped : ℕ → ℕ
capped n = min n (2 ^ 64 - 1)
