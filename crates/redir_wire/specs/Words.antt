-- Lists of numbers of one width, little-endian.
use Rattle.std.specs.Prelude.{ℕ, zero, suc, List, [], ◌∷◌, drop, flat_map, ◌<◌, ◌^◌}
use Rattle.std.specs.Int.{Width, byte_len}
use Rattle.usb_base.specs.Number.{le, le_at}

-- their bytes
abbrev pub numbers : Width → List ℕ → List ℕ
numbers w ns = flat_map (le w) ns

-- so many of them at the front of bytes
unfoldable pub numbers_of : Width → ℕ → List ℕ → List ℕ
numbers_of w zero bytes = []
numbers_of w (suc n) bytes = le_at w 0 bytes ∷ numbers_of w n (drop (byte_len w) bytes)

-- each has this width
abbrev pub AreNumbers : Width → List ℕ → Type 0
AreNumbers w [] = Unit {0}
AreNumbers w (n ∷ ns) = (n < 256 ^ byte_len w) × AreNumbers w ns
