-- The numbers of tapes and words: 1 to 4294967295, in decimal.
use Rattle.std.specs.Prelude.{ℕ, ◌<◌, ◌^◌, nat_le, nat_lt, ◌&&◌, Bool, if◌then◌else◌, List, Option, Some, None, slice_index}
use Rattle.std.specs.Str.{bytes_eq}
use Rattle.std.specs.Str.Parse.{digits_value}
use Rattle.packet_show.specs.Line.{decimal}

pub record IsNumber (n : ℕ) : Type 0 where
  pub positive : 0 < n
  pub fits : n < 2 ^ 32

-- the text is what is written of this number
abbrev pub is_written : List ℕ → ℕ → Bool
is_written text n = nat_lt 0 n && nat_lt n (2 ^ 32) && bytes_eq (decimal n) text

unfoldable pub number_of : List ℕ → Option ℕ
number_of text = let n = digits_value 10 text in if is_written text n then Some n else None

-- the first byte is a digit from 1 to 9
abbrev pub begins_a_number : List ℕ → Bool
begins_a_number text = nat_le 49 (slice_index text 0) && nat_le (slice_index text 0) 57
