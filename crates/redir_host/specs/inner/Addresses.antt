-- The address of an endpoint that can be asked for, or else the byte of one that can't.
use Rattle.std.specs.Prelude.{ℕ, Result, Ok, Err}

abbrev pub byte_of : Result ℕ ℕ → ℕ
byte_of (Ok ep) = ep
byte_of (Err byte) = byte
