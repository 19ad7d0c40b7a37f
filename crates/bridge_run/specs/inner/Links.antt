-- What writing all of some bytes does to a link, and closing it.
use Rattle.std.specs.Prelude.{◌≡◌, ℕ, Bool, true, false, List, ◌++◌, Result, Ok, Err}
use Rattle.std.specs.Io.KnownBytes.{append_known}
use Rattle.usb_base.specs.declared.side.Side.{Side}
use Rattle.gate_outside.specs.Link.{Link}
use Rattle.gate_outside.specs.Doors.{faulted, closes}

abbrev pub wrote : List ℕ → Link → Link
wrote bytes link = record link { written = append_known link.written bytes }

abbrev pub wrote_if : Bool → List ℕ → Link → Link
wrote_if true bytes link = wrote bytes link
wrote_if false bytes link = link

-- a front of the bytes is written, and then a call fails
pub record WritesFront (up : Bool) (bytes : List ℕ) (old new : Link) : Type 0 where
  pub front : List ℕ
  pub back : List ℕ
  pub parts : bytes ≡ front ++ back
  pub link : new ≡ faulted (wrote front old)
  pub is_up : up ≡ true

abbrev pub WritesAll : {T E : Type 0} → Result T E → Bool → List ℕ → Link → Link → Type 0
WritesAll (Ok _) up bytes old new = new ≡ wrote_if up bytes old
WritesAll (Err _) up bytes old new = WritesFront up bytes old new

abbrev pub closed_if : Bool → Side → Link → Link
closed_if true side link = closes side link
closed_if false side link = link
