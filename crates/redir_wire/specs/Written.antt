-- What is written, and that it is read again.
use Rattle.std.specs.Prelude.{◌≡◌, ℕ, true, List, ◌++◌, length}
use Rattle.packet_stream.specs.Format.{Whole, IsSound, reading}
use Rattle.redir_wire.specs.declared.packet.Caps.{Caps}
use Rattle.redir_wire.specs.declared.state.RedirState.{RedirState}
use Rattle.redir_wire.specs.declared.packet.Way.{Way}
use Rattle.redir_wire.specs.declared.packet.RedirControl.{RedirControl}
use Rattle.redir_wire.specs.Table.{plain_row, has_wanted, goes}
use Rattle.redir_wire.specs.State.{is_wide}
use Rattle.redir_wire.specs.Header.{head_bytes, IdFits}
use Rattle.redir_wire.specs.Spelling.{kind_of, fields, header_of, is_hello}
use Rattle.redir_wire.specs.Ranges.{Ranges, IsWritable}
use Rattle.redir_wire.specs.Plain.{plain}

-- what the packet's stream has told before it, where these capabilities are agreed
abbrev pub state_before : Caps → RedirControl → RedirState
state_before caps p = record { first = is_hello p; caps = caps }

-- the packet's form exists with these capabilities
pub record CanWrite (id : ℕ) (caps : Caps) (p : RedirControl) : Type 0 where
  pub agreed : has_wanted caps (plain_row (kind_of p)) ≡ true
  pub id_fits : IdFits (is_wide (state_before caps p)) id
  pub writable : IsWritable caps p

abbrev pub packet_bytes : ℕ → Caps → RedirControl → List ℕ
packet_bytes id caps p = head_bytes (is_wide (state_before caps p)) (header_of id caps p) ++ fields caps p

-- ---- laws

-- what is read is spelled so, and what is spelled so is read
abbrev pub PlainSound : Type 0
PlainSound = (s : RedirState) (way : Way) → IsSound (plain s way)

-- a packet that was written is read again, whatever comes after it
abbrev pub ReadAgain : Type 0
ReadAgain =
    (way : Way) (caps : Caps) (id : ℕ) (p : RedirControl) (more : List ℕ) → Ranges p → CanWrite id caps p → goes way (plain_row (kind_of p)) ≡ true →
    reading (plain (state_before caps p) way) (packet_bytes id caps p ++ more) ≡ Whole (header_of id caps p, p) (length (packet_bytes id caps p))
