-- What is written, and that it is read again.
use Rattle.std.specs.Prelude.{◌≡◌, ℕ, ◌≤◌, true, List, ◌++◌, length, take}
use Rattle.usb_base.specs.Number.{AreBytes}
use Rattle.packet_stream.specs.Format.{Whole, IsSound, reading}
use Rattle.redir_wire.specs.declared.packet.Caps.{Caps}
use Rattle.redir_wire.specs.declared.state.RedirState.{RedirState}
use Rattle.redir_wire.specs.declared.packet.Way.{Way}
use Rattle.redir_wire.specs.declared.packet.Header.{Header}
use Rattle.redir_wire.specs.declared.packet.RedirControl.{RedirControl}
use Rattle.redir_wire.specs.declared.header.TheConstants.{MAX_LENGTH}
use Rattle.redir_wire.specs.Table.{plain_row, goes}
use Rattle.redir_wire.specs.State.{later, wide_ids}
use Rattle.redir_wire.specs.Header.{head_bytes, IdFits}
use Rattle.redir_wire.specs.Spelling as wire
use Rattle.redir_wire.specs.Ranges as wire_ranges
use Rattle.redir_wire.specs.Written as wire_written
use Rattle.redir_data.specs.declared.packet.RedirData.{RedirData}
use Rattle.redir_data.specs.declared.packet.RedirPacket.TheVariants.{Plain, Carrying}
use Rattle.redir_data.specs.Spelling.{fields, size_of, header_of}
use Rattle.redir_data.specs.Ranges.{Ranges, LengthFits, HasItsData}
use Rattle.redir_data.specs.Packets.{redir_packets}

-- the packet's form exists with these capabilities, and its data agree with its length this way
pub record CanWrite (id : ℕ) (way : Way) (caps : Caps) (d : RedirData) : Type 0 where
  pub id_fits : IdFits (wide_ids caps) id
  pub length_fits : LengthFits caps d
  pub data_there : HasItsData way d
  pub in_limit : size_of caps d ≤ MAX_LENGTH

abbrev pub packet_bytes : ℕ → Caps → RedirData → List ℕ
packet_bytes id caps d = head_bytes (wide_ids caps) (header_of id caps d) ++ fields caps d

-- ---- laws

-- what is read is spelled so, and what is spelled so is read
abbrev pub PacketsSound : Type 0
PacketsSound = (s : RedirState) (way : Way) → IsSound (redir_packets s way)

-- data that were written are read again, whatever comes after them
abbrev pub DataReadAgain : Type 0
DataReadAgain =
    (way : Way) (caps : Caps) (id : ℕ) (d : RedirData) (more : List ℕ) → Ranges d → CanWrite id way caps d →
    reading (redir_packets (later caps) way) (packet_bytes id caps d ++ more) ≡ Whole (header_of id caps d, Carrying d) (length (packet_bytes id caps d))

-- and so is a packet that moves none
abbrev pub ControlReadAgain : Type 0
ControlReadAgain =
    (way : Way) (caps : Caps) (id : ℕ) (p : RedirControl) (more : List ℕ) → wire_ranges.Ranges p → wire_written.CanWrite id caps p → goes way (plain_row (wire.kind_of p)) ≡ true →
    reading (redir_packets (wire_written.state_before caps p) way) (wire_written.packet_bytes id caps p ++ more) ≡ Whole (wire.header_of id caps p, Plain p) (length (wire_written.packet_bytes id caps p))

-- the bytes that were read as data are those that are written
abbrev pub DataWritesBack : Type 0
DataWritesBack =
    (s : RedirState) (way : Way) (bytes : List ℕ) (h : Header) (d : RedirData) (n : ℕ) → AreBytes bytes → reading (redir_packets s way) bytes ≡ Whole (h, Carrying d) n →
    CanWrite h.id way s.caps d × (take n bytes ≡ packet_bytes h.id s.caps d)

-- and so are those of a packet that moves none
abbrev pub ControlWritesBack : Type 0
ControlWritesBack =
    (s : RedirState) (way : Way) (bytes : List ℕ) (h : Header) (p : RedirControl) (n : ℕ) → AreBytes bytes → reading (redir_packets s way) bytes ≡ Whole (h, Plain p) n →
    wire_written.CanWrite h.id s.caps p × (take n bytes ≡ wire_written.packet_bytes h.id s.caps p)
