-- Which fields a packet that moves no data may have.
use Rattle.std.specs.Prelude.{◌≡◌, ◌≤◌, Bool, true, false, length, replicate}
use Rattle.std.specs.Int.{w32}
use Rattle.usb_base.specs.declared.endpoint.TheConstants.{ENDPOINTS}
use Rattle.redir_wire.specs.declared.packet.Caps.{Caps}
use Rattle.redir_wire.specs.declared.packet.RedirControl.{RedirControl}
use Rattle.redir_wire.specs.declared.packet.RedirControl.TheVariants as controls
use Rattle.redir_wire.specs.declared.packet.TheConstants.{MAX_HELLO_WORDS, MAX_INTERFACES}
use Rattle.redir_wire.specs.declared.packet.TheConstants.Caps.{CONNECT_VERSION, MAX_PACKET_SIZE}
use Rattle.redir_wire.specs.Capability.{has}
use Rattle.redir_wire.specs.Words.{AreNumbers}
use Rattle.redir_wire.specs.Field.{AreInRange}
use Rattle.redir_wire.specs.Spelling.{fields_of}

-- ---- what a sender keeps to, beside the ranges that the types of the code have

-- a field that isn't sent is 0
abbrev pub IsSent : {A : Type 0} → Bool → A → A → Type 0
IsSent true zeros field = Unit {0}
IsSent false zeros field = field ≡ zeros

abbrev pub IsWritable : Caps → RedirControl → Type 0
IsWritable caps (controls.Hello h) = length h.words ≤ MAX_HELLO_WORDS
IsWritable caps (controls.Connect c) = IsSent (has caps CONNECT_VERSION) 0 c.version
IsWritable caps (controls.InterfaceInfo i) = i.count ≤ MAX_INTERFACES
IsWritable caps (controls.EpInfo e) = IsSent (has caps MAX_PACKET_SIZE) (replicate ENDPOINTS 0) e.max_packet
IsWritable caps _ = Unit {0}

-- ---- the ranges of the types

-- those of its fields, where all are there; the text of a hello has 64 bytes
abbrev pub Ranges : RedirControl → Type 0
Ranges (controls.Hello h) = (length h.version ≡ 64) × AreNumbers w32 h.words
Ranges p = AreInRange (fields_of true p)

pub record IsControl (caps : Caps) (p : RedirControl) : Type 0 where
  pub ranges : Ranges p
  pub writable : IsWritable caps p
