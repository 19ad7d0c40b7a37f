-- The structures that some packets are, at their places behind a header.
use Rattle.std.specs.Prelude.{ℕ, Bool, if◌then◌else◌, List, drop, replicate}
use Rattle.std.specs.Int.{w16, w32}
use Rattle.usb_base.specs.Number.{le_at, byte_at, part}
use Rattle.usb_base.specs.declared.endpoint.TheConstants.{ENDPOINTS}
use Rattle.redir_wire.specs.declared.packet.Hello.{Hello}
use Rattle.redir_wire.specs.declared.packet.Connect.{Connect}
use Rattle.redir_wire.specs.declared.packet.InterfaceInfo.{InterfaceInfo}
use Rattle.redir_wire.specs.declared.packet.EpInfo.{EpInfo}
use Rattle.redir_wire.specs.declared.packet.TheConstants.{INTERFACE_CELLS}
use Rattle.redir_wire.specs.Words.{numbers_of}

abbrev pub hello_at : ℕ → List ℕ → Hello
hello_at count b = record { version = part 0 64 b; words = numbers_of w32 count (drop 64 b) }

-- a field that isn't sent is 0
abbrev pub connect_at : Bool → List ℕ → Connect
connect_at sent b = record {
  speed = byte_at 0 b;
  class = byte_at 1 b;
  subclass = byte_at 2 b;
  protocol = byte_at 3 b;
  vendor = le_at w16 4 b;
  product = le_at w16 6 b;
  version = if sent then le_at w16 8 b else 0;
}

abbrev pub interface_info_at : List ℕ → InterfaceInfo
interface_info_at b = record { count = le_at w32 0 b; interface = part 4 INTERFACE_CELLS b; class = part 36 INTERFACE_CELLS b; subclass = part 68 INTERFACE_CELLS b; protocol = part 100 INTERFACE_CELLS b }

abbrev pub ep_info_at : Bool → List ℕ → EpInfo
ep_info_at sent b = record { kinds = part 0 ENDPOINTS b; interval = part 32 ENDPOINTS b; interface = part 64 ENDPOINTS b; max_packet = if sent then numbers_of w16 ENDPOINTS (drop 96 b) else replicate ENDPOINTS 0 }
