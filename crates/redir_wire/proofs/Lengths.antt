-- How many bytes a packet's fields have.
use Rattle.std.proofs.Common.{◌≡◌, ℕ, ◌+◌, ◌*◌, ◌%◌, ◌/◌, Bool, true, false, List, [], ◌∷◌, length, arith, refl, cond, ◌∙◌}
use Rattle.std.specs.Int.{w16, w32}
use Rattle.std.proofs.lemmas.List.{length-append}
use Rattle.usb_base.proofs.Numbers.{length-le}
use Rattle.redir_wire.specs.declared.packet.Caps.{Caps}
use Rattle.redir_wire.specs.declared.packet.Connect.{Connect}
use Rattle.redir_wire.specs.declared.packet.InterfaceInfo.{InterfaceInfo}
use Rattle.redir_wire.specs.declared.packet.EpInfo.{EpInfo}
use Rattle.redir_wire.specs.declared.packet.RedirControl.{RedirControl}
use Rattle.redir_wire.specs.declared.packet.RedirControl.TheVariants as controls
use Rattle.redir_wire.specs.declared.packet.TheConstants.Caps.{CONNECT_VERSION, MAX_PACKET_SIZE}
use Rattle.redir_wire.specs.Capability.{has}
use Rattle.redir_wire.specs.Field.{Field, Bytes, Shorts, Longs, ByteTable, ShortTable, Lower, Upper, field_bytes, wire_bytes}
use Rattle.redir_wire.specs.Table.{plain_row, has_more}
use Rattle.redir_wire.specs.Spelling.{kind_of, length_of, fields_of, fields}
use Rattle.redir_wire.specs.Ranges.{Ranges}
use Rattle.redir_wire.proofs.Words.{length-numbers}

-- ---- of any fields

abbrev pub field_size : Field → ℕ
field_size (Bytes ns) = length ns
field_size (Shorts ns) = length ns * 2
field_size (Longs ns) = length ns * 4
field_size (ByteTable ns) = length ns
field_size (ShortTable ns) = length ns * 2
field_size (Lower n) = 2
field_size (Upper n) = 2

abbrev pub size_of : List Field → ℕ
size_of [] = 0
size_of (f ∷ fs) = field_size f + size_of fs

length_field : (f : Field) → length (field_bytes f) ≡ field_size f
length_field (Bytes ns) = refl
length_field (Shorts ns) = length-numbers w16 ns
length_field (Longs ns) = length-numbers w32 ns
length_field (ByteTable ns) = refl
length_field (ShortTable ns) = length-numbers w16 ns
length_field (Lower n) = length-le w16 (n % 65536)
length_field (Upper n) = length-le w16 (n / 65536)

pub length_wire : (fs : List Field) → length (wire_bytes fs) ≡ size_of fs
length_wire [] = refl
length_wire (f ∷ fs) = omega (arith, length-append (field_bytes f) (wire_bytes fs), length_field f, length_wire fs)

-- ---- of a packet

abbrev pub connect_fields : Bool → Connect → List Field
connect_fields more c = fields_of more (controls.Connect c)

abbrev pub interface_fields : InterfaceInfo → List Field
interface_fields i = fields_of false (controls.InterfaceInfo i)

abbrev pub endpoint_fields : Bool → EpInfo → List Field
endpoint_fields more e = fields_of more (controls.EpInfo e)

size_connect : (sent : Bool) (c : Connect) → size_of (connect_fields sent c) ≡ 8 + cond sent 2 0
size_connect true c = refl
size_connect false c = refl

size_endpoints : (sent : Bool) (e : EpInfo) → Ranges (controls.EpInfo e) → size_of (endpoint_fields sent e) ≡ 96 + cond sent 64 0
size_endpoints true e r = omega (arith, r.1.1.1.0, r.0, r.1.0, r.1.1.0)
size_endpoints false e r = omega (arith, r.0, r.1.0, r.1.1.0)

-- as many as the table says, and a hello's words
size_fields : (caps : Caps) (p : RedirControl) → Ranges p → size_of (fields_of (has_more caps (plain_row (kind_of p))) p) ≡ length_of caps p
size_fields caps (controls.Hello h) r = omega (arith, r.0)
size_fields caps (controls.Connect c) r = size_connect (has caps CONNECT_VERSION) c ∙ omega arith
size_fields caps (controls.InterfaceInfo i) r = omega (arith, r.1.0, r.1.1.0, r.1.1.1.0, r.1.1.1.1.0)
size_fields caps (controls.EpInfo e) r = size_endpoints (has caps MAX_PACKET_SIZE) e r ∙ omega arith
size_fields caps p r = refl

pub length_fields : (caps : Caps) (p : RedirControl) → Ranges p → length (fields caps p) ≡ length_of caps p
length_fields caps p r = length_wire (fields_of (has_more caps (plain_row (kind_of p))) p) ∙ size_fields caps p r
