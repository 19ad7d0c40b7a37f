-- The table of packets: each type's number, the way that it goes, the capability that it wants, and its length ("Packet
-- types").
use Rattle.std.specs.Prelude.{ℕ, ◌+◌, ◌-◌, ◌*◌, ◌/◌, ◌%◌, Bool, true, false, ◌==◌, ◌&&◌, ◌||◌, nat_le, nat_lt, List, [], ◌∷◌, Option, Some, None, find, if◌then◌else◌, codes}
use Rattle.std.specs.Option.{option_map, option_map_or, option_or}
use Rattle.usb_base.specs.Number.{byte_at}
use Rattle.redir_wire.specs.declared.packet.Caps.{Caps}
use Rattle.redir_wire.specs.declared.packet.Way.{Way}
use Rattle.redir_wire.specs.declared.packet.Way.TheVariants.{ToGuest, ToHost}
use Rattle.redir_wire.specs.declared.packet.RedirControl.{RedirControl}
use Rattle.redir_wire.specs.declared.packet.RedirControl.TheVariants as controls
use Rattle.redir_wire.specs.declared.kind.PlainKind.{PlainKind}
use Rattle.redir_wire.specs.declared.kind.PlainKind.TheVariants as plain
use Rattle.redir_wire.specs.declared.kind.DataKind.{DataKind}
use Rattle.redir_wire.specs.declared.kind.DataKind.TheVariants as moving
use Rattle.redir_wire.specs.declared.kind.Kind.{Kind}
use Rattle.redir_wire.specs.declared.kind.Kind.TheVariants.{Plain, Carrying}
use Rattle.redir_wire.specs.declared.kind.More.{More}
use Rattle.redir_wire.specs.declared.kind.Tail.{Tail}
use Rattle.redir_wire.specs.declared.kind.Tail.TheVariants.{Nothing, Words, Data}
use Rattle.redir_wire.specs.declared.kind.TypeRow.{TypeRow}
use Rattle.redir_wire.specs.declared.packet.TheConstants.{MAX_HELLO_WORDS}
use Rattle.redir_wire.specs.declared.packet.TheConstants.Caps.{CONNECT_VERSION, DISCONNECT_ACK, MAX_PACKET_SIZE, WIDE_BULK_LENGTH}
use Rattle.redir_wire.specs.Capability.{has}
use Rattle.redir_wire.specs.Places.{hello_at, connect_at, interface_info_at, ep_info_at}

abbrev pub of_type : ℕ → Option Way → Option Caps → ℕ → Option More → Tail → TypeRow
of_type number way wanted fixed more tail = record { number = number; way = way; wanted = wanted; fixed = fixed; more = more; tail = tail }

-- so many bytes more with this capability
abbrev pub with : Caps → ℕ → Option More
with capability bytes = Some (record { capability = capability; bytes = bytes })

-- a type's name in capitals, what the protocol says of it, and the packet whose fields stand at their places behind a
-- header of this length; behind a hello's text are words
abbrev pub plain_type : PlainKind → List ℕ × TypeRow × (Caps → ℕ → List ℕ → RedirControl)
plain_type plain.Hello = (codes "HELLO", of_type 0 None None 64 None Words, λ caps length b. controls.Hello (hello_at ((length - 64) / 4) b))
plain_type plain.Connect = (codes "DEVICE_CONNECT", of_type 1 (Some ToGuest) None 8 (with CONNECT_VERSION 2) Nothing, λ caps length b. controls.Connect (connect_at (has caps CONNECT_VERSION) b))
plain_type plain.Disconnect = (codes "DEVICE_DISCONNECT", of_type 2 (Some ToGuest) None 0 None Nothing, λ caps length b. controls.Disconnect)
plain_type plain.Reset = (codes "RESET", of_type 3 (Some ToHost) None 0 None Nothing, λ caps length b. controls.Reset)
plain_type plain.InterfaceInfo = (codes "INTERFACE_INFO", of_type 4 (Some ToGuest) None 132 None Nothing, λ caps length b. controls.InterfaceInfo (interface_info_at b))
plain_type plain.EpInfo = (codes "EP_INFO", of_type 5 (Some ToGuest) None 96 (with MAX_PACKET_SIZE 64) Nothing, λ caps length b. controls.EpInfo (ep_info_at (has caps MAX_PACKET_SIZE) b))
plain_type plain.SetConfiguration = (codes "SET_CONFIGURATION", of_type 6 (Some ToHost) None 1 None Nothing, λ caps length b. controls.SetConfiguration (byte_at 0 b))
plain_type plain.GetConfiguration = (codes "GET_CONFIGURATION", of_type 7 (Some ToHost) None 0 None Nothing, λ caps length b. controls.GetConfiguration)
plain_type plain.ConfigurationStatus = (codes "CONFIGURATION_STATUS", of_type 8 (Some ToGuest) None 2 None Nothing, λ caps length b. controls.ConfigurationStatus (byte_at 0 b) (byte_at 1 b))
plain_type plain.SetAlt = (codes "SET_ALT_SETTING", of_type 9 (Some ToHost) None 2 None Nothing, λ caps length b. controls.SetAlt (byte_at 0 b) (byte_at 1 b))
plain_type plain.GetAlt = (codes "GET_ALT_SETTING", of_type 10 (Some ToHost) None 1 None Nothing, λ caps length b. controls.GetAlt (byte_at 0 b))
plain_type plain.AltStatus = (codes "ALT_SETTING_STATUS", of_type 11 (Some ToGuest) None 3 None Nothing, λ caps length b. controls.AltStatus (byte_at 0 b) (byte_at 1 b) (byte_at 2 b))
plain_type plain.StartIso = (codes "START_ISO_STREAM", of_type 12 (Some ToHost) None 3 None Nothing, λ caps length b. controls.StartIso (byte_at 0 b) (byte_at 1 b) (byte_at 2 b))
plain_type plain.StopIso = (codes "STOP_ISO_STREAM", of_type 13 (Some ToHost) None 1 None Nothing, λ caps length b. controls.StopIso (byte_at 0 b))
plain_type plain.IsoStatus = (codes "ISO_STREAM_STATUS", of_type 14 (Some ToGuest) None 2 None Nothing, λ caps length b. controls.IsoStatus (byte_at 0 b) (byte_at 1 b))
plain_type plain.StartInterrupt = (codes "START_INTERRUPT_RECEIVING", of_type 15 (Some ToHost) None 1 None Nothing, λ caps length b. controls.StartInterrupt (byte_at 0 b))
plain_type plain.StopInterrupt = (codes "STOP_INTERRUPT_RECEIVING", of_type 16 (Some ToHost) None 1 None Nothing, λ caps length b. controls.StopInterrupt (byte_at 0 b))
plain_type plain.InterruptStatus = (codes "INTERRUPT_RECEIVING_STATUS", of_type 17 (Some ToGuest) None 2 None Nothing, λ caps length b. controls.InterruptStatus (byte_at 0 b) (byte_at 1 b))
plain_type plain.Cancel = (codes "CANCEL_DATA_PACKET", of_type 21 (Some ToHost) None 0 None Nothing, λ caps length b. controls.Cancel)
plain_type plain.DisconnectAck = (codes "DEVICE_DISCONNECT_ACK", of_type 24 (Some ToHost) (Some DISCONNECT_ACK) 0 None Nothing, λ caps length b. controls.DisconnectAck)

-- the name and the row of one that moves data
abbrev pub data_type : DataKind → List ℕ × TypeRow
data_type moving.Control = (codes "CONTROL", of_type 100 None None 10 None Data)
data_type moving.Bulk = (codes "BULK", of_type 101 None None 8 (with WIDE_BULK_LENGTH 2) Data)
data_type moving.Iso = (codes "ISO", of_type 102 None None 4 None Data)
data_type moving.Interrupt = (codes "INTERRUPT", of_type 103 None None 4 None Data)

abbrev pub plain_row : PlainKind → TypeRow
plain_row k = (plain_type k).1

abbrev pub fields_at : Caps → ℕ → PlainKind → List ℕ → RedirControl
fields_at caps length k b = (plain_type k).2 caps length b

abbrev pub data_row : DataKind → TypeRow
data_row k = (data_type k).1

abbrev pub plain_name : PlainKind → List ℕ
plain_name k = (plain_type k).0

abbrev pub data_name : DataKind → List ℕ
data_name k = (data_type k).0

abbrev pub row_of : Kind → TypeRow
row_of (Plain k) = plain_row k
row_of (Carrying k) = data_row k

-- ---- the types by their numbers

abbrev pub plain_kinds : List PlainKind
plain_kinds =
    plain.Hello ∷ plain.Connect ∷ plain.Disconnect ∷ plain.Reset ∷ plain.InterfaceInfo ∷ plain.EpInfo ∷ plain.SetConfiguration ∷ plain.GetConfiguration
    ∷ plain.ConfigurationStatus ∷ plain.SetAlt ∷ plain.GetAlt ∷ plain.AltStatus ∷ plain.StartIso ∷ plain.StopIso ∷ plain.IsoStatus ∷ plain.StartInterrupt
    ∷ plain.StopInterrupt ∷ plain.InterruptStatus ∷ plain.Cancel ∷ plain.DisconnectAck ∷ []

abbrev pub data_kinds : List DataKind
data_kinds = moving.Control ∷ moving.Bulk ∷ moving.Iso ∷ moving.Interrupt ∷ []

unfoldable pub plain_numbered : ℕ → Option PlainKind
plain_numbered number = find (λ k. (plain_row k).number == number) plain_kinds

unfoldable pub data_numbered : ℕ → Option DataKind
data_numbered number = find (λ k. (data_row k).number == number) data_kinds

abbrev pub kind_numbered : ℕ → Option Kind
kind_numbered number = option_or (option_map Plain (plain_numbered number)) (option_map Carrying (data_numbered number))

-- the types of the protocol that the gateway never agrees to: bulk streams, filters, buffered bulk
abbrev pub is_left_out : ℕ → Bool
is_left_out number =
    (nat_le 18 number && nat_le number 20) || ((number == 22) || ((number == 23) || ((nat_le 25 number && nat_le number 27) || (number == 104))))

-- ---- what a row says

abbrev pub is_way : Way → Way → Bool
is_way ToGuest ToGuest = true
is_way ToHost ToHost = true
is_way _ _ = false

abbrev pub goes : Way → TypeRow → Bool
goes way r = option_map_or (is_way way) r.way true

abbrev pub has_wanted : Caps → TypeRow → Bool
has_wanted caps r = option_map_or (has caps) r.wanted true

-- whether the fields are there that go with a capability
abbrev pub has_more : Caps → TypeRow → Bool
has_more caps r = option_map_or (λ (m : More). has caps m.capability) r.more false

-- so many bytes are more than the fixed fields have without that capability
abbrev pub is_longer : TypeRow → ℕ → Bool
is_longer r length = nat_lt r.fixed length

-- how many bytes the fixed fields have
abbrev pub fixed_length : Caps → TypeRow → ℕ
fixed_length caps r = r.fixed + option_map_or (λ (m : More). if has caps m.capability then m.bytes else 0) r.more 0

-- behind a hello's text are no more words than it may have; any data are behind the fields of a data packet
abbrev pub is_tail : Tail → ℕ → ℕ → Bool
is_tail Nothing fixed length = length == fixed
is_tail Words fixed length = nat_le fixed length && (nat_le length (fixed + 4 * MAX_HELLO_WORDS) && ((length - fixed) % 4 == 0))
is_tail Data fixed length = nat_le fixed length

abbrev pub has_length : Caps → TypeRow → ℕ → Bool
has_length caps r length = is_tail r.tail (fixed_length caps r) length
