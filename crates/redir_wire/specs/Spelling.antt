-- The fields of a packet that moves no data, in wire order ("Control packets").
use Rattle.std.specs.Prelude.{ℕ, ◌+◌, ◌*◌, ◌==◌, Bool, false, if◌then◌else◌, List, [], ◌∷◌, length}
use Rattle.redir_wire.specs.declared.packet.Caps.{Caps}
use Rattle.redir_wire.specs.declared.packet.Header.{Header}
use Rattle.redir_wire.specs.declared.packet.RedirControl.{RedirControl}
use Rattle.redir_wire.specs.declared.packet.RedirControl.TheVariants as controls
use Rattle.redir_wire.specs.declared.kind.TheConstants.{HELLO}
use Rattle.redir_wire.specs.declared.kind.PlainKind.{PlainKind}
use Rattle.redir_wire.specs.declared.kind.PlainKind.TheVariants as plain
use Rattle.redir_wire.specs.Table.{plain_row, has_more, fixed_length}
use Rattle.redir_wire.specs.Field.{Field, Bytes, Shorts, Longs, ByteTable, ShortTable, wire_bytes}

-- its type, and what it has behind its header; `more` says that the fields are there that go with a capability
abbrev pub form_of : Bool → RedirControl → PlainKind × List Field
form_of more (controls.Hello h) = (plain.Hello, ByteTable h.version ∷ Longs h.words ∷ [])
form_of more (controls.Connect c) = (plain.Connect, Bytes (c.speed ∷ c.class ∷ c.subclass ∷ c.protocol ∷ []) ∷ Shorts (c.vendor ∷ c.product ∷ []) ∷ (if more then Shorts (c.version ∷ []) ∷ [] else []))
form_of more controls.Disconnect = (plain.Disconnect, [])
form_of more controls.Reset = (plain.Reset, [])
form_of more (controls.InterfaceInfo i) = (plain.InterfaceInfo, Longs (i.count ∷ []) ∷ ByteTable i.interface ∷ ByteTable i.class ∷ ByteTable i.subclass ∷ ByteTable i.protocol ∷ [])
form_of more (controls.EpInfo e) = (plain.EpInfo, ByteTable e.kinds ∷ ByteTable e.interval ∷ ByteTable e.interface ∷ ShortTable (if more then e.max_packet else []) ∷ [])
form_of more (controls.SetConfiguration configuration) = (plain.SetConfiguration, Bytes (configuration ∷ []) ∷ [])
form_of more controls.GetConfiguration = (plain.GetConfiguration, [])
form_of more (controls.ConfigurationStatus status configuration) = (plain.ConfigurationStatus, Bytes (status ∷ configuration ∷ []) ∷ [])
form_of more (controls.SetAlt interface alt) = (plain.SetAlt, Bytes (interface ∷ alt ∷ []) ∷ [])
form_of more (controls.GetAlt interface) = (plain.GetAlt, Bytes (interface ∷ []) ∷ [])
form_of more (controls.AltStatus status interface alt) = (plain.AltStatus, Bytes (status ∷ interface ∷ alt ∷ []) ∷ [])
form_of more (controls.StartIso endpoint pkts_per_urb no_urbs) = (plain.StartIso, Bytes (endpoint ∷ pkts_per_urb ∷ no_urbs ∷ []) ∷ [])
form_of more (controls.StopIso endpoint) = (plain.StopIso, Bytes (endpoint ∷ []) ∷ [])
form_of more (controls.IsoStatus status endpoint) = (plain.IsoStatus, Bytes (status ∷ endpoint ∷ []) ∷ [])
form_of more (controls.StartInterrupt endpoint) = (plain.StartInterrupt, Bytes (endpoint ∷ []) ∷ [])
form_of more (controls.StopInterrupt endpoint) = (plain.StopInterrupt, Bytes (endpoint ∷ []) ∷ [])
form_of more (controls.InterruptStatus status endpoint) = (plain.InterruptStatus, Bytes (status ∷ endpoint ∷ []) ∷ [])
form_of more controls.Cancel = (plain.Cancel, [])
form_of more controls.DisconnectAck = (plain.DisconnectAck, [])

abbrev pub kind_of : RedirControl → PlainKind
kind_of p = (form_of false p).0

abbrev pub fields_of : Bool → RedirControl → List Field
fields_of more p = (form_of more p).1

-- the bytes behind its header with these capabilities
abbrev pub fields : Caps → RedirControl → List ℕ
fields caps p = wire_bytes (fields_of (has_more caps (plain_row (kind_of p))) p)

abbrev pub number_of : RedirControl → ℕ
number_of p = (plain_row (kind_of p)).number

-- how many bytes a hello has behind its text
abbrev pub words_length : RedirControl → ℕ
words_length (controls.Hello h) = length h.words * 4
words_length _ = 0

-- how many bytes follow the header
abbrev pub length_of : Caps → RedirControl → ℕ
length_of caps p = fixed_length caps (plain_row (kind_of p)) + words_length p

-- the packet's header with this id
abbrev pub header_of : ℕ → Caps → RedirControl → Header
header_of id caps p = record { kind = number_of p; length = length_of caps p; id = id }

-- a hello is the first packet of its stream, and no other is
abbrev pub is_hello : RedirControl → Bool
is_hello p = number_of p == HELLO
