-- The fields of a packet that moves data, in wire order, and its data behind them ("Data packets").
use Rattle.std.specs.Prelude.{ℕ, ◌+◌, Bool, not, if◌then◌else◌, List, [], ◌∷◌, ◌++◌, length}
use Rattle.usb_base.specs.Endpoint.{is_in_endpoint}
use Rattle.redir_wire.specs.declared.packet.Caps.{Caps}
use Rattle.redir_wire.specs.declared.packet.Way.{Way}
use Rattle.redir_wire.specs.declared.packet.Way.TheVariants.{ToGuest, ToHost}
use Rattle.redir_wire.specs.declared.packet.Header.{Header}
use Rattle.redir_wire.specs.declared.kind.DataKind.{DataKind}
use Rattle.redir_wire.specs.declared.kind.DataKind.TheVariants as kinds
use Rattle.redir_wire.specs.Table.{data_row, has_more, fixed_length}
use Rattle.redir_wire.specs.Field.{Field, Bytes, Shorts, Longs, Lower, Upper, wire_bytes}
use Rattle.redir_data.specs.declared.packet.RedirData.{RedirData}
use Rattle.redir_data.specs.declared.packet.RedirData.TheVariants as moving

-- what each packet has, of whatever type
pub record DataForm : Type 0 where
  pub kind : DataKind
  pub endpoint : ℕ
  -- how many bytes were asked for or moved
  pub told : ℕ
  pub body : List ℕ

abbrev pub form_of : RedirData → DataForm
form_of (moving.Control endpoint request kind status value index told body) = record { kind = kinds.Control; endpoint = endpoint; told = told; body = body }
form_of (moving.Bulk endpoint status told stream body) = record { kind = kinds.Bulk; endpoint = endpoint; told = told; body = body }
form_of (moving.Iso endpoint status told body) = record { kind = kinds.Iso; endpoint = endpoint; told = told; body = body }
form_of (moving.Interrupt endpoint status told body) = record { kind = kinds.Interrupt; endpoint = endpoint; told = told; body = body }

abbrev pub number_of : RedirData → ℕ
number_of d = (data_row (form_of d).kind).number

-- ---- where data stand

-- to the host in packets of OUT endpoints, to the guest in packets of IN endpoints
abbrev pub carries : Way → ℕ → Bool
carries ToHost endpoint = not (is_in_endpoint endpoint)
carries ToGuest endpoint = is_in_endpoint endpoint

-- how many bytes of data stand in a packet of this endpoint that tells this length
abbrev pub data_count : Way → ℕ → ℕ → ℕ
data_count way endpoint told = if carries way endpoint then told else 0

-- ---- the fields

-- with wide bulk lengths a bulk packet has the upper 16 bits of its length in a field of their own
abbrev pub bulk : Bool → ℕ → ℕ → ℕ → ℕ → List Field
bulk more endpoint status told stream = Bytes (endpoint ∷ status ∷ []) ∷ Lower told ∷ Longs (stream ∷ []) ∷ (if more then Upper told ∷ [] else [])

-- isochronous and interrupt packets
abbrev pub periodic : ℕ → ℕ → ℕ → List Field
periodic endpoint status told = Bytes (endpoint ∷ status ∷ []) ∷ Shorts (told ∷ []) ∷ []

-- what stands before its data; `more` says that the fields are there that go with a capability
abbrev pub fixed_of : Bool → RedirData → List Field
fixed_of more (moving.Control endpoint request kind status value index told body) = Bytes (endpoint ∷ request ∷ kind ∷ status ∷ []) ∷ Shorts (value ∷ index ∷ told ∷ []) ∷ []
fixed_of more (moving.Bulk endpoint status told stream body) = bulk more endpoint status told stream
fixed_of more (moving.Iso endpoint status told body) = periodic endpoint status told
fixed_of more (moving.Interrupt endpoint status told body) = periodic endpoint status told

-- ---- the bytes

abbrev pub fixed_fields : Caps → RedirData → List ℕ
fixed_fields caps d = wire_bytes (fixed_of (has_more caps (data_row (form_of d).kind)) d)

abbrev pub fields : Caps → RedirData → List ℕ
fields caps d = fixed_fields caps d ++ (form_of d).body

-- how many bytes follow the header
abbrev pub size_of : Caps → RedirData → ℕ
size_of caps d = fixed_length caps (data_row (form_of d).kind) + length (form_of d).body

-- the packet's header with this id
abbrev pub header_of : ℕ → Caps → RedirData → Header
header_of id caps d = record { kind = number_of d; length = size_of caps d; id = id }
