-- The endpoints of a device in a state, and the class of its interface.
use Rattle.std.specs.Prelude.{ℕ, ◌%◌, ◌==◌, List, [], ◌∷◌, ◌++◌, Option, Some, None, if◌then◌else◌, slice_set}
use Rattle.std.specs.Option.{option_or}
use Rattle.usb_base.specs.Endpoint.{endpoint_index, no_endpoints}
use Rattle.usb_base.specs.declared.endpoint.EpRow.{EpRow}
use Rattle.usb_base.specs.declared.endpoint.EpTable.{EpTable}
use Rattle.usb_base.specs.declared.endpoint.EpKind.TheVariants.{Control}
use Rattle.chapter9.specs.declared.part.Part.{Part}
use Rattle.chapter9.specs.declared.part.Part.TheVariants.{Interface, Endpoint}
use Rattle.chapter9.specs.declared.state.DevState.{DevState}
use Rattle.chapter9.specs.declared.table.InterfaceClass.{InterfaceClass}
use Rattle.chapter9.specs.State.{is_configured}

-- of both sides of endpoint 0, which every device has
abbrev pub control_row : EpRow
control_row = record { kind = Control; interval = 0; interface = 0; max_packet = 64 }

-- a row takes its endpoint's place, if its endpoint isn't endpoint 0
abbrev pub with_row : ℕ → EpRow → List EpRow → List EpRow
with_row ep row rows = if endpoint_index ep % 16 == 0 then rows else slice_set rows (endpoint_index ep) row

-- an endpoint's address, and its row
pub record EndpointRow : Type 0 where
  pub ep : ℕ
  pub row : EpRow

-- the number of the interface whose setting the endpoints after this descriptor belong to, where that setting is
-- the wanted one: an interface descriptor says, the others leave it
abbrev pub interface_after : ℕ → Option ℕ → Part → Option ℕ
interface_after alt before (Interface number other class subclass protocol) = if other == alt then Some number else None
interface_after alt before _ = before

-- the endpoint that this descriptor adds to that setting, if it is one
abbrev pub endpoint_rows : Part → Option ℕ → List EndpointRow
endpoint_rows (Endpoint ep kind max_packet interval) (Some number) = record { ep = ep; row = record { kind = kind; interval = interval; interface = number; max_packet = max_packet } } ∷ []
endpoint_rows _ _ = []

-- the endpoints that stand after an interface descriptor with this alternate setting, up to the next interface
-- descriptor
abbrev pub endpoints_after : ℕ → Option ℕ → List Part → List EndpointRow
endpoints_after alt before [] = []
endpoints_after alt before (part ∷ parts) = endpoint_rows part before ++ endpoints_after alt (interface_after alt before part) parts

-- each row at its place, so that of two with one address the later counts
abbrev pub with_rows : List EpRow → List EndpointRow → List EpRow
with_rows rows [] = rows
with_rows rows (p ∷ ps) = with_rows (with_row p.ep p.row rows) ps

-- endpoint 0 alone, whose bytes are 0 and 128
abbrev pub control_rows : List EpRow
control_rows = slice_set (slice_set no_endpoints.rows (endpoint_index 0) control_row) (endpoint_index 128) control_row

abbrev pub table_of : List Part → DevState → EpTable
table_of parts s = record { rows = if is_configured s then with_rows control_rows (endpoints_after s.alt None parts) else control_rows }

-- ---- the interface

abbrev pub class_at : ℕ → Part → Option InterfaceClass
class_at alt (Interface number other class subclass protocol) = if other == alt then Some (record { class = class; subclass = subclass; protocol = protocol }) else None
class_at alt _ = None

-- the class of the first interface descriptor with this alternate setting
abbrev pub class_of : ℕ → List Part → Option InterfaceClass
class_of alt [] = None
class_of alt (part ∷ parts) = option_or (class_at alt part) (class_of alt parts)
