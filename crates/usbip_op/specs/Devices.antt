-- How devices and interfaces stand in bytes ("usbip_protocol", OP_REP_DEVLIST from byte 12 on).
use Rattle.std.specs.Prelude.{ℕ, ◌+◌, ◌-◌, ◌*◌, List, drop}
use Rattle.std.specs.Int.{w16, w32}
use Rattle.usb_base.specs.Number.{be_at, byte_at, part}
use Rattle.usbip_op.specs.declared.code.TheConstants.{BUS_ID_SIZE, DEVICE_SIZE, INTERFACE_SIZE, PATH_SIZE}
use Rattle.usbip_op.specs.declared.packet.DeviceRow.{DeviceRow}
use Rattle.usbip_op.specs.declared.packet.IfaceRow.{IfaceRow}
use Rattle.usbip_op.specs.declared.packet.Listed.{Listed}
use Rattle.usbip_op.specs.Rows.{RowForm, rows_at}
use Rattle.usbip_op.specs.Spelling.{interface_bytes, listed_bytes}
use Rattle.usbip_op.specs.Ranges.{IsListed}

-- its last byte says how many interfaces it has
abbrev pub interface_count : List ℕ → ℕ
interface_count b = byte_at (DEVICE_SIZE - 1) b

abbrev pub device_at : List ℕ → DeviceRow
device_at b = record {
  path = part 0 PATH_SIZE b;
  busid = part PATH_SIZE BUS_ID_SIZE b;
  busnum = be_at w32 288 b;
  devnum = be_at w32 292 b;
  speed = be_at w32 296 b;
  vendor = be_at w16 300 b;
  product = be_at w16 302 b;
  version = be_at w16 304 b;
  class = byte_at 306 b;
  subclass = byte_at 307 b;
  protocol = byte_at 308 b;
  configuration = byte_at 309 b;
  configurations = byte_at 310 b;
  interfaces = interface_count b;
}

abbrev pub interface_at : List ℕ → IfaceRow
interface_at b = record { class = byte_at 0 b; subclass = byte_at 1 b; protocol = byte_at 2 b; pad = byte_at 3 b }

abbrev pub interface_form : RowForm IfaceRow
interface_form = record { size = λ b. INTERFACE_SIZE; row = interface_at; spelling = interface_bytes; Fits = λ i. Unit {0} }

-- a device is followed by as many interfaces as it says
abbrev pub listed_at : List ℕ → Listed
listed_at b = record { device = device_at b; interfaces = rows_at interface_form (interface_count b) (drop DEVICE_SIZE b) }

abbrev pub listed_size : List ℕ → ℕ
listed_size b = DEVICE_SIZE + interface_count b * INTERFACE_SIZE

abbrev pub listed_form : RowForm Listed
listed_form = record { size = listed_size; row = listed_at; spelling = listed_bytes; Fits = IsListed }
