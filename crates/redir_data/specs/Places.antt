-- The fields of a packet that moves data, at their places behind its header, and its data.
use Rattle.std.specs.Prelude.{ℕ, ◌+◌, ◌-◌, ◌*◌, Bool, if◌then◌else◌, List, []}
use Rattle.std.specs.Int.{w16, w32}
use Rattle.std.specs.Option.{option_map_or}
use Rattle.usb_base.specs.Number.{le_at, byte_at, part}
use Rattle.redir_wire.specs.declared.packet.Caps.{Caps}
use Rattle.redir_wire.specs.declared.packet.Header.{Header}
use Rattle.redir_wire.specs.declared.kind.DataKind.{DataKind}
use Rattle.redir_wire.specs.declared.kind.DataKind.TheVariants as kinds
use Rattle.redir_wire.specs.declared.packet.TheConstants.Caps.{WIDE_BULK_LENGTH}
use Rattle.redir_wire.specs.Capability.{has}
use Rattle.redir_wire.specs.Table.{data_row, data_numbered, fixed_length}
use Rattle.redir_data.specs.declared.packet.RedirData.{RedirData}
use Rattle.redir_data.specs.declared.packet.RedirData.TheVariants as moving

-- how many bytes the fixed fields of this type have
abbrev pub fixed : Caps → DataKind → ℕ
fixed caps kind = fixed_length caps (data_row kind)

-- the place of the length field, of its lower 16 bits
abbrev pub length_place : DataKind → ℕ
length_place kinds.Control = 8
length_place _ = 2

abbrev pub bulk_length : Bool → List ℕ → ℕ
bulk_length wide b = if wide then le_at w16 2 b + 65536 * le_at w16 8 b else le_at w16 2 b

-- the length that a packet tells
abbrev pub told_length : Caps → DataKind → List ℕ → ℕ
told_length caps kinds.Bulk b = bulk_length (has caps WIDE_BULK_LENGTH) b
told_length caps k b = le_at w16 (length_place k) b

-- the fields with this length, and these data
abbrev pub fields_with : DataKind → List ℕ → ℕ → List ℕ → RedirData
fields_with kinds.Control b told body = moving.Control (byte_at 0 b) (byte_at 1 b) (byte_at 2 b) (byte_at 3 b) (le_at w16 4 b) (le_at w16 6 b) told body
fields_with kinds.Bulk b told body = moving.Bulk (byte_at 0 b) (byte_at 1 b) told (le_at w32 4 b) body
fields_with kinds.Iso b told body = moving.Iso (byte_at 0 b) (byte_at 1 b) told body
fields_with kinds.Interrupt b told body = moving.Interrupt (byte_at 0 b) (byte_at 1 b) told body

-- all that is left of so many bytes is data
abbrev pub fields_at : Caps → ℕ → DataKind → List ℕ → RedirData
fields_at caps size kind b = fields_with kind b (told_length caps kind b) (part (fixed caps kind) (size - fixed caps kind) b)

-- no header that passes its checks has another number than a type's
abbrev pub data_at : Caps → Header → List ℕ → RedirData
data_at caps h b = option_map_or (λ k. fields_at caps h.length k b) (data_numbered h.kind) (moving.Iso 0 0 0 [])
