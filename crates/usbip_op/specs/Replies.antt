-- The replies of a server before a device is imported ("usbip_protocol", OP_REP_DEVLIST and OP_REP_IMPORT).
use Rattle.std.specs.Prelude.{ℕ, ◌+◌, ◌==◌, ◌&&◌, not, nat_le, nat_lt, if◌then◌else◌, Bool, List, [], ◌∷◌, length, drop, Some, None}
use Rattle.std.specs.Int.{w16, w32}
use Rattle.usb_base.specs.Number.{be_at}
use Rattle.packet_stream.specs.Format.{Check, Format}
use Rattle.usb_base.specs.declared.reason.Reason.{Reason}
use Rattle.usb_base.specs.declared.reason.Reason.TheVariants.{Count}
use Rattle.usbip_op.specs.declared.code.TheConstants.{DEVICE_SIZE, HEADER_SIZE, LIST_HEADER_SIZE, MAX_DEVICES, OP_REP_DEVLIST, OP_REP_IMPORT}
use Rattle.usbip_op.specs.declared.packet.OpPacket.{OpPacket}
use Rattle.usbip_op.specs.declared.packet.OpPacket.TheVariants.{RepDevlist, RepImport}
use Rattle.usbip_op.specs.Rows.{rows_size, rows_at}
use Rattle.usbip_op.specs.Devices.{device_at, listed_form}
use Rattle.usbip_op.specs.declared.packet.OpWay.TheVariants.{Reply}
use Rattle.usbip_op.specs.Spelling.{spelling}
use Rattle.usbip_op.specs.Ranges.{IsPacket}
use Rattle.usbip_op.specs.Requests.{version_check, code_check}

-- a list reply with status 0 tells a count, once its head is there
abbrev pub has_count : List ℕ → Bool
has_count b = nat_le HEADER_SIZE (length b) && ((be_at w16 2 b == OP_REP_DEVLIST) && (be_at w32 4 b == 0))

-- which is at most 1,024
abbrev pub count_check : Check Reason
count_check = record { place = 8; needed = 12; tried = has_count; passes = λ b. nat_le (be_at w32 8 b) MAX_DEVICES; reason = Count }

abbrev pub reply_checks : List (Check Reason)
reply_checks = version_check ∷ code_check OP_REP_DEVLIST OP_REP_IMPORT ∷ count_check ∷ []

-- with a status other than 0 a reply ends after its head
abbrev pub reply_size_by : ℕ → ℕ → List ℕ → ℕ
reply_size_by code status b =
    if not (status == 0) then HEADER_SIZE
    else if code == OP_REP_DEVLIST then LIST_HEADER_SIZE + rows_size listed_form (be_at w32 8 b) (drop LIST_HEADER_SIZE b)
    else HEADER_SIZE + DEVICE_SIZE

-- before its head is there the least that a reply may have
abbrev pub reply_size : List ℕ → ℕ
reply_size b = if nat_lt (length b) HEADER_SIZE then HEADER_SIZE else reply_size_by (be_at w16 2 b) (be_at w32 4 b) b

abbrev pub list_reply_by : ℕ → List ℕ → OpPacket
list_reply_by status b = RepDevlist status (if status == 0 then rows_at listed_form (be_at w32 8 b) (drop LIST_HEADER_SIZE b) else [])

abbrev pub import_reply_by : ℕ → List ℕ → OpPacket
import_reply_by status b = RepImport status (if status == 0 then Some (device_at (drop HEADER_SIZE b)) else None)

abbrev pub reply_by : ℕ → ℕ → List ℕ → OpPacket
reply_by code status b = if code == OP_REP_DEVLIST then list_reply_by status b else import_reply_by status b

abbrev pub replies : Format OpPacket Reason
replies = record {
  checks = reply_checks;
  size = reply_size;
  packet = λ b. reply_by (be_at w16 2 b) (be_at w32 4 b) b;
  spelling = spelling;
  Fits = IsPacket Reply;
}
