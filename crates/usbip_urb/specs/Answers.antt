-- The answers of a server ("usbip_protocol", USBIP_RET_SUBMIT and USBIP_RET_UNLINK).
use Rattle.std.specs.Prelude.{ℕ, ◌==◌, Bool, if◌then◌else◌, List, length, nat_lt, Option, Some, None}
use Rattle.std.specs.Int.{w32}
use Rattle.usb_base.specs.Number.{be_at}
use Rattle.usb_base.specs.declared.reason.Reason.{Reason}
use Rattle.packet_stream.specs.Format.{Format}
use Rattle.usbip_urb.specs.declared.packet.UrbPacket.{UrbPacket}
use Rattle.usbip_urb.specs.declared.packet.UrbPacket.TheVariants as urb
use Rattle.usbip_urb.specs.declared.code.TheConstants.{HEAD_SIZE, USBIP_RET_SUBMIT}
use Rattle.usbip_urb.specs.Sizes.{whole_size}
use Rattle.usbip_urb.specs.Fields.{ret_submit_at, ret_unlink_at}
use Rattle.usbip_urb.specs.Spelling.{spelling}
use Rattle.usbip_urb.specs.Ranges.{IsAnswer}
use Rattle.usbip_urb.specs.Checks.{answer_checks}

abbrev pub answer_size_by : Bool → ℕ → List ℕ → ℕ
answer_size_by is_in command b = if command == USBIP_RET_SUBMIT then whole_size is_in b else HEAD_SIZE

abbrev pub answer_by : Bool → ℕ → List ℕ → UrbPacket
answer_by is_in command b = if command == USBIP_RET_SUBMIT then urb.RetSubmit (ret_submit_at is_in b) else urb.RetUnlink (ret_unlink_at b)

-- those of an IN request where is_in, and else those of an OUT request
abbrev pub answers : Bool → Format UrbPacket Reason
answers is_in = record {
  checks = answer_checks;
  size = λ b. answer_size_by is_in (be_at w32 0 b) b;
  packet = λ b. answer_by is_in (be_at w32 0 b) b;
  spelling = spelling;
  Fits = IsAnswer is_in;
}

-- the number of the request that is answered, once its bytes are there
abbrev pub seqnum_of : List ℕ → Option ℕ
seqnum_of b = if nat_lt (length b) 8 then None else Some (be_at w32 4 b)
