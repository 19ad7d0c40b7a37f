-- The requests of a client before an import ("usbip_protocol", OP_REQ_DEVLIST and OP_REQ_IMPORT).
use Rattle.std.specs.Prelude.{ℕ, ◌+◌, ◌==◌, ◌||◌, if◌then◌else◌, [], ◌∷◌}
use Rattle.std.specs.Int.{w16, w32}
use Rattle.usb_base.specs.Number.{be_at, part}
use Rattle.packet_stream.specs.Format.{Check, check, Format}
use Rattle.usb_base.specs.declared.reason.Reason.{Reason}
use Rattle.usb_base.specs.declared.reason.Reason.TheVariants.{Version, OpCode}
use Rattle.usbip_op.specs.declared.code.TheConstants.{BUS_ID_SIZE, HEADER_SIZE, OP_REQ_DEVLIST, OP_REQ_IMPORT, USBIP_VERSION}
use Rattle.usbip_op.specs.declared.packet.OpPacket.{OpPacket}
use Rattle.usbip_op.specs.declared.packet.OpPacket.TheVariants.{ReqDevlist, ReqImport}
use Rattle.usbip_op.specs.declared.packet.OpWay.TheVariants.{Request}
use Rattle.usbip_op.specs.Spelling.{spelling}
use Rattle.usbip_op.specs.Ranges.{IsPacket}

-- the first two bytes are version 1.1.1
abbrev pub version_check : Check Reason
version_check = check 0 2 Version (λ b. be_at w16 0 b == USBIP_VERSION)

-- the next two are one of two codes
abbrev pub code_check : ℕ → ℕ → Check Reason
code_check list import = check 2 4 OpCode (λ b. (be_at w16 2 b == list) || (be_at w16 2 b == import))

abbrev pub requests : Format OpPacket Reason
requests = record {
  checks = version_check ∷ code_check OP_REQ_DEVLIST OP_REQ_IMPORT ∷ [];
  size = λ b. if be_at w16 2 b == OP_REQ_DEVLIST then HEADER_SIZE else HEADER_SIZE + BUS_ID_SIZE;
  packet = λ b. if be_at w16 2 b == OP_REQ_DEVLIST then ReqDevlist (be_at w32 4 b) else ReqImport (be_at w32 4 b) (part HEADER_SIZE BUS_ID_SIZE b);
  spelling = spelling;
  Fits = IsPacket Request;
}
