-- The requests of a client that has imported the device ("usbip_protocol", USBIP_CMD_SUBMIT and USBIP_CMD_UNLINK).
use Rattle.std.specs.Prelude.{if◌then◌else◌}
use Rattle.std.specs.Int.{w32}
use Rattle.usb_base.specs.Number.{be_at}
use Rattle.usb_base.specs.declared.reason.Reason.{Reason}
use Rattle.packet_stream.specs.Format.{Format}
use Rattle.usbip_urb.specs.declared.packet.UrbPacket.{UrbPacket}
use Rattle.usbip_urb.specs.declared.packet.UrbPacket.TheVariants as urb
use Rattle.usbip_urb.specs.declared.code.TheConstants.{HEAD_SIZE, USBIP_CMD_SUBMIT}
use Rattle.usbip_urb.specs.Sizes.{is_out, whole_size}
use Rattle.usbip_urb.specs.Fields.{submit_at, unlink_at}
use Rattle.usbip_urb.specs.Spelling.{spelling}
use Rattle.usbip_urb.specs.Ranges.{IsRequest}
use Rattle.usbip_urb.specs.Checks.{has_command, request_checks}

abbrev pub requests : Format UrbPacket Reason
requests = record {
  checks = request_checks;
  size = λ b. if has_command USBIP_CMD_SUBMIT b then whole_size (is_out (be_at w32 12 b)) b else HEAD_SIZE;
  packet = λ b. if has_command USBIP_CMD_SUBMIT b then urb.Submit (submit_at b) else urb.Unlink (unlink_at b);
  spelling = spelling;
  Fits = IsRequest;
}
