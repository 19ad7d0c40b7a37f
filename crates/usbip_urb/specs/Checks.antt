-- The checks of URB packets, in the order in which they are made. Each is made once the bytes of its field are there.
use Rattle.std.specs.Prelude.{ℕ, ◌+◌, ◌==◌, ◌||◌, nat_le, Bool, List, [], ◌∷◌}
use Rattle.std.specs.Int.{w16, w32}
use Rattle.usb_base.specs.Number.{be_at}
use Rattle.usb_base.specs.declared.reason.Reason.{Reason}
use Rattle.usb_base.specs.declared.reason.Reason.TheVariants.{Version, Command, Device, Direction, Endpoint, TooLong, Packets}
use Rattle.packet_stream.specs.Format.{Check, check}
use Rattle.packet_stream.specs.Joined.{guarded}
use Rattle.usb_base.specs.declared.limits.TheConstants.{MAX_TRANSFER}
use Rattle.usbip_urb.specs.declared.code.TheConstants.{EXPORTED_DEVID, MAX_ENDPOINT, USBIP_CMD_SUBMIT, USBIP_CMD_UNLINK, USBIP_DIR_IN, USBIP_RET_SUBMIT, USBIP_RET_UNLINK}
use Rattle.usbip_urb.specs.Ranges.{is_packet_count}

-- a check of the number of 32 bits at a place
abbrev pub number_check : ℕ → Reason → (ℕ → Bool) → Check Reason
number_check place reason passes = check place (place + 4) reason (λ b. passes (be_at w32 place b))

-- the first two bytes of a URB packet are 0, and those of a list or import packet its version
abbrev pub version_check : Check Reason
version_check = check 0 2 Version (λ b. be_at w16 0 b == 0)

-- the command is one of two
abbrev pub command_check : ℕ → ℕ → Check Reason
command_check submit unlink = number_check 0 Command (λ command. (command == submit) || (command == unlink))

-- what is asked of a submit and of its answer alone: transfer_buffer_length of the one, actual_length of the other, and
-- number_of_packets
abbrev pub size_checks : List (Check Reason)
size_checks = number_check 24 TooLong (λ length. nat_le length MAX_TRANSFER) ∷ number_check 32 Packets is_packet_count ∷ []

abbrev pub has_command : ℕ → List ℕ → Bool
has_command command b = be_at w32 0 b == command

abbrev pub request_checks : List (Check Reason)
request_checks =
    version_check
    ∷ command_check USBIP_CMD_SUBMIT USBIP_CMD_UNLINK
    ∷ number_check 8 Device (λ devid. devid == EXPORTED_DEVID)
    ∷ number_check 12 Direction (λ direction. nat_le direction USBIP_DIR_IN)
    ∷ number_check 16 Endpoint (λ endpoint. nat_le endpoint MAX_ENDPOINT)
    ∷ guarded (has_command USBIP_CMD_SUBMIT) size_checks

abbrev pub answer_checks : List (Check Reason)
answer_checks = command_check USBIP_RET_SUBMIT USBIP_RET_UNLINK ∷ guarded (has_command USBIP_RET_SUBMIT) size_checks
