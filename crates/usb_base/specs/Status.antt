-- How a transfer ended: usbredir's bytes, and the error numbers of Linux that USB/IP has.
use Rattle.std.specs.Prelude.{ℕ, Bool, true, false, [], ◌∷◌, get_or, ℤ, pos}
use Rattle.usb_base.specs.declared.status.UsbStatus.{UsbStatus}
use Rattle.usb_base.specs.declared.status.UsbStatus.TheVariants.{Success, Cancelled, Inval, IoError, Stall, Timeout, Babble, Other}
use Rattle.usb_base.specs.declared.errno.TheConstants.{EINVAL, EPIPE, EPROTO, EOVERFLOW, ECONNRESET, ETIMEDOUT}

-- the statuses that have a name, by their bytes from 0 on
abbrev pub status_of : ℕ → UsbStatus
status_of byte = get_or (Success ∷ Cancelled ∷ Inval ∷ IoError ∷ Stall ∷ Timeout ∷ Babble ∷ []) byte (Other byte)

abbrev pub status_byte : UsbStatus → ℕ
status_byte Success = 0
status_byte Cancelled = 1
status_byte Inval = 2
status_byte IoError = 3
status_byte Stall = 4
status_byte Timeout = 5
status_byte Babble = 6
status_byte (Other byte) = byte

abbrev pub is_success : UsbStatus → Bool
is_success Success = true
is_success _ = false

-- negatives of Linux error numbers
abbrev pub errno_of : UsbStatus → ℤ
errno_of Success = pos 0
errno_of Cancelled = ECONNRESET
errno_of Inval = EINVAL
errno_of Stall = EPIPE
errno_of Timeout = ETIMEDOUT
errno_of Babble = EOVERFLOW
errno_of _ = EPROTO
