-- A URB packet that was read may be written.
use Rattle.std.proofs.Common.{Bool}
use Rattle.usbip_urb.specs.declared.packet.UrbPacket.{UrbPacket}
use Rattle.usbip_urb.specs.declared.packet.UrbPacket.TheVariants as urb
use Rattle.usbip_urb.specs.Ranges.{IsRequest, IsAnswer, IsWritable}

pub request_writable : (p : UrbPacket) → IsRequest p → IsWritable p
request_writable (urb.Submit s) fits = fits.0
request_writable (urb.Unlink u) fits = fits.0
request_writable (urb.RetSubmit r) fits = absurd fits
request_writable (urb.RetUnlink r) fits = absurd fits

pub answer_writable : (is_in : Bool) (p : UrbPacket) → IsAnswer is_in p → IsWritable p
answer_writable is_in (urb.RetSubmit r) fits = (is_in, fits.0)
answer_writable is_in (urb.RetUnlink r) fits = tt
answer_writable is_in (urb.Submit s) fits = absurd fits
answer_writable is_in (urb.Unlink u) fits = absurd fits
