-- What a request is given, told beside the packets that keep its bytes.
use Rattle.std.specs.Prelude.{◌≡◌, ℕ, ◌≤◌, List, length, take, drop}
use Rattle.usb_base.specs.declared.transfer.Outcome.{Outcome}
use Rattle.usb_base.specs.declared.transfer.StreamPacket.{StreamPacket}
use Rattle.usbip_urb.specs.declared.packet.IsoDesc.{IsoDesc}
use Rattle.usbip_urb.specs.Errors.{errors_of}
use Rattle.stream_buffers.specs.declared.interrupt.Filling.{Filling}
use Rattle.stream_buffers.specs.declared.iso.IsoFilling.{IsoFilling}
use Rattle.stream_buffers.specs.Cuts.{Cut}
use Rattle.stream_buffers.specs.Interrupt.{bodies}
use Rattle.stream_buffers.specs.Iso.{pieces, all_filled}

-- ---- of an interrupt request

-- what fits of the bodies of the packets that fill it
abbrev pub filling_body : List StreamPacket → Filling → List ℕ
filling_body packets f = take f.done (bodies (take f.count packets))

abbrev pub cut_by : List StreamPacket → Filling → Cut Outcome
cut_by packets f = record {
  gives = record { status = f.status; done = f.done; body = filling_body packets f };
  leaves = drop f.count packets;
}

-- ---- of an isochronous one

-- there is a packet for each descriptor, and they give so many bytes, and so many errors
pub record FillsIso (descs : List IsoDesc) (packets : List StreamPacket) (f : IsoFilling) : Type 0 where
  pub enough : length descs ≤ length packets
  pub done : f.done ≡ length (pieces descs packets)
  pub errors : f.errors ≡ errors_of (all_filled descs packets)
