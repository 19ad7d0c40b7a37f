-- What the cuts promise to whoever knows nothing of how they are found.
use Rattle.std.specs.Prelude.{◌≡◌, ℕ, ◌≤◌, List, length, IfSome, IsTrue}
use Rattle.usb_base.specs.declared.transfer.StreamPacket.{StreamPacket}
use Rattle.usbip_urb.specs.declared.packet.IsoDesc.{IsoDesc}
use Rattle.usbip_urb.specs.Buffers.{laid, total}
use Rattle.stream_buffers.specs.Least.{IsLeastBelow}
use Rattle.stream_buffers.specs.Interrupt.{fills, last_of, interrupt_cut}
use Rattle.stream_buffers.specs.Iso.{IsoOutcome, iso_cut}

-- the packets of an interrupt request are the fewest that fill it
abbrev pub FewestFill : Type 0
FewestFill = (max_packet wanted : ℕ) (packets : List StreamPacket) → IsLeastBelow (fills max_packet wanted packets) (length packets) (last_of max_packet wanted packets)

-- it is given no more bytes than it asks for
abbrev pub InterruptFits : Type 0
InterruptFits = (max_packet wanted : ℕ) (packets : List StreamPacket) → IfSome (interrupt_cut max_packet wanted packets) (λ cut. cut.gives.done ≤ wanted)

-- the bytes fit into a buffer of this size, and the descriptors are those of the request and tell as many bytes
pub record FitsBuffer (size : ℕ) (descs : List IsoDesc) (outcome : IsoOutcome) : Type 0 where
  pub in_size : length outcome.body ≤ size
  pub as_many : length outcome.descs ≡ length descs
  pub told : total outcome.descs ≡ length outcome.body

-- so it is for an isochronous request whose descriptors lie in its buffer
abbrev pub IsoFits : Type 0
IsoFits = (size : ℕ) (descs : List IsoDesc) (packets : List StreamPacket) → IsTrue (laid descs size) → IfSome (iso_cut descs packets) (λ cut. FitsBuffer size descs cut.gives)
