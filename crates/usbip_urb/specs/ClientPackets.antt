-- All that a client sends: list and import requests, and URB requests, told apart by their first two bytes.
use Rattle.std.specs.Prelude.{ℕ, ◌==◌, ◌⊎◌, Bool, List}
use Rattle.std.proofs.Common.{inl, inr}
use Rattle.std.specs.Int.{w16}
use Rattle.usb_base.specs.Number.{be_at}
use Rattle.usb_base.specs.declared.reason.Reason.{Reason}
use Rattle.packet_stream.specs.Format.{Format}
use Rattle.packet_stream.specs.Joined.{joined}
use Rattle.usbip_op.specs.declared.code.TheConstants.{USBIP_VERSION}
use Rattle.usbip_op.specs.declared.packet.OpPacket.{OpPacket}
use Rattle.usbip_op.specs.Requests.{requests as op_requests}
use Rattle.usbip_op.specs.Packets.{takes_memory as op_takes_memory}
use Rattle.usbip_urb.specs.declared.packet.UrbPacket.{UrbPacket}
use Rattle.usbip_urb.specs.declared.client.ClientPacket.{ClientPacket}
use Rattle.usbip_urb.specs.declared.client.ClientPacket.TheVariants.{Op, Urb}
use Rattle.usbip_urb.specs.Requests.{requests as urb_requests}
use Rattle.usbip_urb.specs.Heap.{takes_memory as urb_takes_memory}

-- a list or import request begins with the version
abbrev pub is_op : List ℕ → Bool
is_op b = be_at w16 0 b == USBIP_VERSION

abbrev pub as_either : ClientPacket → OpPacket ⊎ UrbPacket
as_either (Op p) = inl p
as_either (Urb p) = inr p

-- anything that isn't a list or import request is read as a URB request, which refuses another version
abbrev pub client_packets : Format ClientPacket Reason
client_packets = joined is_op Op Urb as_either op_requests urb_requests

abbrev pub client_spelling : ClientPacket → List ℕ
client_spelling p = client_packets.spelling p

abbrev pub IsClientPacket : ClientPacket → Type 0
IsClientPacket p = client_packets.Fits p

abbrev pub takes_memory : ClientPacket → Bool
takes_memory (Op p) = op_takes_memory p
takes_memory (Urb p) = urb_takes_memory p
