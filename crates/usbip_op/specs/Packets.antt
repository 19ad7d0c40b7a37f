-- The packets of both ways.
use Rattle.std.specs.Prelude.{Bool, true, false, List, [], ◌∷◌}
use Rattle.packet_stream.specs.Format.{Format}
use Rattle.usb_base.specs.declared.reason.Reason.{Reason}
use Rattle.usbip_op.specs.declared.packet.OpPacket.{OpPacket}
use Rattle.usbip_op.specs.declared.packet.OpPacket.TheVariants.{RepDevlist}
use Rattle.usbip_op.specs.declared.packet.OpWay.{OpWay}
use Rattle.usbip_op.specs.declared.packet.OpWay.TheVariants.{Request, Reply}
use Rattle.usbip_op.specs.Requests.{requests}
use Rattle.usbip_op.specs.Replies.{replies}

-- the packets that go one way
abbrev pub packets_of : OpWay → Format OpPacket Reason
packets_of Request = requests
packets_of Reply = replies

abbrev pub has_row : {X : Type 0} → List X → Bool
has_row [] = false
has_row (x ∷ xs) = true

-- memory is taken for the rows of a list
abbrev pub takes_memory : OpPacket → Bool
takes_memory (RepDevlist status devices) = has_row devices
takes_memory _ = false
