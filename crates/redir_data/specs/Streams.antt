-- What a stream has told so far decides how its next packet is read.
use Rattle.usb_base.specs.declared.reason.Reason.{Reason}
use Rattle.packet_stream.specs.Format.{Format}
use Rattle.packet_stream.specs.Split.{Position}
use Rattle.redir_wire.specs.declared.state.RedirState.{RedirState}
use Rattle.redir_wire.specs.declared.packet.Way.{Way}
use Rattle.redir_wire.specs.declared.packet.Header.{Header}
use Rattle.redir_wire.specs.declared.packet.RedirControl.TheVariants.{Hello}
use Rattle.redir_wire.specs.State.{start, after_hello}
use Rattle.redir_data.specs.declared.packet.RedirPacket.{RedirPacket}
use Rattle.redir_data.specs.declared.packet.RedirPacket.TheVariants.{Plain}
use Rattle.redir_data.specs.Packets.{redir_packets}

abbrev pub stream_start : Position RedirState
stream_start = record { state = start; place = 0 }

-- a hello tells the state of its stream anew, and no other packet changes it
abbrev pub advanced : RedirState → RedirPacket → RedirState
advanced s (Plain (Hello x)) = after_hello x
advanced s _ = s

abbrev pub after : RedirState → Header × RedirPacket → RedirState
after s p = advanced s p.1

abbrev pub stream_format : Way → RedirState → Format (Header × RedirPacket) Reason
stream_format way s = redir_packets s way
