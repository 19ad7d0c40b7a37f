-- How the streams of both sides are read.
use Rattle.usb_base.specs.declared.reason.Reason.{Reason}
use Rattle.packet_stream.specs.Split.{Reader, Position, reads}
use Rattle.usbip_urb.specs.declared.client.ClientPacket.{ClientPacket}
use Rattle.usbip_urb.specs.ClientPackets.{client_packets}
use Rattle.redir_wire.specs.declared.packet.Way.TheVariants.{ToGuest}
use Rattle.redir_wire.specs.declared.state.RedirState.{RedirState}
use Rattle.redir_wire.specs.declared.packet.Header.{Header}
use Rattle.redir_data.specs.declared.packet.RedirPacket.{RedirPacket}
use Rattle.redir_data.specs.Streams.{after, stream_format}

-- ---- the client's: nothing that was read decides how its next packet is read

abbrev pub client_reader : Reader (Unit {0}) ClientPacket Reason
client_reader = reads (λ s. client_packets) (λ s p. s)

abbrev pub client_start : Position (Unit {0})
client_start = record { state = tt; place = 0 }

-- ---- the host's: its hello, and then packets with the capabilities that are agreed

abbrev pub host_reader : Reader RedirState (Header × RedirPacket) Reason
host_reader = reads (stream_format ToGuest) after
