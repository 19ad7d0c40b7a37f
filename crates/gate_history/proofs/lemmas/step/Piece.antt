-- The streams of both sides, whose packets and wrong places are items.
use Rattle.usb_base.specs.declared.reason.Reason.{Reason}
use Rattle.packet_stream.proofs.Pieces.{SideStream}
use Rattle.usbip_urb.specs.declared.client.ClientPacket.{ClientPacket}
use Rattle.redir_wire.specs.declared.state.RedirState.{RedirState}
use Rattle.redir_wire.specs.declared.packet.Header.{Header}
use Rattle.redir_data.specs.declared.packet.RedirPacket.{RedirPacket}
use Rattle.redir_data.specs.Streams.{stream_start}
use Rattle.gate_history.specs.declared.item.Item.{Item}
use Rattle.gate_history.specs.declared.item.Item.TheVariants.{Asked, Told, ClientWrong, HostWrong}
use Rattle.gate_history.specs.step.Streams.{client_reader, client_start, host_reader}

abbrev pub client_stream : SideStream (Unit {0}) ClientPacket Reason Item
client_stream = record { reader = client_reader; start = client_start; packet = Asked; wrong = ClientWrong }

abbrev pub host_stream : SideStream RedirState (Header × RedirPacket) Reason Item
host_stream = record { reader = host_reader; start = stream_start; packet = λ place p. Told place p.0 p.1; wrong = HostWrong }
