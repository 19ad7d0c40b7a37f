use Rattle.std.proofs.Common.{arith}
use Rattle.packet_stream.proofs.Told.{answers_stands}
use Rattle.usbip_urb.specs.ClientPackets.{client_packets, takes_memory}
use Rattle.usbip_urb.specs.Sound.ClientPackets.{client_packets_sound}
use Rattle.usbip_urb.proofs.client.read_client.Goals as goal

pub returns-clause-stands : goal.returns-clause-stands
returns-clause-stands c = answers_stands takes_memory client_packets client_packets_sound c.args.bytes.now (λ i. omega (arith, c.type_inv.bytes i)) c.take_packet.result c.take_packet.ensures.exact
