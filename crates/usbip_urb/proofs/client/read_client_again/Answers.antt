use Rattle.packet_stream.proofs.Formats.{read_again}
use Rattle.usbip_urb.specs.ClientPackets.{client_packets}
use Rattle.usbip_urb.specs.Sound.ClientPackets.{client_packets_sound}
use Rattle.usbip_urb.proofs.client.read_client_again.Goals as goal

pub returns : goal.returns
returns c = λ p more fits. read_again client_packets client_packets_sound p more fits
