use Rattle.usbip_urb.specs.Sound.ClientPackets.{client_packets_sound}
use Rattle.usbip_urb.proofs.client.client_packets_sound.Goals as goal

pub returns : goal.returns
returns c = client_packets_sound
