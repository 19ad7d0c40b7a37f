use Rattle.usbip_op.proofs.Packets.{packets_sound}
use Rattle.usbip_op.proofs.read.packets_sound.Goals as goal

pub returns : goal.returns
returns c = packets_sound
