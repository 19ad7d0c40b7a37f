use Rattle.usbip_op.proofs.Packets.{written_again}
use Rattle.usbip_op.proofs.write.written_again.Goals as goal

pub returns : goal.returns
returns c = λ p more range writable. written_again p more range writable
