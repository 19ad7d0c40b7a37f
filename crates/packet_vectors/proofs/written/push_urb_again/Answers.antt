use Rattle.packet_vectors.proofs.Writes.{request_writable}
use Rattle.packet_vectors.proofs.written.push_urb_again.Goals as goal

pub write_urb-written-requires : goal.write_urb-written-requires
write_urb-written-requires c = request_writable c.args.packet.now c.requires
