use Rattle.packet_vectors.proofs.Writes.{answer_writable}
use Rattle.packet_vectors.proofs.written.push_ret_again.Goals as goal

pub write_urb-written-requires : goal.write_urb-written-requires
write_urb-written-requires c = answer_writable c.args.is_in c.args.packet.now c.requires
