use Rattle.std.proofs.Common.{arith}
use Rattle.packet_stream.proofs.Told.{told_answers, answers_stands}
use Rattle.usbip_op.specs.Replies.{replies}
use Rattle.usbip_op.specs.Packets.{takes_memory}
use Rattle.usbip_op.proofs.Replies.{replies_sound}
use Rattle.usbip_op.proofs.read.read_op.Goals as goal

pub returns-in-Reply-clause-stands : goal.returns-in-Reply-clause-stands
returns-in-Reply-clause-stands c = rw c.in-Reply.is (answers_stands takes_memory replies replies_sound c.args.bytes.now (λ i. omega (arith, c.type_inv.bytes i)) c.read_reply.result c.read_reply.ensures)

pub returns-in-Request-clause-exact : goal.returns-in-Request-clause-exact
returns-in-Request-clause-exact c = rw c.in-Request.is (told_answers takes_memory c.request_packet.result _ c.request_packet.ensures.exact)
