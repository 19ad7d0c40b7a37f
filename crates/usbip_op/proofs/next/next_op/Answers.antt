use Rattle.std.proofs.Common.{sym}
use Rattle.packet_stream.proofs.Awaiting.{awaited_least, stays_short}
use Rattle.usbip_op.specs.Packets.{packets_of}
use Rattle.usbip_op.specs.Requests.{requests}
use Rattle.usbip_op.specs.Replies.{replies}
use Rattle.usbip_op.proofs.Awaits.{requests_patient, replies_patient, patient, awaits_code}
use Rattle.usbip_op.proofs.next.next_op.Goals as goal

pub returns-then-bytes-lt4-clause-quiet : goal.returns-then-bytes-lt4-clause-quiet
returns-then-bytes-lt4-clause-quiet c =
    let way = c.args.way in
    stays_short (packets_of way) (patient way) c.args.bytes.now c.requires 4 (sym (awaits_code way c.args.bytes.now c.if-bytes-lt2.false c.if-bytes-lt4.true))

pub returns-in-Request-clause-least : goal.returns-in-Request-clause-least
returns-in-Request-clause-least c = rw c.in-Request.is (awaited_least requests requests_patient c.args.bytes.now (rw c.in-Request.is at c.requires) c.next_request.result c.next_request.ensures)

pub returns-in-Request-clause-quiet : goal.returns-in-Request-clause-quiet
returns-in-Request-clause-quiet c = rw c.in-Request.is (stays_short requests requests_patient c.args.bytes.now (rw c.in-Request.is at c.requires) c.next_request.result c.next_request.ensures)

pub returns-in-Reply-clause-least : goal.returns-in-Reply-clause-least
returns-in-Reply-clause-least c = rw c.in-Reply.is (awaited_least replies replies_patient c.args.bytes.now (rw c.in-Reply.is at c.requires) c.next_reply.result c.next_reply.ensures)

pub returns-in-Reply-clause-quiet : goal.returns-in-Reply-clause-quiet
returns-in-Reply-clause-quiet c = rw c.in-Reply.is (stays_short replies replies_patient c.args.bytes.now (rw c.in-Reply.is at c.requires) c.next_reply.result c.next_reply.ensures)
