use Rattle.std.proofs.Common.{◌≡◌, ◌≤◌, ◌+◌, ◌*◌, ap, length, drop, ◌∙◌}
use Rattle.usb_base.specs.Number.{byte_at}
use Rattle.usbip_op.specs.declared.packet.Listed.{Listed}
use Rattle.usbip_op.specs.Devices.{listed_form}
use Rattle.usbip_op.specs.Rows.{rows_at}
use Rattle.usbip_op.proofs.Rows.{rows_further, first_there, later_there}
use Rattle.usbip_op.proofs.reply.listed_rows.Goals as goal

pub listed_row-requires : goal.listed_row-requires
listed_row-requires c = first_there listed_form c.args.count c.loop.counter c.loop.rest.now c.loop-test.true c.loop.invariant.there

pub split_at-requires : goal.split_at-requires
split_at-requires c =
    let b = c.loop.rest.now in
    let first : 312 + byte_at 311 b * 4 ≤ length b = first_there listed_form c.args.count c.loop.counter b c.loop-test.true c.loop.invariant.there in
    rw (ap (λ (l : Listed). l.device.interfaces) c.in_ok-row.ensures) first

pub loop-preserved : goal.loop-preserved
loop-preserved c =
    let b = c.loop.rest.now in
    let n = c.args.count in
    let i = c.loop.counter in
    let rest : c.split_at.result.1.now ≡ drop (312 + byte_at 311 b * 4) b =
    c.split_at.ensures.back ∙ ap (λ (l : Listed). drop (312 + l.device.interfaces * 4) b) c.in_ok-row.ensures in
    record {
      left = rw (c.in_ok-push.ensures.ok, rest) (rows_further listed_form n i b c.loop.rows (rows_at listed_form n c.args.bytes.now) c.in_ok-row.row c.loop-test.true c.in_ok-row.ensures c.loop.invariant.left);
      there = rw rest (later_there listed_form n i b c.loop-test.true c.loop.invariant.there);
    }
