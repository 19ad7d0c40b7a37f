use Rattle.std.proofs.Common.{◌<◌, ◌+◌, ◌*◌, ℕ, List, length, subst, arith}
use Rattle.usb_base.specs.Number.{byte_at}
use Rattle.usbip_op.specs.Devices.{listed_form}
use Rattle.usbip_op.specs.Rows.{rows_size}
use Rattle.usbip_op.proofs.Rows.{size_further, short_here}
use Rattle.usbip_op.proofs.reply.rows_size.Goals as goal

abbrev IsCut : List ℕ → Type 0
IsCut xs = length xs < 312 + byte_at 311 xs * 4

pub returns-then-row-lt-DEVICE_SIZE : goal.returns-then-row-lt-DEVICE_SIZE
returns-then-row-lt-DEVICE_SIZE c =
    let b = c.args.bytes.now in
    let l = c.loop in
    let cut : IsCut c.split_at.result.1.now = omega (arith, c.if-row-lt-DEVICE_SIZE.true) in
    short_here listed_form c.args.count l.counter l.size (rows_size listed_form c.args.count b) b c.loop-test.true l.invariant.there (subst IsCut c.split_at.ensures.back cut) l.invariant.left

pub returns-then-row-row_size : goal.returns-then-row-row_size
returns-then-row-row_size c =
    let b = c.args.bytes.now in
    let l = c.loop in
    short_here listed_form c.args.count l.counter l.size (rows_size listed_form c.args.count b) b c.loop-test.true l.invariant.there (subst IsCut c.split_at.ensures.back c.if-row-row_size.true) l.invariant.left

pub loop-preserved : goal.loop-preserved
loop-preserved c =
    let b = c.args.bytes.now in
    let l = c.loop in
    record {
      left = rw c.split_at.ensures.back (size_further listed_form c.args.count l.counter l.size (rows_size listed_form c.args.count b) b c.loop-test.true l.invariant.left);
      there = omega (arith, c.split_at.ensures.back_len, c.if-row-row_size.false);
    }
