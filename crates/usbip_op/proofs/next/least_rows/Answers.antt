use Rattle.std.proofs.Common.{◌+◌, ◌*◌, ◌-◌, ◌≡◌, ℕ, List, drop, ap, ◌∙◌, sym, arith}
use Rattle.usb_base.specs.Number.{byte_at}
use Rattle.usbip_op.specs.Rows.{rows_size}
use Rattle.usbip_op.specs.Devices.{listed_form}
use Rattle.usbip_op.proofs.Rows.{size_further}
use Rattle.usbip_op.proofs.next.least_rows.Goals as goal

pub loop-preserved : goal.loop-preserved
loop-preserved c =
    let b = c.args.bytes.now in
    let l = c.loop in
    let row : 312 + byte_at 311 (drop l.size b) * 4 ≡ c.least_row-size.result = sym (c.least_row-size.ensures.value ∙ ap (λ (xs : List ℕ). 312 + byte_at 311 xs * 4) c.behind.ensures) in
    record {
      left = size_further listed_form c.args.count l.counter l.size (rows_size listed_form c.args.count b) b c.loop-test.true l.invariant.left
          ∙ ap (λ (n : ℕ). (l.size + n) + rows_size listed_form (c.args.count - (l.counter + 1)) (drop (l.size + n) b)) row;
      small = omega (arith, l.invariant.small, c.least_row-size.ensures.small);
    }
