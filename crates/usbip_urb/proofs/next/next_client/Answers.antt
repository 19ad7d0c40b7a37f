use Rattle.std.proofs.Common.{◌≡◌, true, false, rules, arith}
use Rattle.usbip_urb.specs.ClientPackets.{is_op}
use Rattle.usbip_urb.proofs.ClientAwaits.{two_awaited, two_quiet, op_short, urb_short, op_awaited, urb_awaited, op_quiet, urb_quiet}
use Rattle.usbip_urb.proofs.next.next_client.Goals as goal

pub returns-then-bytes-lt2-clause-least : goal.returns-then-bytes-lt2-clause-least
returns-then-bytes-lt2-clause-least c = two_awaited c.args.bytes.now c.if-bytes-lt2.true

pub returns-then-bytes-lt2-clause-quiet : goal.returns-then-bytes-lt2-clause-quiet
returns-then-bytes-lt2-clause-quiet c = two_quiet c.args.bytes.now

pub next_op-requires : goal.next_op-requires
next_op-requires c = let e : is_op c.args.bytes.now ≡ true = search rules in op_short c.args.bytes.now e c.requires

pub next_urb-requires : goal.next_urb-requires
next_urb-requires c = let e : is_op c.args.bytes.now ≡ false = search rules in urb_short c.args.bytes.now e c.requires

pub returns-then-be_u16_at-eq-USBIP_VERSION-clause-least : goal.returns-then-be_u16_at-eq-USBIP_VERSION-clause-least
returns-then-be_u16_at-eq-USBIP_VERSION-clause-least c = let e : is_op c.args.bytes.now ≡ true = search rules in op_awaited c.args.bytes.now c.next_op.result e c.next_op.ensures.least

pub returns-then-be_u16_at-eq-USBIP_VERSION-clause-quiet : goal.returns-then-be_u16_at-eq-USBIP_VERSION-clause-quiet
returns-then-be_u16_at-eq-USBIP_VERSION-clause-quiet c =
    let e : is_op c.args.bytes.now ≡ true = search rules in op_quiet c.args.bytes.now c.next_op.result (omega (arith, c.if-bytes-lt2.false)) e c.next_op.ensures.quiet

pub returns-else-be_u16_at-eq-USBIP_VERSION-clause-least : goal.returns-else-be_u16_at-eq-USBIP_VERSION-clause-least
returns-else-be_u16_at-eq-USBIP_VERSION-clause-least c = let e : is_op c.args.bytes.now ≡ false = search rules in urb_awaited c.args.bytes.now c.next_urb.result e c.next_urb.ensures.least

pub returns-else-be_u16_at-eq-USBIP_VERSION-clause-quiet : goal.returns-else-be_u16_at-eq-USBIP_VERSION-clause-quiet
returns-else-be_u16_at-eq-USBIP_VERSION-clause-quiet c =
    let e : is_op c.args.bytes.now ≡ false = search rules in urb_quiet c.args.bytes.now c.next_urb.result (omega (arith, c.if-bytes-lt2.false)) e c.next_urb.ensures.quiet
