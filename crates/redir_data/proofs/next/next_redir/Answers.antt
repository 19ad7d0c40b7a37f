use Rattle.std.proofs.Common.{◌≡◌, true, false, rules, arith}
use Rattle.std.specs.Int.{w32}
use Rattle.std.proofs.lemmas.Bool.{le-ltb}
use Rattle.usb_base.specs.Number.{le_at}
use Rattle.redir_data.specs.Packets.{begins_plain}
use Rattle.redir_data.proofs.Awaits.{four_awaited, four_quiet, plain_short, data_short, plain_awaited, plain_quiet, data_least, data_quiet}
use Rattle.redir_data.proofs.next.next_redir.Goals as goal

pub returns-then-bytes-lt4-clause-least : goal.returns-then-bytes-lt4-clause-least
returns-then-bytes-lt4-clause-least c = four_awaited c.args.state c.args.way c.args.bytes.now c.if-bytes-lt4.true

pub returns-then-bytes-lt4-clause-quiet : goal.returns-then-bytes-lt4-clause-quiet
returns-then-bytes-lt4-clause-quiet c = four_quiet c.args.state c.args.way c.args.bytes.now

pub next_control-requires : goal.next_control-requires
next_control-requires c =
    let a = c.args in
    let e : begins_plain a.bytes.now ≡ true = search rules in plain_short a.state a.way a.bytes.now e c.requires

pub next_data-requires-clause-short : goal.next_data-requires-clause-short
next_data-requires-clause-short c =
    let a = c.args in
    let e : begins_plain a.bytes.now ≡ false = le-ltb (le_at w32 0 a.bytes.now) 100 (omega (arith, c.le_u32_at.ensures, c.if-le_u32_at-lt-FIRST_DATA.false)) in data_short a.state a.way a.bytes.now e c.requires

pub returns-then-le_u32_at-lt-FIRST_DATA-clause-least : goal.returns-then-le_u32_at-lt-FIRST_DATA-clause-least
returns-then-le_u32_at-lt-FIRST_DATA-clause-least c =
    let a = c.args in
    let e : begins_plain a.bytes.now ≡ true = search rules in plain_awaited a.state a.way a.bytes.now c.next_control.result e c.next_control.ensures.least

pub returns-then-le_u32_at-lt-FIRST_DATA-clause-quiet : goal.returns-then-le_u32_at-lt-FIRST_DATA-clause-quiet
returns-then-le_u32_at-lt-FIRST_DATA-clause-quiet c =
    let a = c.args in
    let e : begins_plain a.bytes.now ≡ true = search rules in plain_quiet a.state a.way a.bytes.now c.next_control.result (omega (arith, c.if-bytes-lt4.false)) e c.next_control.ensures.quiet

pub returns-else-le_u32_at-lt-FIRST_DATA-clause-least : goal.returns-else-le_u32_at-lt-FIRST_DATA-clause-least
returns-else-le_u32_at-lt-FIRST_DATA-clause-least c =
    let a = c.args in
    let e : begins_plain a.bytes.now ≡ false = le-ltb (le_at w32 0 a.bytes.now) 100 (omega (arith, c.le_u32_at.ensures, c.if-le_u32_at-lt-FIRST_DATA.false)) in data_least a.state a.way a.bytes.now c.next_data.result e c.requires c.next_data.ensures

pub returns-else-le_u32_at-lt-FIRST_DATA-clause-quiet : goal.returns-else-le_u32_at-lt-FIRST_DATA-clause-quiet
returns-else-le_u32_at-lt-FIRST_DATA-clause-quiet c =
    let a = c.args in
    let e : begins_plain a.bytes.now ≡ false = le-ltb (le_at w32 0 a.bytes.now) 100 (omega (arith, c.le_u32_at.ensures, c.if-le_u32_at-lt-FIRST_DATA.false)) in data_quiet a.state a.way a.bytes.now c.next_data.result (omega (arith, c.if-bytes-lt4.false)) e c.requires c.next_data.ensures
