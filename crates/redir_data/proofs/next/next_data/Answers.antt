use Rattle.std.proofs.Common.{◌≡◌, Some, None, ap, sym, ◌∙◌, arith}
use Rattle.std.specs.Int.{w32}
use Rattle.usb_base.specs.Number.{le_at}
use Rattle.redir_wire.specs.Table.{data_numbered, fixed_length}
use Rattle.redir_wire.proofs.Numbers.{data_number}
use Rattle.redir_data.specs.Places.{fixed}
use Rattle.redir_data.proofs.Awaits.{is_data, fields_awaited, all_awaited}
use Rattle.redir_data.proofs.next.next_data.Goals as goal

pub unreachable-requires : goal.unreachable-requires
unreachable-requires c =
    let a = c.args in
    let none : data_numbered (le_at w32 0 a.bytes.now) ≡ None = ap data_numbered (sym c.le_u32_at.ensures) ∙ (sym c.numbered.ensures ∙ c.in_default.is) in
    is_data a.state a.way a.bytes.now c.requires.short (omega (arith, c.if-bytes-lt8.false)) c.requires.carrying none

pub returns-then-bytes-fields : goal.returns-then-bytes-fields
returns-then-bytes-fields c =
    let a = c.args in
    let k = c.in-Some.kind in
    let some : data_numbered (le_at w32 0 a.bytes.now) ≡ Some k = ap data_numbered (sym c.le_u32_at.ensures) ∙ (sym c.numbered.ensures ∙ c.in-Some.is) in
    let fields : c.fixed.result ≡ fixed a.state.caps k = c.fixed.ensures.value ∙ ap (fixed_length a.state.caps) c.row.ensures in
    fields_awaited a.state a.way k a.bytes.now c.header_size-size.result c.fixed.result (omega (arith, c.if-bytes-lt8.false)) (data_number (le_at w32 0 a.bytes.now) k some) c.header_size-size.ensures.value fields c.if-bytes-fields.true

pub returns : goal.returns
returns c =
    let a = c.args in
    let k = c.in-Some.kind in
    let some : data_numbered (le_at w32 0 a.bytes.now) ≡ Some k = ap data_numbered (sym c.le_u32_at.ensures) ∙ (sym c.numbered.ensures ∙ c.in-Some.is) in
    let fields : c.fixed.result ≡ fixed a.state.caps k = c.fixed.ensures.value ∙ ap (fixed_length a.state.caps) c.row.ensures in
    all_awaited a.state a.way k a.bytes.now c.header_size-size.result c.fixed.result c.le_u32_at-2.result (omega (arith, c.if-bytes-lt8.false)) (data_number (le_at w32 0 a.bytes.now) k some) c.header_size-size.ensures.value fields
    c.le_u32_at-2.ensures (omega (arith, c.if-bytes-fields.false))
