use Rattle.std.proofs.Common.{◌++◌, ◌∙◌, ℕ, List, sym, ap}
use Rattle.std.specs.Prelude.{ℤ}
use Rattle.std.specs.Int.{w32, cast_signed, cast_unsigned}
use Rattle.stream_buffers.specs.Fillings.{cut_by, filling_body}
use Rattle.gate_parts.specs.host.FillAnswer.{front_bytes}
use Rattle.gate_parts.specs.state.Rows.{row_request}
use Rattle.gate_parts.proofs.lemmas.host.FillAnswer.{errno_back, then-more, transferred}
use Rattle.gate_parts.proofs.host.filling.push_transferred.Goals as goal

pub returns : goal.returns
returns c =
    let r = row_request c.args.live.now in
    let f = c.args.filling in
    let ps = c.args.behind.now in
    let sent = cast_signed w32 (cast_unsigned w32 c.errno.result) in
    let status = ap (λ (z : ℤ). cast_signed w32 (cast_unsigned w32 z)) c.errno.ensures ∙ errno_back f.status in
    then-more c.args.out.now (front_bytes r sent f.done 0) (filling_body ps f) c.push_front.new.out c.append_bodies.new.out c.in_ok-push_front.ensures c.in_ok-append_bodies.ensures.sent
    ∙ ap (λ (x : List ℕ). c.args.out.now ++ x)
    (ap (λ (z : ℤ). front_bytes r z f.done 0 ++ filling_body ps f) status ∙ sym (transferred c.args.live.now (cut_by ps f).gives c.requires.none))
