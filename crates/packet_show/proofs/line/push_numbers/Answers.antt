use Rattle.std.proofs.Common.{◌++◌, ap, ◌∙◌}
use Rattle.packet_show.specs.Line.{spaced}
use Rattle.packet_show.proofs.Words.{one_more}
use Rattle.packet_show.proofs.line.push_numbers.Goals as goal

pub loop-number-preserved : goal.loop-number-preserved
loop-number-preserved g c =
    let text = g.I.Integer.text in
    one_more text c.args.numbers.now c.loop-number.number-index c.number-item.result c.args.out.now c.loop-number.out c.push_number.new.out c.loop-number-test.true c.loop-number.invariant
    (c.in_ok-push_number.ensures ∙ ap (λ x. c.loop-number.out ++ spaced (text x)) c.number-item.is)
