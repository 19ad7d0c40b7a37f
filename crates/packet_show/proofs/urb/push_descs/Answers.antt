use Rattle.std.proofs.Common.{◌++◌, List, ℕ, ap, ◌∙◌}
use Rattle.packet_show.specs.Line.{spaced}
use Rattle.packet_show.specs.Urb.{desc_word}
use Rattle.packet_show.proofs.Words.{one_more}
use Rattle.packet_show.proofs.urb.push_descs.Goals as goal

pub loop-desc-preserved : goal.loop-desc-preserved
loop-desc-preserved c =
    one_more desc_word c.args.descs.now c.loop-desc.desc-index _ c.args.out.now c.loop-desc.out c.push_word.new.out c.loop-desc-test.true c.loop-desc.invariant
    (c.in_ok-push_word.ensures ∙ ap (λ (text : List ℕ). c.loop-desc.out ++ spaced text) (c.as_bytes.ensures.value ∙ c.in_ok-desc_text.ensures))
