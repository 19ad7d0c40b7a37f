use Rattle.std.proofs.Common.{◌<◌, List, length, ap, subst, arith}
use Rattle.std.specs.List.{flat_map}
use Rattle.stream_buffers.proofs.Joining.{on-err}
use Rattle.gate_history.specs.declared.note.Note.{Note}
use Rattle.gate_history.specs.write.Refusals.{refusal_in}
use Rattle.gate_history.proofs.lemmas.Lists.{some-joined}
use Rattle.gate_history.proofs.note.push_refusals.Goals as goal

pub returns-in_err-push-clause-wants : goal.returns-in_err-push-clause-wants
returns-in_err-push-clause-wants c =
    let xs = c.as_slice-note-items.result.now in
    let one = ap (λ (n : Note). length (refusal_in n)) c.in-Refused.is in
    on-err c.from_residual.result _
    (subst (λ (l : List Note). 0 < length (flat_map refusal_in l)) c.as_slice-note-items.ensures
    (some-joined refusal_in xs c.loop-note.note-index c.note-item.result c.loop-note-test.true c.note-item.is (omega (arith, one))))
