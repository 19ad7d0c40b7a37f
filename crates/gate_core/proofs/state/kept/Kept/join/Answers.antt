use Rattle.std.proofs.Common.{◌∙◌, [], sym}
use Rattle.std.proofs.lemmas.List.{append-nil}
use Rattle.gate_parts.proofs.lemmas.write.Outputs.{some-told}
use Rattle.gate_core.proofs.lemmas.write.InTurn.{on-err}
use Rattle.gate_core.proofs.state.kept.Kept.join.Goals as goal

pub returns-in_err-push-clause-err : goal.returns-in_err-push-clause-err
returns-in_err-push-clause-err c = on-err c.from_residual.result _ (some-told c.args.out.now c.push.new.self [] (c.in_err-push.ensures.err ∙ sym (append-nil c.args.out.now.notes)))
