use Rattle.std.proofs.Common.{◌≡◌, take}
use Rattle.gate_history.specs.write.Answers.{echoed}
use Rattle.gate_parts.proofs.write.answer.echoed.Given as goal

abbrev pub invariant-loop-desc : goal.invariant-loop-desc
invariant-loop-desc l = l.echo ≡ echoed l.status (take l.desc-index l.descs)
