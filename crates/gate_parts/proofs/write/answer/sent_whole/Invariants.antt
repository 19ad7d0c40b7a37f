use Rattle.std.proofs.Common.{◌≡◌, take}
use Rattle.gate_history.specs.write.Answers.{sent_whole}
use Rattle.gate_parts.proofs.write.answer.sent_whole.Given as goal

abbrev pub invariant-loop-desc : goal.invariant-loop-desc
invariant-loop-desc l = l.sent ≡ sent_whole (take l.desc-index l.descs)
