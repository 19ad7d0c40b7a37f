use Rattle.std.proofs.Common.{◌≡◌, ◌++◌, drop}
use Rattle.std.specs.List.{flat_map}
use Rattle.session_tape.specs.Lines.{refusal_comment}
use Rattle.bridge_run.proofs.written.recording.push_refusals.Given as goal

abbrev pub invariant-loop-refusal : goal.invariant-loop-refusal
invariant-loop-refusal l = l.text ++ flat_map refusal_comment (drop l.refusal-index l.refusals) ≡ l.initial.text ++ flat_map refusal_comment l.refusals
