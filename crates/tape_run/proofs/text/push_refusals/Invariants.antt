use Rattle.std.proofs.Common.{◌≡◌, ◌++◌, drop}
use Rattle.std.specs.List.{flat_map}
use Rattle.usb_base.specs.Refusal.{refusal_line}
use Rattle.tape_run.proofs.text.push_refusals.Given as goal

abbrev pub invariant-loop-refusal : goal.invariant-loop-refusal
invariant-loop-refusal l = l.text ++ flat_map refusal_line (drop l.refusal-index l.refusals) ≡ l.initial.text ++ flat_map refusal_line l.refusals
