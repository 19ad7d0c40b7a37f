use Rattle.std.proofs.Common.{◌≡◌, ◌++◌, drop}
use Rattle.std.specs.List.{flat_map}
use Rattle.usb_base.specs.Writes.{Begins}
use Rattle.gate_history.specs.write.Refusals.{refusal_in}
use Rattle.gate_history.proofs.note.push_refusals.Given as goal

abbrev pub invariant-loop-note : goal.invariant-loop-note
invariant-loop-note l = (l.refusals ++ flat_map refusal_in (drop l.note-index l.notes) ≡ l.initial.refusals ++ flat_map refusal_in l.notes) × Begins l.initial.refusals l.refusals
