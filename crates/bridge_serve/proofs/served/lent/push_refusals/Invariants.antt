use Rattle.std.proofs.Common.{◌≡◌, ◌++◌, drop}
use Rattle.std.specs.List.{flat_map}
use Rattle.bridge_serve.specs.served.Lent.{refusal_in}
use Rattle.bridge_serve.proofs.served.lent.push_refusals.Given as goal

abbrev pub invariant-loop-note : goal.invariant-loop-note
invariant-loop-note l = l.refusals ++ flat_map refusal_in (drop l.note-index l.notes) ≡ l.initial.refusals ++ flat_map refusal_in l.notes
