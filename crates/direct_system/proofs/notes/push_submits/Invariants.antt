use Rattle.std.proofs.Common.{◌≡◌, ◌++◌, drop}
use Rattle.std.specs.List.{flat_map}
use Rattle.direct_run.specs.Noted.{named}
use Rattle.direct_system.proofs.notes.push_submits.Given as goal

abbrev pub invariant-loop-note : goal.invariant-loop-note
invariant-loop-note l = l.submits ++ flat_map named (drop l.note-index l.notes) ≡ l.initial.submits ++ flat_map named l.notes
