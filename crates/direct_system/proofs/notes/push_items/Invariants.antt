use Rattle.std.proofs.Common.{◌≡◌, ◌++◌, drop}
use Rattle.std.specs.List.{flat_map}
use Rattle.direct_run.specs.Noted.{item_of}
use Rattle.direct_system.proofs.notes.push_items.Given as goal

abbrev pub invariant-loop-note : goal.invariant-loop-note
invariant-loop-note l = l.items ++ flat_map item_of (drop l.note-index l.notes) ≡ l.initial.items ++ flat_map item_of l.notes
