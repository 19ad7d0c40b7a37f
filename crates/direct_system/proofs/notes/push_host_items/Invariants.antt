use Rattle.std.proofs.Common.{◌≡◌, ◌++◌, drop}
use Rattle.std.specs.List.{flat_map}
use Rattle.direct_run.specs.Noted.{item_of_host}
use Rattle.direct_system.proofs.notes.push_host_items.Given as goal

abbrev pub invariant-loop-note : goal.invariant-loop-note
invariant-loop-note l = l.items ++ flat_map (item_of_host l.submits) (drop l.note-index l.notes) ≡ l.initial.items ++ flat_map (item_of_host l.submits) l.notes
