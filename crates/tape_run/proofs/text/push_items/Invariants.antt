use Rattle.std.proofs.Common.{◌≡◌, ◌++◌, drop}
use Rattle.std.specs.List.{flat_map}
use Rattle.direct_run.specs.Lines.{item_line}
use Rattle.tape_run.proofs.text.push_items.Given as goal

abbrev pub invariant-loop-item : goal.invariant-loop-item
invariant-loop-item l = l.text ++ flat_map item_line (drop l.item-index l.items) ≡ l.initial.text ++ flat_map item_line l.items
