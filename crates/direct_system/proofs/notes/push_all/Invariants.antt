use Rattle.std.proofs.Common.{◌≡◌, ◌++◌, drop}
use Rattle.direct_system.proofs.notes.push_all.Given as goal

abbrev pub invariant-loop-item : goal.invariant-loop-item
invariant-loop-item l = l.items ++ drop l.item-index l.more ≡ l.initial.items ++ l.more
