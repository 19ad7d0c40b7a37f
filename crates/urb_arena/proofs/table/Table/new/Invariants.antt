use Rattle.std.proofs.Common.{◌≡◌, ◌-◌, ◌+◌, ◌≤◌, length, replicate, None}
use Rattle.urb_arena.specs.Inner.Turns.{Started}
use Rattle.urb_arena.proofs.table.Table.new.Given as goal
use Rattle.urb_arena.specs.declared.arena.TheConstants.{MOST}

abbrev pub invariant-loop-at : goal.invariant-loop-at
invariant-loop-at g l =
    (l.total ≡ l.lanes + 1 + l.capacity) × (l.at ≤ l.total) × (l.block.at ≡ l.base.ptr) × (length l.block.links ≡ l.total) × (l.block.values ≡ replicate l.total None) × Started l.block.links l.lanes l.total l.at
    × (l.deed.at ≡ l.base.ptr) × (l.deed.len ≡ l.total) × (l.deed.alloc ≡ l.alloc) × (l.lanes ≤ MOST) × (l.capacity ≤ MOST) × (l.lanes ≡ l.fn.lanes) × (l.capacity ≡ l.fn.capacity)

abbrev pub decreases-loop-at : goal.decreases-loop-at
decreases-loop-at g l = l.total - l.at
