use Rattle.std.proofs.Common.{◌≡◌, ◌-◌, ◌+◌, ◌<◌, ◌≤◌, ℕ, [], get_or}
use Rattle.urb_arena.specs.Inner.Tables.{IsTable, lanes_of}
use Rattle.urb_arena.proofs.table.Table.clear.Given as goal

-- the lanes before this one are empty
abbrev pub invariant-loop-lane : goal.invariant-loop-lane
invariant-loop-lane g l =
    IsTable l.self × (l.lane ≤ l.self.lanes) × (l.self.lanes ≡ l.fn.self.lanes) × (l.self.capacity ≡ l.fn.self.capacity) × ((r : ℕ) → r < l.lane → get_or (lanes_of l.self) r [] ≡ [])

abbrev pub decreases-loop-lane : goal.decreases-loop-lane
decreases-loop-lane g l = l.self.len + (l.self.lanes - l.lane)
