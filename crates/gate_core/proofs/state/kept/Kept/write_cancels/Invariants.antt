use Rattle.std.proofs.Common.{◌≡◌, ◌≤◌, ◌++◌, length, filter}
use Rattle.std.specs.List.{AllByRecursion, flat_map}
use Rattle.usb_base.specs.Writes.{Begins}
use Rattle.gate_parts.specs.state.Rows.{cancel_bytes, is_cancelled_row}
use Rattle.gate_core.specs.inner.state.Holds.{IsRow}
use Rattle.gate_core.proofs.state.kept.Kept.write_cancels.Given as goal

-- with the requests that are left
abbrev pub invariant-loop-live : goal.invariant-loop-live
invariant-loop-live l =
    (goal.iterator-loop-live).can_next l.live-iterator ×
    (goal.iterator-loop-live).is_finite l.live-iterator ×
    AllByRecursion (IsRow l.self.sides.agreed) l.live-iterator ×
    Begins l.fn.to_host l.to_host ×
    (l.to_host ++ flat_map (cancel_bytes l.self.sides.agreed) l.live-iterator ≡ l.fn.to_host ++ flat_map (cancel_bytes l.self.sides.agreed) l.self.lives.live) ×
    (length (filter is_cancelled_row l.live-iterator) ≤ length (filter is_cancelled_row l.self.lives.live))
