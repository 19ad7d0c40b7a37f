use Rattle.std.proofs.Common.{◌≡◌, ◌≤◌, ◌++◌, length, filter}
use Rattle.std.specs.List.{AllByRecursion, flat_map}
use Rattle.usb_base.specs.Writes.{Begins}
use Rattle.unlink_race.specs.Searches.{ended_by}
use Rattle.gate_parts.specs.state.Rows.{ended_bytes}
use Rattle.gate_core.specs.inner.state.Holds.{IsRow}
use Rattle.gate_core.proofs.state.kept.Kept.write_ends.Given as goal

-- with the requests that are left
abbrev pub invariant-loop-live : goal.invariant-loop-live
invariant-loop-live l =
    (goal.iterator-loop-live).can_next l.live-iterator ×
    (goal.iterator-loop-live).is_finite l.live-iterator ×
    AllByRecursion (IsRow l.self.sides.agreed) l.live-iterator ×
    Begins l.fn.to_client l.to_client ×
    (l.to_client ++ flat_map (ended_bytes l.end l.status) l.live-iterator ≡ l.fn.to_client ++ flat_map (ended_bytes l.end l.status) l.self.lives.live) ×
    (length (filter (ended_by l.end) l.live-iterator) ≤ length (filter (ended_by l.end) l.self.lives.live))
