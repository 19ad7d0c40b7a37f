use Rattle.std.proofs.Common.{◌≡◌, ◌≤◌, ◌+◌, ◌++◌, length, filter}
use Rattle.std.specs.List.{AllByRecursion, flat_map}
use Rattle.usb_base.specs.Writes.{Begins}
use Rattle.usbip_urb.specs.declared.code.TheConstants.{MAX_LIVE}
use Rattle.gate_parts.specs.state.Rows.{lost_bytes, is_asked_back}
use Rattle.gate_core.specs.inner.state.Holds.{IsRow}
use Rattle.gate_core.proofs.state.kept.Kept.write_losses.Given as goal

-- with the requests that are left
abbrev pub invariant-loop-live : goal.invariant-loop-live
invariant-loop-live l =
    (goal.iterator-loop-live).can_next l.live-iterator ×
    (goal.iterator-loop-live).is_finite l.live-iterator ×
    AllByRecursion (IsRow l.self.sides.agreed) l.live-iterator ×
    Begins l.fn.to_client l.to_client ×
    (l.to_client ++ flat_map lost_bytes l.live-iterator ≡ l.fn.to_client ++ flat_map lost_bytes l.self.lives.live) ×
    (l.unlinked + length l.live-iterator ≤ MAX_LIVE) ×
    (length l.live-iterator ≤ length l.self.lives.live) ×
    (l.unlinked + length (filter is_asked_back l.live-iterator) ≡ length (filter is_asked_back l.self.lives.live))
