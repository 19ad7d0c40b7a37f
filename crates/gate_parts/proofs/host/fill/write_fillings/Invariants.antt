use Rattle.std.proofs.Common.{◌≡◌, ◌≤◌, ◌+◌, length}
use Rattle.std.specs.List.{AllByRecursion}
use Rattle.usbip_urb.specs.declared.code.TheConstants.{MAX_LIVE}
use Rattle.gate_parts.specs.host.Fill.{up_fill, up_bytes, filled_notes}
use Rattle.gate_parts.specs.write.Outputs.{with_answers, HasSome}
use Rattle.gate_parts.proofs.lemmas.host.FillLoop.{CanFill, SoFar}
use Rattle.gate_parts.proofs.host.fill.write_fillings.Given as goal

-- with the requests that are left
abbrev pub invariant-loop-live : goal.invariant-loop-live
invariant-loop-live l = record {
  can : (goal.iterator-loop-live).can_next l.live-iterator;
  ends : (goal.iterator-loop-live).is_finite l.live-iterator;
  same : l.up ≡ l.fn.up;
  fine : AllByRecursion CanFill l.live-iterator;
  so_far : SoFar l.fn.up.row.max_packet l.fn.up.held (up_fill l.fn.ep l.fn.up l.fn.lives.live)
      (with_answers l.fn.out (up_bytes l.fn.ep l.fn.up l.fn.lives.live) (filled_notes (up_fill l.fn.ep l.fn.up l.fn.lives.live)))
      l.live-iterator l.filled l.out;
  many : l.filled.requests + length l.live-iterator ≤ MAX_LIVE;
  some : HasSome l.fn.out l.out;
}
