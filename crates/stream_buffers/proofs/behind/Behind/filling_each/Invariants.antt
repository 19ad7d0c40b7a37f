use Rattle.std.proofs.Common.{◌≡◌, ◌≤◌, ◌+◌, ◌*◌, ◌^◌, length, map}
use Rattle.std.specs.List.{flat_map}
use Rattle.std.specs.Iterator.Adapters.{zip_first}
use Rattle.std.specs.Slice.Iter.{iter_rest}
use Rattle.usbip_urb.specs.Errors.{errors_of}
use Rattle.stream_buffers.specs.Iso.{piece, pieces, filled, all_filled}
use Rattle.stream_buffers.proofs.Left.{left}
use Rattle.stream_buffers.proofs.behind.Behind.filling_each.Given as goal

-- with those that are left
abbrev pub invariant-loop-desc : goal.invariant-loop-desc
invariant-loop-desc l = record {
  done : l.done + length (flat_map (λ x. piece x.0 x.1) (left l.desc-iterator)) ≡ length (pieces l.descs l.self);
  errors : l.errors + errors_of (map (λ x. filled x.0 x.1) (left l.desc-iterator)) ≡ errors_of (all_filled l.descs l.self);
  few_bytes : l.done + 2 ^ 32 * length (iter_rest (zip_first l.desc-iterator)) ≤ 2 ^ 32 * length l.descs;
  few_errors : l.errors + length (iter_rest (zip_first l.desc-iterator)) ≤ length l.descs;
}
