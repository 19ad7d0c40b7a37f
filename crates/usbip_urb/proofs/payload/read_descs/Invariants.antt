use Rattle.std.proofs.Common.{◌≡◌, ◌++◌, ◌+◌, ◌-◌, ◌*◌, ◌/◌, length}
use Rattle.std.specs.Slice.Iter.{chunks_exact_rest, chunks_exact_size}
use Rattle.usbip_urb.specs.Fields.{descs_at}
use Rattle.usbip_urb.proofs.payload.read_descs.Given as goal

-- the descriptors so far, and those that are left
abbrev pub invariant-loop-desc : goal.invariant-loop-desc
invariant-loop-desc l = record {
  left : descs_at (length l.bytes / 16) l.bytes ≡ l.descs ++ descs_at (length l.bytes / 16 - length l.yielded) (chunks_exact_rest l.desc-iterator);
  rest : length (chunks_exact_rest l.desc-iterator) + length l.yielded * 16 ≡ length l.bytes;
  size : chunks_exact_size l.desc-iterator ≡ 16;
}
