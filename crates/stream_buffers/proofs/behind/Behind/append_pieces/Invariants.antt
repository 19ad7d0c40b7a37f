use Rattle.std.proofs.Common.{◌≡◌, ◌++◌}
use Rattle.std.specs.List.{flat_map}
use Rattle.usb_base.specs.Writes.{Begins}
use Rattle.stream_buffers.specs.Iso.{piece, pieces}
use Rattle.stream_buffers.proofs.Left.{left}
use Rattle.stream_buffers.proofs.behind.Behind.append_pieces.Given as goal

-- with the pieces of those that are left
abbrev pub invariant-loop-desc : goal.invariant-loop-desc
invariant-loop-desc l = record {
  begins : Begins l.fn.out l.out;
  sent : l.out ++ flat_map (λ x. piece x.0 x.1) (left l.desc-iterator) ≡ l.fn.out ++ pieces l.descs l.self;
}
