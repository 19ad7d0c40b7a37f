use Rattle.std.proofs.Common.{◌≡◌, ◌<◌, ◌^◌, drop}
use Rattle.usbip_urb.specs.Buffers.{laid, laid_from}
use Rattle.usbip_urb.proofs.buffer.laid.Given as goal

-- what is left is laid behind the end of what was passed
abbrev pub invariant-loop-desc : goal.invariant-loop-desc
invariant-loop-desc l = record {
  left : laid l.descs l.length ≡ laid_from l.end (drop l.desc-index l.descs) l.length;
  in_range : l.end < 2 ^ 33;
}
