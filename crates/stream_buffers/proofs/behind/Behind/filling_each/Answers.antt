use Rattle.std.proofs.Common.{List, length, map, ap, arith}
use Rattle.std.specs.List.{flat_map}
use Rattle.usb_base.specs.declared.transfer.StreamPacket.{StreamPacket}
use Rattle.usbip_urb.specs.declared.packet.IsoDesc.{IsoDesc}
use Rattle.usbip_urb.specs.Errors.{errors_of}
use Rattle.stream_buffers.specs.Iso.{piece, filled}
use Rattle.stream_buffers.proofs.Left.{none_left}
use Rattle.stream_buffers.proofs.behind.Behind.filling_each.Goals as goal

pub returns : goal.returns
returns c =
    let none = none_left c.loop-desc.desc-iterator c.next.new.self c.in-None.ensures.steps in
    record {
      enough = c.requires.enough;
      done = omega (arith, c.loop-desc.invariant.done, ap (λ (xs : List (IsoDesc × StreamPacket)). length (flat_map (λ x. piece x.0 x.1) xs)) none);
      errors = omega (arith, c.loop-desc.invariant.errors, ap (λ (xs : List (IsoDesc × StreamPacket)). errors_of (map (λ x. filled x.0 x.1) xs)) none);
    }
