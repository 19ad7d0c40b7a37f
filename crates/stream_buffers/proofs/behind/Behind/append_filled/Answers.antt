use Rattle.std.proofs.Common.{rules, ◌≡◌, ◌∷◌, ◌++◌, ◌∙◌, List, length, map, ap, arith}
use Rattle.usb_base.specs.declared.transfer.StreamPacket.{StreamPacket}
use Rattle.usbip_urb.specs.declared.packet.IsoDesc.{IsoDesc}
use Rattle.usbip_urb.specs.Spelling.{descs_bytes}
use Rattle.usbip_urb.specs.Sound.Descriptors.{desc_bytes}
use Rattle.stream_buffers.specs.Iso.{filled}
use Rattle.stream_buffers.proofs.Left.{left, none_left, begins_on, one_put, all_put}
use Rattle.stream_buffers.proofs.behind.Behind.append_filled.Goals as goal

pub loop-desc-preserved : goal.loop-desc-preserved
loop-desc-preserved c =
    let next : left c.loop-desc.desc-iterator ≡ (c.in-Some.desc.now, c.in-Some.packet.now) ∷ left c.next.new.self = search rules in
    let put = c.in_ok-push_desc.ensures ∙ ap (λ (d : IsoDesc). c.loop-desc.out ++ desc_bytes d) c.filled_by.ensures in
    record {
      begins = begins_on _ _ _ _ c.loop-desc.invariant.begins put;
      sent = one_put _ _ _ _ _ _ c.loop-desc.invariant.sent (ap (λ (xs : List (IsoDesc × StreamPacket)). descs_bytes (map (λ x. filled x.0 x.1) xs)) next) put;
      few = omega (arith, c.loop-desc.invariant.few, ap length c.in-Some.ensures.steps.0);
    }

pub returns-clause-sent : goal.returns-clause-sent
returns-clause-sent c =
    all_put _ _ _ c.loop-desc.invariant.sent
    (ap (λ (xs : List (IsoDesc × StreamPacket)). descs_bytes (map (λ x. filled x.0 x.1) xs)) (none_left c.loop-desc.desc-iterator c.next.new.self c.in-None.ensures.steps))
