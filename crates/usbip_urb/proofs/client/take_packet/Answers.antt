use Rattle.std.proofs.Common.{Ok, ap, subst, sym, refl, ◌∙◌}
use Rattle.std.specs.Int.{w16}
use Rattle.std.proofs.lemmas.Bool.{ne_eqb}
use Rattle.usb_base.specs.Number.{be_at}
use Rattle.usb_base.specs.declared.reason.Reason.{Reason}
use Rattle.packet_stream.specs.declared.read.Read.{Read}
use Rattle.packet_stream.specs.Format.{Found, reading}
use Rattle.packet_stream.specs.Reads.{Answers}
use Rattle.packet_stream.proofs.Joins.{found_as}
use Rattle.usbip_urb.specs.declared.client.ClientPacket.{ClientPacket}
use Rattle.usbip_urb.specs.declared.client.ClientPacket.TheVariants.{Urb}
use Rattle.usbip_urb.specs.declared.packet.UrbPacket.{UrbPacket}
use Rattle.usbip_urb.specs.ClientPackets.{takes_memory}
use Rattle.usbip_urb.specs.Heap.{takes_memory as urb_takes_memory}
use Rattle.usbip_urb.specs.Requests.{requests}
use Rattle.usbip_urb.proofs.ClientPackets.{urb_reading, handed_on}
use Rattle.usbip_urb.proofs.client.take_packet.Goals as goal

pub returns-in_err-request-clause-exact : goal.returns-in_err-request-clause-exact
returns-in_err-request-clause-exact g c =
    let b = g.B.PacketBytes.contents c.args.bytes.now in
    let other = ne_eqb (be_at w16 0 b) 0x0111 (λ e. c.if-be_u16_at-eq-USBIP_VERSION.false (c.be_u16_at.ensures ∙ ap (be_at w16 0) c.as_slice-front.ensures ∙ e)) in
    let r = c.from_residual.result in
    subst (λ (x : Found ClientPacket Reason). Answers takes_memory r x) (sym (urb_reading b other))
    (handed_on urb_takes_memory takes_memory Urb (λ p. refl) c.in_err-request.field-0.0 r (reading requests b) c.from_residual.ensures.1 c.in_err-request.ensures.exact)

pub returns-in-Whole-clause-exact : goal.returns-in-Whole-clause-exact
returns-in-Whole-clause-exact g c =
    let b = g.B.PacketBytes.contents c.args.bytes.now in
    let other = ne_eqb (be_at w16 0 b) 0x0111 (λ e. c.if-be_u16_at-eq-USBIP_VERSION.false (c.be_u16_at.ensures ∙ ap (be_at w16 0) c.as_slice-front.ensures ∙ e)) in
    urb_reading b other ∙ ap (found_as Urb) (subst (λ (r : Read UrbPacket). Answers {P = UrbPacket} urb_takes_memory (Ok r) (reading requests b)) c.in-Whole.is c.in_ok-request.ensures.exact)

pub returns-in-Short-clause-exact : goal.returns-in-Short-clause-exact
returns-in-Short-clause-exact g c =
    let b = g.B.PacketBytes.contents c.args.bytes.now in
    let other = ne_eqb (be_at w16 0 b) 0x0111 (λ e. c.if-be_u16_at-eq-USBIP_VERSION.false (c.be_u16_at.ensures ∙ ap (be_at w16 0) c.as_slice-front.ensures ∙ e)) in
    urb_reading b other ∙ ap (found_as Urb) (subst (λ (r : Read UrbPacket). Answers {P = UrbPacket} urb_takes_memory (Ok r) (reading requests b)) c.in-Short.is c.in_ok-request.ensures.exact)
