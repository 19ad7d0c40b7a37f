use Rattle.usbip_urb.specs.declared.packet.IsoDesc.{IsoDesc}
use Rattle.usb_base.specs.Number.{part}
use Rattle.std.proofs.Common.{◌≡◌, ◌+◌, ◌<◌, ◌++◌, ℕ, true, List, [], ◌∷◌, length, get_or, take, refl, sym, ap, subst, ◌∙◌, append_assoc, arith}
use Rattle.std.proofs.lemmas.List.{append-nil, take_all, length-map}
use Rattle.usbip_urb.specs.Buffers.{laid}
use Rattle.redir_data.specs.declared.packet.RedirPacket.{RedirPacket}
use Rattle.redir_data.specs.declared.packet.RedirData.TheVariants as data_packet
use Rattle.redir_data.specs.declared.packet.RedirPacket.TheVariants.{Carrying}
use Rattle.gate_history.specs.state.Ids.{draw, greatest, last_of}
use Rattle.gate_history.specs.state.Flight.{wide_ids}
use Rattle.gate_history.specs.write.Packets.{iso_packets}
use Rattle.redir_data.specs.Sent.{sent_packet_bytes}
use Rattle.gate_core.specs.inner.state.SentIds.{flying_in, ids_after, bytes_of}
use Rattle.gate_history.proofs.lemmas.write.Laid.{no_desc, few-stretch, stretch-packet, next-iso}
use Rattle.gate_core.proofs.lemmas.write.InTurn.{last-more, bytes-more}
use Rattle.gate_core.proofs.state.kept.Kept.write_packets.Goals as goal

pub write_iso_out-requires-clause-few : goal.write_iso_out-requires-clause-few
write_iso_out-requires-clause-few c =
    let r = c.args.request.now in
    let lies : laid r.descs (length c.as_slice-body.result.now) ≡ true = subst (λ (n : ℕ). laid r.descs n ≡ true) (sym (ap (λ (b : List ℕ). length b) c.as_slice-body.ensures ∙ c.requires.laid.whole)) c.requires.laid.lies in
    let few = few-stretch r.descs c.as_slice-body.result.now c.loop-place.place lies (omega (arith, c.len-place-end.ensures)) in
    omega (arith, ap (λ (b : List ℕ). length b) c.part-data.ensures, few)

pub loop-place-init : goal.loop-place-init
loop-place-init c = record { last = refl; sent = sym (append-nil c.args.to_host.now) }

pub loop-place-preserved : goal.loop-place-preserved
loop-place-preserved c =
    let t = c.args.self.now in
    let r = c.args.request.now in
    let k = c.loop-place.place in
    let m = greatest (wide_ids t.sides.agreed) in
    let f = flying_in t in
    let ep = r.transfer.ep in
    let here : k < length r.descs = omega (arith, c.len-place-end.ensures) in
    let lies : laid r.descs (length r.transfer.body) ≡ true = subst (λ (n : ℕ). laid r.descs n ≡ true) (sym c.requires.laid.whole) c.requires.laid.lies in
    let p : RedirPacket = Carrying (data_packet.Iso ep 0 (get_or r.descs k no_desc).length (part (get_or r.descs k no_desc).offset (get_or r.descs k no_desc).length r.transfer.body)) in
    let before : List RedirPacket = take k (iso_packets r) in
    let next : take (k + 1) (iso_packets r) ≡ before ++ p ∷ [] = next-iso (λ (d : IsoDesc). Carrying (data_packet.Iso ep 0 d.length (part d.offset d.length r.transfer.body))) r.descs k here in
    let same : ◌≡◌ {A = RedirPacket} (Carrying (data_packet.Iso ep 0 (length c.part-data.result.now) c.part-data.result.now)) p = stretch-packet ep r.descs r.transfer.body c.as_slice-body.result.now c.part-data.result.now k lies here c.as_slice-body.ensures c.part-data.ensures in
    let id = c.draw-id.ensures.value ∙ ap (draw m f) c.loop-place.invariant.last in
    record {
      last = id ∙ sym (last-more t c.args.last before (p ∷ [])) ∙ ap (λ (ps : List RedirPacket). last_of c.args.last (ids_after t c.args.last (length ps))) (sym next);
      sent = c.in_ok-write_iso_out.ensures.ok
          ∙ ap (λ (n : ℕ). c.loop-place.to_host ++ sent_packet_bytes t.sides.agreed (c.draw-id.result, Carrying (data_packet.Iso n 0 (length c.part-data.result.now) c.part-data.result.now))) c.byte.ensures.value
          ∙ (λ i. c.loop-place.invariant.sent i ++ sent_packet_bytes t.sides.agreed (id i, same i))
          ∙ append_assoc c.args.to_host.now (bytes_of t c.args.last before) _
          ∙ ap (λ (bs : List ℕ). c.args.to_host.now ++ bs) (ap (λ (bs : List ℕ). bytes_of t c.args.last before ++ bs) (sym (append-nil _)) ∙ sym (bytes-more t c.args.last before (p ∷ [])) ∙ ap (bytes_of t c.args.last) (sym next));
    }

pub returns-clause-sent : goal.returns-clause-sent
returns-clause-sent c =
    let r = c.args.request.now in
    let all = take_all c.loop-place.place (iso_packets r) (omega (arith, length-map r.descs (λ (d : IsoDesc). Carrying (data_packet.Iso r.transfer.ep 0 d.length (part d.offset d.length r.transfer.body))), c.len-place-end.ensures)) in
    c.loop-place.invariant.sent ∙ ap (λ (ps : List RedirPacket). c.args.to_host.now ++ bytes_of c.args.self.now c.args.last ps) all

pub returns-clause-last : goal.returns-clause-last
returns-clause-last c =
    let r = c.args.request.now in
    let all = take_all c.loop-place.place (iso_packets r) (omega (arith, length-map r.descs (λ (d : IsoDesc). Carrying (data_packet.Iso r.transfer.ep 0 d.length (part d.offset d.length r.transfer.body))), c.len-place-end.ensures)) in
    c.loop-place.invariant.last ∙ ap (λ (ps : List RedirPacket). last_of c.args.last (ids_after c.args.self.now c.args.last (length ps))) all
