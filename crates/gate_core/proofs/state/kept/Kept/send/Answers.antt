use Rattle.std.proofs.Common.{◌≡◌, ℕ, List, [], ◌∷◌, ◌++◌, refl, sym, ap, ◌∙◌}
use Rattle.std.proofs.lemmas.List.{append-nil}
use Rattle.unlink_race.specs.declared.live.LiveKind.TheVariants as live_kind
use Rattle.gate_history.specs.declared.note.Note.TheVariants as note
use Rattle.gate_parts.specs.state.Rows.{row_for}
use Rattle.gate_core.proofs.lemmas.step.Quiet.{capped-same}
use Rattle.gate_history.specs.declared.verdict.Verdict.TheVariants.{Wire}
use Rattle.gate_history.specs.state.Ids.{draw, greatest}
use Rattle.gate_history.specs.state.Flight.{wide_ids}
use Rattle.gate_history.specs.state.State.{flying, next_ids}
use Rattle.gate_history.specs.write.Packets.{wire_packet}
use Rattle.gate_history.specs.step.Meaning.{submission}
use Rattle.gate_history.specs.write.Output.{fresh}
use Rattle.redir_data.specs.Sent.{sent_packet_bytes}
use Rattle.gate_history.proofs.lemmas.client.Carried.{can_be_written}
use Rattle.gate_history.proofs.lemmas.state.StreamIds.{stream_ids_after-silent, wire-silent}
use Rattle.gate_core.proofs.lemmas.state.Ids.{draw-is}
use Rattle.gate_core.proofs.lemmas.client.Submit.{does-open}
use Rattle.gate_core.proofs.state.kept.Kept.send.Goals as goal

pub move_data-requires : goal.move_data-requires
move_data-requires c =
    can_be_written c.draw-id.result c.args.self.now.sides.agreed c.args.pipe c.args.request.transfer c.wire_packet-packet.result c.draw-id.ensures.fits c.requires.sent c.wire_packet-packet.ensures

pub returns-clause-ok : goal.returns-clause-ok
returns-clause-ok c st h sound =
    let old = c.args.self.now in
    let r = c.args.request in
    let v = Wire c.args.pipe in
    let s = submission st r v (next_ids st 1) in
    let id : c.draw-id.result ≡ draw (greatest (wide_ids st.sides.agreed)) (flying st) st.last = c.draw-id.ensures.value ∙ draw-is old st h in
    does-open st s refl sound (λ v. refl) old _ (fresh s ∷ []) _ _ h c.requires.kept.unlinked_fits c.requires.kept.dropped_fits refl refl refl refl
    (c.open.ensures.opened.is ∙ (λ i. record old {
      lives = record { live = old.lives.live ++ row_for r (live_kind.Wire r.transfer.ep (c.kind.ensures i)) (id i) ∷ []; abandoned = old.lives.abandoned };
      stream_ids = sym (stream_ids_after-silent (id i ∷ []) (wire_packet c.args.pipe r.transfer ∷ []) old.stream_ids (wire-silent c.args.pipe r.transfer, tt)) i;
      last = id i;
      answered = capped-same old.answered c.requires.kept.answered_fits i;
    }))
    (sym (append-nil c.args.out.now.to_client))
    (c.in_ok-move_data.ensures.ok ∙ (λ i. c.args.out.now.to_host ++ sent_packet_bytes old.sides.agreed (id i, c.wire_packet-packet.ensures i))
    ∙ ap (λ (bs : List ℕ). c.args.out.now.to_host ++ bs) (sym (append-nil (sent_packet_bytes old.sides.agreed (draw (greatest (wide_ids st.sides.agreed)) (flying st) st.last, wire_packet c.args.pipe r.transfer)))))
    (c.in_ok-push.ensures.ok ∙ ap (λ (n : ℕ). c.args.out.now.notes ++ note.Submitted r.seqnum n ∷ []) id)
