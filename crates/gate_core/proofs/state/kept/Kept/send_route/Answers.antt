use Rattle.std.proofs.Common.{◌≡◌, ◌≤◌, ℕ, Some, List, [], ◌∷◌, ◌++◌, ◌+◌, not, length, refl, sym, ap, ◌∙◌, append_assoc, arith}
use Rattle.std.specs.Prelude.{filter, zip}
use Rattle.std.specs.List.{flat_map}
use Rattle.std.proofs.lemmas.List.{append-nil, length-append}
use Rattle.std.proofs.lemmas.List.Elements.{filter-append}
use Rattle.redir_data.specs.declared.packet.RedirPacket.{RedirPacket}
use Rattle.unlink_race.specs.declared.live.Live.{Live}
use Rattle.unlink_race.specs.declared.live.LiveKind.TheVariants as live_kind
use Rattle.unlink_race.specs.declared.live.StreamEnd.TheVariants.{Change}
use Rattle.unlink_race.specs.Searches.{ended_by}
use Rattle.gate_core.specs.declared.state.kept.Kept.{Kept}
use Rattle.gate_history.specs.declared.note.Note.TheVariants as note
use Rattle.gate_parts.specs.declared.state.stream_ids.SentIds.{SentIds}
use Rattle.usb_base.specs.Number.{capped}
use Rattle.usb_base.specs.declared.errno.TheConstants.{ESHUTDOWN}
use Rattle.gate_history.specs.state.Ids.{greatest, last_of}
use Rattle.gate_history.specs.declared.verdict.Verdict.TheVariants.{Routed}
use Rattle.gate_history.specs.state.Ups.{lower, is_ended}
use Rattle.gate_history.specs.state.Flight.{wide_ids}
use Rattle.gate_history.specs.write.Packets.{stops, route_packets}
use Rattle.gate_history.specs.state.StreamIds.{stream_ids_after}
use Rattle.gate_history.specs.step.Meaning.{drawn_for, submission}
use Rattle.redir_data.specs.Sent.{sent_packet_bytes}
use Rattle.gate_core.specs.inner.state.SentIds.{flying_in, ids_after, with_ids, stops_of, sent_ids_of, after_stops, bytes_of}
use Rattle.gate_parts.specs.state.Rows.{ended_bytes, row_for}
use Rattle.gate_history.proofs.lemmas.state.StreamIds.{last-any, route-silent}
use Rattle.gate_history.proofs.lemmas.state.Draws.{length-draws}
use Rattle.gate_core.proofs.lemmas.state.Ids.{ids-are, asked-are, stops-are}
use Rattle.gate_core.proofs.lemmas.write.InTurn.{last-more, bytes-more, stream_ids-silent, begins-after, on-err, leaves-client}
use Rattle.gate_core.proofs.lemmas.client.Change.{does-change}
use Rattle.gate_core.proofs.state.kept.Kept.send_route.Goals as goal

pub returns-clause-ok : goal.returns-clause-ok
returns-clause-ok c st h sound =
    let old = c.args.self.now in
    let r = c.args.request in
    let by = c.args.route in
    let v = Routed by in
    let s = submission st r v (drawn_for st r v) in
    let before : List RedirPacket = stops_of old (Some by) in
    let asks : List RedirPacket = route_packets by in
    let all : List RedirPacket = stops (is_ended (Some by)) st.streams ++ asks in
    let same : before ++ asks ≡ all = ap (λ (ps : List RedirPacket). ps ++ asks) (stops-are old st h (Some by)) in
    let stopped = c.in_ok-sent_ids.ensures.sent_ids in
    let some : 1 ≤ length (ids_after old old.last (length (before ++ asks))) =
    let n = length-draws (greatest (wide_ids old.sides.agreed)) (flying_in old) old.last (length (before ++ asks)) in
    omega (arith, n, length-append before asks, c.requires.some) in
    let last : c.in_ok-id.id ≡ last_of old.last (ids_after old old.last (length (before ++ asks))) =
    c.in_ok-id.ensures.id ∙ ap (λ (k : SentIds). last_of k.last (ids_after old k.last (length asks))) stopped ∙ sym (last-more old old.last before asks) in
    let drawn : ids_after old old.last (length (before ++ asks)) ≡ drawn_for st r v = ids-are old st h (before ++ asks) all same in
    let id : c.in_ok-id.id ≡ s.id = last ∙ last-any old.last 0 (ids_after old old.last (length (before ++ asks))) some ∙ ap (last_of 0) drawn in
    let asked : with_ids old old.last (before ++ asks) ≡ zip (drawn_for st r v) all = asked-are old st h (before ++ asks) all same in
    let opened : Live → Kept = λ (l : Live). record old {
      lives = record { live = filter (λ x. not (ended_by (Change by) x)) (old.lives.live ++ l ∷ []); abandoned = old.lives.abandoned };
      streams = lower (is_ended (Some by)) old.streams;
      stream_ids = c.in_ok-sent_ids.sent_ids.stream_ids;
      last = c.in_ok-id.id;
      answered = capped (old.answered + length (filter (ended_by (Change by)) (old.lives.live ++ l ∷ [])));
    } in
    let row : Live = row_for r (live_kind.Routed by) c.in_ok-id.id in
    does-change st sound r by old _ _ _ h c.requires.kept.unlinked_fits c.requires.kept.dropped_fits
    (c.end_streams.ensures.ended
    ∙ ap (λ (k : Kept). record k { streams = lower (is_ended (Some by)) k.streams; stream_ids = c.in_ok-sent_ids.sent_ids.stream_ids }) c.drop_ended.ensures.dropped.is
    ∙ ap (λ (k : Kept). record k {
      lives = record { live = filter (λ x. not (ended_by (Change by) x)) k.lives.live; abandoned = k.lives.abandoned };
      streams = lower (is_ended (Some by)) k.streams;
      stream_ids = c.in_ok-sent_ids.sent_ids.stream_ids;
      answered = capped (k.answered + length (filter (ended_by (Change by)) k.lives.live));
    }) c.open.ensures.opened.is
    ∙ ap opened c.row_for-live.ensures
    ∙ (λ i. record old {
      lives = record { live = filter-append (λ x. not (ended_by (Change by) x)) old.lives.live (row ∷ []) i; abandoned = old.lives.abandoned };
      streams = lower (is_ended (Some by)) old.streams;
      stream_ids = c.in_ok-sent_ids.sent_ids.stream_ids;
      last = c.in_ok-id.id;
      answered = capped (old.answered + length ((filter-append (ended_by (Change by)) old.lives.live (row ∷ []) ∙ append-nil (filter (ended_by (Change by)) old.lives.live)) i));
    })
    ∙ (λ i. record old {
      lives = record { live = filter (λ x. not (ended_by (Change by) x)) old.lives.live ++ row_for r (live_kind.Routed by) (id i) ∷ []; abandoned = old.lives.abandoned };
      streams = lower (is_ended (Some by)) old.streams;
      stream_ids = (ap (λ (k : SentIds). k.stream_ids) stopped ∙ sym (stream_ids-silent old before asks (route-silent by)) ∙ ap (λ l. stream_ids_after l old.stream_ids) asked) i;
      last = (last ∙ ap (last_of old.last) drawn) i;
      answered = capped (old.answered + length (filter (ended_by (Change by)) old.lives.live));
    }))
    c.in_ok-write_ends.ensures.ok
    (c.in_ok-id.ensures.sent ∙ (λ i. c.in_ok-sent_ids.ensures.sent i ++ bytes_of old (stopped i).last asks)
    ∙ append_assoc c.args.out.now.to_host (bytes_of old old.last before) (bytes_of old (after_stops old (sent_ids_of old) before).last asks)
    ∙ ap (λ (bs : List ℕ). c.args.out.now.to_host ++ bs) (sym (bytes-more old old.last before asks) ∙ ap (flat_map (sent_packet_bytes old.sides.agreed)) asked))
    (c.in_ok-push.ensures.ok ∙ ap (λ (n : ℕ). c.args.out.now.notes ++ note.Submitted r.seqnum n ∷ []) id)

pub returns-in_err-write_ends-clause-err : goal.returns-in_err-write_ends-clause-err
returns-in_err-write_ends-clause-err c = on-err c.from_residual.result _ (leaves-client c.args.self.now c.args.self.now c.args.out.now c.write_ends.new.to_client refl c.in_err-write_ends.ensures.err)

pub returns-in_err-sent_ids-clause-err : goal.returns-in_err-sent_ids-clause-err
returns-in_err-sent_ids-clause-err c = on-err c.from_residual-in_err-sent_ids.result _ (record {
  same = refl;
  client = record { more = flat_map (ended_bytes (Change c.args.route) ESHUTDOWN) c.args.self.now.lives.live; is = c.in_ok-write_ends.ensures.ok };
  host = c.in_err-sent_ids.ensures.err;
  notes = record { more = []; is = sym (append-nil c.args.out.now.notes) };
})

pub returns-in_err-id-clause-err : goal.returns-in_err-id-clause-err
returns-in_err-id-clause-err c = on-err c.from_residual-in_err-id.result _ (record {
  same = refl;
  client = record { more = flat_map (ended_bytes (Change c.args.route) ESHUTDOWN) c.args.self.now.lives.live; is = c.in_ok-write_ends.ensures.ok };
  host = begins-after c.args.out.now.to_host c.write_stops.new.to_host c.ask_route.new.to_host _ c.in_ok-sent_ids.ensures.sent c.in_err-id.ensures.err;
  notes = record { more = []; is = sym (append-nil c.args.out.now.notes) };
})

pub returns-in_err-push-clause-err : goal.returns-in_err-push-clause-err
returns-in_err-push-clause-err c = on-err c.from_residual-in_err-push.result _ (record {
  same = refl;
  client = record { more = flat_map (ended_bytes (Change c.args.route) ESHUTDOWN) c.args.self.now.lives.live; is = c.in_ok-write_ends.ensures.ok };
  host = begins-after c.args.out.now.to_host c.write_stops.new.to_host c.ask_route.new.to_host _ c.in_ok-sent_ids.ensures.sent (record { more = bytes_of c.args.self.now c.in_ok-sent_ids.sent_ids.last (route_packets c.args.route); is = c.in_ok-id.ensures.sent });
  notes = record { more = []; is = c.in_err-push.ensures.err ∙ sym (append-nil c.args.out.now.notes) };
})
