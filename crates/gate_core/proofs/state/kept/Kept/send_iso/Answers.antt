use Rattle.std.proofs.Common.{◌≡◌, ◌++◌, List, [], ◌∷◌, length, refl, sym, ap, ◌∙◌, append_assoc}
use Rattle.std.specs.Prelude.{ℕ, Option, zip, unwrap_or}
use Rattle.std.specs.List.{flat_map}
use Rattle.std.proofs.lemmas.List.{append-nil}
use Rattle.usbip_urb.specs.Spelling.{spelling}
use Rattle.usbip_urb.specs.declared.client.ClientPacket.TheVariants.{Urb}
use Rattle.redir_data.specs.declared.packet.RedirPacket.{RedirPacket}
use Rattle.gate_history.specs.declared.note.Note.TheVariants as note
use Rattle.gate_history.specs.state.Ups.{Up, stream_at, raise}
use Rattle.gate_history.specs.state.Ids.{last_of}
use Rattle.gate_history.specs.declared.verdict.Verdict.TheVariants.{IsoOut}
use Rattle.gate_history.specs.write.Packets.{starts, iso_packets}
use Rattle.gate_history.specs.state.StreamIds.{stream_ids_after}
use Rattle.gate_history.specs.step.Meaning.{drawn_for, submission}
use Rattle.gate_history.specs.write.Answers.{all_sent}
use Rattle.redir_data.specs.Sent.{sent_packet_bytes}
use Rattle.gate_core.specs.inner.state.SentIds.{ids_after, with_ids, starts_of, start_id, started_with, bytes_of}
use Rattle.gate_history.proofs.lemmas.state.StreamIds.{iso-silent}
use Rattle.gate_core.proofs.lemmas.state.Ids.{ids-are, asked-are, started-is, started-last}
use Rattle.gate_core.proofs.lemmas.write.InTurn.{last-more, bytes-more, stream_ids-silent, begins-after, on-err}
use Rattle.gate_core.proofs.lemmas.step.Steady.{one-reply}
use Rattle.gate_core.proofs.lemmas.client.Submit.{does-open}
use Rattle.gate_core.proofs.state.kept.Kept.send_iso.Goals as goal

pub returns-clause-ok : goal.returns-clause-ok
returns-clause-ok c st h sound =
    let old = c.args.self.now in
    let r = c.args.request.now in
    let ep = r.transfer.ep in
    let v = IsoOut c.args.row in
    let starting : List RedirPacket = starts_of old ep c.args.row in
    let isos : List RedirPacket = iso_packets r in
    let all : List RedirPacket = starts (stream_at st.streams ep) ep c.args.row ++ isos in
    let same : starting ++ isos ≡ all = ap (λ (ups : List (Option Up)). starts (stream_at ups ep) ep c.args.row ++ isos) h.streams in
    let id = c.in_ok-started.ensures.id in
    let begun : Option ℕ = start_id old ep in
    let before : c.unwrap_or-before.result ≡ last_of old.last (ids_after old old.last (length starting)) = c.unwrap_or-before.ensures ∙ ap (λ (o : Option ℕ). unwrap_or o old.last) id ∙ started-last old ep c.args.row in
    let drawn : ids_after old old.last (length (starting ++ isos)) ≡ drawn_for st r v = ids-are old st h (starting ++ isos) all same in
    let asked : with_ids old old.last (starting ++ isos) ≡ zip (drawn_for st r v) all = asked-are old st h (starting ++ isos) all same in
    let last = c.in_ok-last.ensures.last ∙ ap (λ (n : ℕ). last_of n (ids_after old n (length isos))) before ∙ sym (last-more old old.last starting isos) ∙ ap (last_of old.last) drawn in
    does-open st (submission st r v []) refl sound (λ v. refl) old _ [] _ _ h c.requires.kept.unlinked_fits c.requires.kept.dropped_fits refl refl refl refl
    ((λ i. record (c.raise.ensures.raised.is i) { last = c.in_ok-last.last }) ∙ (λ i. record old {
      lives = record { live = sym (append-nil old.lives.live) i; abandoned = old.lives.abandoned };
      streams = raise (record { ep = ep; row = c.args.row; held = [] }) old.streams;
      stream_ids = (ap (λ (o : Option ℕ). started_with ep o old.stream_ids) id ∙ started-is old ep c.args.row ∙ sym (stream_ids-silent old starting isos (iso-silent r)) ∙ ap (λ l. stream_ids_after l old.stream_ids) asked) i;
      last = last i;
      answered = c.saturating_add-self.ensures i;
    }))
    (one-reply c.args.out.now.to_client c.write_all_sent.new.out (Urb (all_sent r))
    (c.in_ok-write_all_sent.ensures.ok ∙ (λ i. c.args.out.now.to_client ++ spelling (all_sent (c.asked.ensures i)))))
    (c.in_ok-last.ensures.sent ∙ (λ i. c.in_ok-started.ensures.sent i ++ bytes_of old (before i) isos)
    ∙ append_assoc c.args.out.now.to_host (bytes_of old old.last starting) (bytes_of old (last_of old.last (ids_after old old.last (length starting))) isos)
    ∙ ap (λ (bs : List _). c.args.out.now.to_host ++ bs) (sym (bytes-more old old.last starting isos) ∙ ap (flat_map (sent_packet_bytes old.sides.agreed)) asked))
    c.in_ok-push.ensures.ok

pub returns-in_err-last-clause-err : goal.returns-in_err-last-clause-err
returns-in_err-last-clause-err c = on-err c.from_residual-in_err-last.result _ (record {
  same = refl;
  client = record { more = []; is = sym (append-nil c.args.out.now.to_client) };
  host = begins-after c.args.out.now.to_host c.write_start.new.to_host c.write_packets.new.to_host _ c.in_ok-started.ensures.sent c.in_err-last.ensures.err;
  notes = record { more = note.Submitted c.args.request.now.seqnum 0 ∷ []; is = c.in_ok-push.ensures.ok };
})

pub returns-in_err-write_all_sent-clause-err : goal.returns-in_err-write_all_sent-clause-err
returns-in_err-write_all_sent-clause-err c = on-err c.from_residual-in_err-write_all_sent.result _ (record {
  same = refl;
  client = record { more = []; is = c.in_err-write_all_sent.ensures.err ∙ sym (append-nil c.args.out.now.to_client) };
  host = begins-after c.args.out.now.to_host c.write_start.new.to_host c.write_packets.new.to_host _ c.in_ok-started.ensures.sent (record { more = bytes_of c.args.self.now c.unwrap_or-before.result (iso_packets c.args.request.now); is = c.in_ok-last.ensures.sent });
  notes = record { more = note.Submitted c.args.request.now.seqnum 0 ∷ []; is = c.in_ok-push.ensures.ok };
})
