use Rattle.std.proofs.Common.{◌≡◌, ◌∙◌, ◌++◌, ◌∷◌, [], ℕ, List, Option, length, refl, sym, ap}
use Rattle.std.specs.Prelude.{zip, unwrap_or}
use Rattle.std.specs.List.{flat_map}
use Rattle.std.proofs.lemmas.List.{append-nil}
use Rattle.redir_data.specs.declared.packet.RedirPacket.{RedirPacket}
use Rattle.unlink_race.specs.declared.live.LiveKind.TheVariants as live_kind
use Rattle.gate_core.specs.declared.state.kept.Kept.{Kept}
use Rattle.gate_history.specs.declared.note.Note.TheVariants as note
use Rattle.gate_history.specs.state.Ids.{last_of}
use Rattle.gate_history.specs.state.State.{next_ids}
use Rattle.gate_history.specs.state.Ups.{Up, stream_at, raise}
use Rattle.gate_history.specs.write.Packets.{starts}
use Rattle.gate_history.specs.state.StreamIds.{stream_ids_after}
use Rattle.redir_data.specs.Sent.{sent_packet_bytes}
use Rattle.gate_parts.specs.state.Rows.{row_for}
use Rattle.gate_core.specs.inner.state.SentIds.{ids_after, with_ids, starts_of, start_id, started_with, bytes_of}
use Rattle.gate_core.proofs.lemmas.state.Ids.{ids-are, asked-are, started-is, started-last}
use Rattle.gate_core.proofs.lemmas.write.InTurn.{on-err}
use Rattle.gate_core.proofs.lemmas.client.Wait.{does-start}
use Rattle.gate_core.proofs.state.kept.Kept.start.Goals as goal

pub returns-clause-ok : goal.returns-clause-ok
returns-clause-ok c st h sound =
    let old = c.args.self.now in
    let r = c.args.request in
    let row = c.args.row in
    let ep = c.ep-ep.ensures in
    let starting : List RedirPacket = starts_of old r.transfer.ep row in
    let all : List RedirPacket = starts (stream_at st.streams r.transfer.ep) r.transfer.ep row in
    let same : starting ≡ all = ap (λ (ups : List (Option Up)). starts (stream_at ups r.transfer.ep) r.transfer.ep row) h.streams in
    let drawn : ids_after old old.last (length starting) ≡ next_ids st (length all) = ids-are old st h starting all same in
    let asked : with_ids old old.last starting ≡ zip (next_ids st (length all)) all = asked-are old st h starting all same in
    let id = c.in_ok-started.ensures.id ∙ ap (start_id old) ep in
    let begun : Option ℕ = start_id old r.transfer.ep in
    let live = c.row_for-live.ensures ∙ ap (λ (n : ℕ). row_for r (live_kind.Stream n row.interface) 0) ep in
    let begin : ℕ → Option ℕ → Kept = λ (n : ℕ) (o : Option ℕ). record old {
      streams = raise (record { ep = n; row = row; held = [] }) old.streams;
      stream_ids = started_with n o old.stream_ids;
      last = unwrap_or o old.last;
    } in
    let raised : c.raise.new.self ≡ begin r.transfer.ep begun = c.raise.ensures.raised.is ∙ (λ i. begin (ep i) (id i)) in
    does-start st sound r row old c.open.new.self (started_with r.transfer.ep begun old.stream_ids) (unwrap_or begun old.last) c.args.out.now c.write_start.new.to_host c.push.new.self h c.requires.kept
    c.requires.free.number_free c.requires.down
    (c.open.ensures.opened.is ∙ (λ i. record (raised i) {
      lives = record { live = (raised i).lives.live ++ live i ∷ []; abandoned = (raised i).lives.abandoned };
      last = (raised i).last;
    }))
    (started-is old r.transfer.ep row ∙ ap (λ l. stream_ids_after l old.stream_ids) asked)
    (started-last old r.transfer.ep row ∙ ap (last_of old.last) drawn)
    (c.in_ok-started.ensures.sent ∙ ap (λ (n : ℕ). c.args.out.now.to_host ++ bytes_of old old.last (starts_of old n row)) ep
    ∙ (λ i. c.args.out.now.to_host ++ flat_map (sent_packet_bytes (h.sides i).agreed) (asked i)))
    c.in_ok-push.ensures.ok

pub returns-in_err-push-clause-err : goal.returns-in_err-push-clause-err
returns-in_err-push-clause-err c = on-err c.from_residual.result _ (record {
  same = refl;
  client = record { more = []; is = sym (append-nil c.args.out.now.to_client) };
  host = record { more = []; is = sym (append-nil c.args.out.now.to_host) };
  notes = record { more = []; is = c.in_err-push.ensures.err ∙ sym (append-nil c.args.out.now.notes) };
})

pub returns-in_err-started-clause-err : goal.returns-in_err-started-clause-err
returns-in_err-started-clause-err c = on-err c.from_residual-in_err-started.result _ (record {
  same = refl;
  client = record { more = []; is = sym (append-nil c.args.out.now.to_client) };
  host = record { more = []; is = c.in_err-started.ensures.err ∙ sym (append-nil c.args.out.now.to_host) };
  notes = record { more = note.Submitted c.args.request.seqnum 0 ∷ []; is = c.in_ok-push.ensures.ok };
})
