-- What the loss of the device makes of what is kept, and what it sends and tells.
use Rattle.std.proofs.Common.{◌≡◌, ℕ, suc, ◌+◌, ◌-◌, ◌^◌, ◌≤◌, ◌&&◌, ◌||◌, Bool, true, false, cond, not, List, [], ◌∷◌, ◌++◌, length, map, Option, Some, None, refl, sym, ap, ◌∙◌, arith}
use Rattle.std.specs.Prelude.{is_none, filter, zip}
use Rattle.std.specs.List.{flat_map, last_or}
use Rattle.std.proofs.lemmas.Bool.{or_parts}
use Rattle.std.proofs.lemmas.List.{append-nil}
use Rattle.usbip_urb.specs.declared.client.ClientPacket.TheVariants.{Urb}
use Rattle.usbip_urb.specs.ClientPackets.{client_spelling}
use Rattle.usbip_urb.specs.Spelling.{spelling}
use Rattle.redir_data.specs.declared.packet.RedirPacket.{RedirPacket}
use Rattle.unlink_race.specs.declared.live.Live.{Live}
use Rattle.gate_history.specs.declared.note.Note.{Note}
use Rattle.gate_history.specs.declared.note.Note.TheVariants as note
use Rattle.gate_parts.specs.declared.write.outputs.Outputs.{Outputs}
use Rattle.gate_core.specs.declared.state.kept.Kept.{Kept}
use Rattle.usb_base.specs.Number.{capped}
use Rattle.gate_history.specs.step.Marks.{Submission, Fact, Effect}
use Rattle.gate_history.specs.state.Facts.{no_facts, tell}
use Rattle.gate_history.specs.state.Sides.{refused_at, leaves, is_loss, closes_host, imports, refuses_client, ends_client, turned}
use Rattle.gate_history.specs.client.Submits.{Pending, is_answered}
use Rattle.gate_history.specs.client.Ends.{ByLoss, ends, lost_answer}
use Rattle.gate_history.specs.state.Ids.{last_of}
use Rattle.gate_history.specs.state.Ups.{no_streams, is_ended, moved_streams}
use Rattle.gate_history.specs.write.Packets.{stops, asked_packets}
use Rattle.gate_history.specs.state.StreamIds.{stream_ids_after, moved_fence}
use Rattle.gate_history.specs.state.State.{State, submits, next_ids}
use Rattle.gate_history.specs.client.Verdict.{is_wire, goes_by_id}
use Rattle.gate_history.specs.step.Meaning.{mark_as, drawn_by}
use Rattle.gate_history.specs.write.Output.{present, cancels, cancel, acknowledgements, to_client}
use Rattle.gate_history.specs.write.Notes.{when, answer_notes, is_by_answer, refusal_notes, is_by_client, dropped}
use Rattle.gate_history.specs.write.All.{is_ret_submit, is_won_unlink}
use Rattle.redir_data.specs.Sent.{sent_packet_bytes}
use Rattle.gate_history.specs.step.Machine.{ask}
use Rattle.gate_parts.specs.state.Rows.{row_of, row, left_row, row_request, lost_bytes, is_asked_back}
use Rattle.gate_core.specs.inner.state.Holds.{Holds, Does, HasLost, lost_by}
use Rattle.gate_history.proofs.lemmas.Lists.{every, filter-same, filter-none}
use Rattle.gate_history.proofs.lemmas.host.Losses.{ends-lost, all-lost}
use Rattle.gate_history.proofs.lemmas.step.NoCancel.{stays-uncancelled}
use Rattle.gate_core.proofs.lemmas.step.Quiet.{capped-same, does-step, is_quiet, IsOver, over-is}

-- ---- the answers, by the rows

lost-packet : (s : Submission) (by : Option ℕ) → client_spelling (Urb (lost_answer s.request by)) ≡ spelling (lost_answer (row_request (row_of s by)) by)
lost-packet s None = refl
lost-packet s (Some by) = refl

lost-packets : (ps : List Pending) → flat_map client_spelling (map (λ p. Urb (lost_answer p.submit.request p.unlinker)) ps) ≡ flat_map lost_bytes (map row ps)
lost-packets [] = refl
lost-packets (p ∷ ps) = λ i. lost-packet p.submit p.unlinker i ++ lost-packets ps i

-- ---- how many they are

record Counted (ps : List Pending) : Type 0 where
  won : length (filter is_won_unlink (map (λ p. Urb (lost_answer p.submit.request p.unlinker)) ps)) ≡ length (filter is_asked_back (map row ps))
  all : length (filter is_ret_submit (map (λ p. Urb (lost_answer p.submit.request p.unlinker)) ps)) + length (filter is_asked_back (map row ps)) ≡ length (map row ps)

lost-counted : (ps : List Pending) → Counted ps
lost-counted [] = record { won = refl; all = refl }
lost-counted (p ∷ ps) =
    let rest = lost-counted ps in
    elim p.unlinker as (λ by. Counted (record p { unlinker = by } ∷ ps)) [
      | None ↦ record { won = rest.won; all = omega (arith, rest.all) }
      | Some by ↦ record { won = ap (λ (n : ℕ). suc n) rest.won; all = omega (arith, rest.all) }
    ]

-- how many submits are answered by the answers of their unlinks
abbrev pub backs : Kept → ℕ
backs old = length (filter is_asked_back old.lives.live)

pub lost-is : (n : ℕ) (old new : Kept) → HasLost n old new → n ≡ backs old → new ≡ lost_by (backs old) old
lost-is n old new h e = h.is ∙ ap (λ (k : ℕ). lost_by k old) e

-- ---- an effect that loses the device, and with which the client stays

module _ (st : State) (e : Effect) (told : Option Fact) (over : is_quiet e ≡ false) (loss : is_loss e ≡ true) (stays : leaves e ≡ false) where
  o : IsOver st e
  o = over-is st e over

  no-packets : asked_packets st.streams e ≡ []
  no-packets = o.asked ∙ ap (λ (b : Bool). cond b (stops (is_ended None) st.streams) []) stays

  no-ids : drawn_by st e ≡ []
  no-ids = ap (λ (ps : List RedirPacket). next_ids st (length ps)) no-packets

  no-cancel : (p : Pending) → cancels e p ≡ false
  no-cancel p = o.cancels_are p ∙ ap (λ (b : Bool). (is_wire p.submit.verdict && is_none p.unlinker) && b) stays ∙ stays-uncancelled p

  -- no submit passes a test that a lost one doesn't
  none-pass : (test : Pending → Bool) → ((p : Pending) → test p ≡ false) → (ps : List Pending) → filter test ps ≡ []
  none-pass test h ps = filter-same test (λ p. false) ps (every (λ p. test p ≡ false) h ps) ∙ filter-none ps

  ended : (p : Pending) → ends e p.submit ≡ Some ByLoss
  ended p = ends-lost st e p.submit loss

  pub lost-live : map row (map (ask e) (filter (λ p. is_none (ends e p.submit)) (present st e))) ≡ []
  lost-live = ap (λ (ps : List Pending). map row (map (ask e) ps)) (none-pass (λ p. is_none (ends e p.submit)) (λ p. ap is_none (ended p)) (present st e))

  pub lost-dropped : dropped st (mark_as st e told) ≡ []
  lost-dropped = ap (map (λ (p : Pending). p.submit)) (none-pass (λ p. is_by_client (ends e p.submit)) (λ p. ap is_by_client (ended p)) (present st e))

  pub lost-notes : answer_notes st e ≡ []
  lost-notes = ap (map (λ (p : Pending). note.Answered p.submit.request.seqnum)) (none-pass (λ p. is_by_answer (ends e p.submit)) (λ p. ap is_by_answer (ended p)) (present st e))

  pub lost-cancels : map cancel (filter (cancels e) st.live) ≡ []
  lost-cancels = ap (map cancel) (none-pass (cancels e) no-cancel st.live)

  -- what is kept, sent and told
  pub does-loss : (old new : Kept) (out_old out_new : Outputs) → Holds old st → old.dropped ≤ 2 ^ 64 - 1 →
      new ≡ record (lost_by (backs old) old) { sides = record old.sides { lost = true; host_over = turned closes_host (λ e. false) e old.sides.host_over } } →
      out_new.to_client ≡ out_old.to_client ++ flat_map lost_bytes old.lives.live →
      out_new.to_host ≡ out_old.to_host ++ flat_map (sent_packet_bytes old.sides.agreed) (acknowledgements old.sides.agreed e) →
      out_new.notes ≡ out_old.notes ++ (when (old.sides.imported && not old.sides.lost) note.DeviceGone ++ refusal_notes (refused_at e)) →
      Does st (mark_as st e told) old new out_old out_new
  does-loss old new out_old out_new h few is client host notes =
      let m = mark_as st e told in
      let count = lost-counted st.live in
      let both = or_parts (ends_client e) (refuses_client e) stays in
      let rows : length old.lives.live ≡ length (map row st.live) = ap length h.live in
      let back : length (filter is_asked_back old.lives.live) ≡ length (filter is_asked_back (map row st.live)) = ap (λ (ls : List Live). length (filter is_asked_back ls)) h.live in
      let answers = all-lost st m loss in
      let won = ap (λ ps. length (filter is_won_unlink ps)) answers ∙ count.won ∙ sym back in
      let done : length (filter is_ret_submit (to_client st m)) ≡ length old.lives.live - length (filter is_asked_back old.lives.live) =
      let some = ap (λ ps. length (filter is_ret_submit ps)) answers in omega (arith, some, count.all, rows, back) in
      does-step st m old new [] [] out_old out_new h
      (is ∙ (λ i. record (lost_by (backs old) old) {
        facts = cond (sym loss i) no_facts (tell old.facts told);
        sides = record {
          agreed = sym (o.no_caps old.sides.agreed) i;
          imported = cond (sym o.no_import i) true (cond (sym stays i) false old.sides.imported);
          lost = cond (sym loss i) true (cond (imports e) false old.sides.lost);
          client_over = cond (sym both.1 i) true (cond (sym both.0 i) false old.sides.client_over);
          host_over = turned closes_host (λ e. false) e old.sides.host_over;
        };
        streams = cond (sym stays i || sym loss i) no_streams (moved_streams e old.streams);
        stream_ids = stream_ids_after (zip (sym no-ids i) (sym no-packets i)) old.stream_ids;
        fence = cond (sym stays i) (last_or old.fence (drawn_by st e)) (cond (sym loss i) None (moved_fence e old.fence));
        last = last_of old.last (sym no-ids i);
        answered = capped (old.answered + sym done i);
        unlinked = capped (old.unlinked + sym won i);
        dropped = (capped-same old.dropped few ∙ ap (λ (ss : List Submission). capped (old.dropped + length ss)) (sym lost-dropped)) i;
      }))
      (sym lost-live)
      (λ i. map left_row (cond (sym stays i) (st.abandoned ++ filter (λ s. goes_by_id s.verdict) (submits st)) (cond (sym loss i) [] (filter (λ s. not (is_answered e s)) st.abandoned))))
      (client ∙ ap (λ (bs : List ℕ). out_old.to_client ++ bs) (ap (flat_map lost_bytes) h.live ∙ sym (lost-packets st.live) ∙ ap (flat_map client_spelling) (sym answers)))
      (host ∙ ap (λ (bs : List ℕ). out_old.to_host ++ bs)
      ((λ i. flat_map (sent_packet_bytes (h.sides i).agreed) (acknowledgements (h.sides i).agreed e))
      ∙ (λ i. flat_map (sent_packet_bytes st.sides.agreed) (sym lost-cancels i ++ zip (sym no-ids i) (sym no-packets i) ++ acknowledgements st.sides.agreed e))))
      (notes ∙ ap (λ (ns : List Note). out_old.notes ++ ns)
      (ap (λ (ns : List Note). ns ++ refusal_notes (refused_at e)) (sym (append-nil (when (old.sides.imported && not old.sides.lost) note.DeviceGone)))
      ∙ (λ i. (((sym o.no_notes i ++ sym lost-notes i) ++ when ((sym loss i && (h.sides i).imported) && not (h.sides i).lost) note.DeviceGone) ++ when (sym stays i && not st.sides.client_over) note.ClientGone) ++ refusal_notes (refused_at e))))
