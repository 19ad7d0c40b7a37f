-- Items by which the packets of a stream may fill requests: what they make of what is kept, and what they send and
-- tell.
use Rattle.std.proofs.Common.{◌≡◌, ℕ, ◌+◌, ◌^◌, ◌-◌, ◌≤◌, Bool, true, false, cond, List, [], ◌++◌, length, map, Option, Some, None, sym, refl, ap, ◌∙◌}
use Rattle.std.specs.Prelude.{filter, zip, slice_set, unwrap_or}
use Rattle.std.specs.Option.{option_map}
use Rattle.usb_base.specs.Endpoint.{endpoint_index}
use Rattle.std.specs.List.{flat_map}
use Rattle.std.proofs.lemmas.Bool.{false≢true}
use Rattle.std.proofs.lemmas.List.{append-nil}
use Rattle.usb_base.specs.declared.transfer.StreamPacket.{StreamPacket}
use Rattle.usbip_urb.specs.declared.client.ClientPacket.{ClientPacket}
use Rattle.usbip_urb.specs.declared.client.ClientPacket.TheVariants.{Urb}
use Rattle.usbip_urb.specs.ClientPackets.{client_spelling}
use Rattle.redir_wire.specs.declared.packet.Caps.{Caps}
use Rattle.redir_data.specs.declared.packet.RedirPacket.{RedirPacket}
use Rattle.unlink_race.specs.declared.live.Live.{Live}
use Rattle.unlink_race.specs.Searches.{waits_for}
use Rattle.gate_history.specs.declared.note.Note.{Note}
use Rattle.gate_parts.specs.declared.write.outputs.Outputs.{Outputs}
use Rattle.gate_core.specs.declared.state.kept.Kept.{Kept}
use Rattle.usb_base.specs.Number.{capped}
use Rattle.gate_history.specs.host.Fillings.{Filling, Fill, fill}
use Rattle.gate_history.specs.step.Marks.{Submission, Effect, Waits, Arrives}
use Rattle.gate_history.specs.state.Sides.{leaves, is_loss, imports, turned, agrees}
use Rattle.gate_history.specs.client.Submits.{Pending, asks, is_answered}
use Rattle.gate_history.specs.client.Ends.{ByClient, ByLoss, own_end, ends, packets_end, answers_at}
use Rattle.gate_history.specs.state.Ids.{last_of}
use Rattle.gate_history.specs.state.Ups.{Up, stream_at, hold, moved_streams}
use Rattle.gate_history.specs.write.Packets.{asked_packets}
use Rattle.gate_history.specs.state.StreamIds.{asking, stream_ids_after, moved_fence}
use Rattle.gate_history.specs.state.State.{State}
use Rattle.gate_history.specs.step.Meaning.{mark_as, drawn_by}
use Rattle.gate_history.specs.write.Output.{present, replies, cancels, to_client}
use Rattle.gate_history.specs.write.Notes.{came_notes, submit_notes, answer_notes, dropped}
use Rattle.gate_history.specs.write.All.{is_ret_submit, is_won_unlink}
use Rattle.redir_data.specs.Sent.{sent_packet_bytes}
use Rattle.gate_history.specs.step.Machine.{live_after}
use Rattle.gate_parts.specs.state.Rows.{row}
use Rattle.gate_parts.specs.host.Fill.{rows_fill, filled_bytes, filled_notes, waiting_rows, without_firsts, up_fill, up_bytes}
use Rattle.gate_parts.specs.write.Outputs.{with_answers}
use Rattle.gate_core.specs.inner.host.Fill.{HasEnded}
use Rattle.gate_core.specs.inner.state.Holds.{Holds, Does}
use Rattle.gate_history.proofs.lemmas.step.NoCancel.{none-cancelled, stays-uncancelled}
use Rattle.gate_core.proofs.lemmas.step.Quiet.{capped-same, is_quiet, does-quiet, none-answered}
use Rattle.gate_history.proofs.lemmas.step.Effects.{filled-left, filled-answered, filled-noted, filled-dropped}
use Rattle.gate_core.proofs.lemmas.host.Fill.{requests, waiters, fillings, FillsAll}
use Rattle.gate_parts.proofs.lemmas.state.Places.{set-twice}

abbrev pub may_fill : Effect → Bool
may_fill (Waits s f) = true
may_fill (Arrives ep f) = true
may_fill _ = false

record MayFill (st : State) (e : Effect) : Type 0 where
  quiet : is_quiet e ≡ true
  stays : leaves e ≡ false
  keeps : is_loss e ≡ false
  no_caps : (caps : Caps) → unwrap_or (agrees e) caps ≡ caps
  imported_same : (was : Bool) → turned imports leaves e was ≡ was
  lost_same : (was : Bool) → turned is_loss imports e was ≡ was
  answers_none : (s : Submission) → is_answered e s ≡ false
  no_reply : replies st e ≡ []
  no_asks : (s : Submission) → asks e s ≡ None
  no_cancel : (p : Pending) → cancels e p ≡ false
  no_fence : (fence : Option ℕ) → moved_fence e fence ≡ fence

may-fill : (st : State) (e : Effect) → may_fill e ≡ true → MayFill st e
may-fill st (Waits s f) h = record { quiet = refl; stays = refl; keeps = refl; no_caps = λ caps. refl; imported_same = λ was. refl; lost_same = λ was. refl; answers_none = λ t. refl; no_reply = refl; no_asks = λ t. refl; no_cancel = stays-uncancelled; no_fence = λ fence. refl }
may-fill st (Arrives ep f) h = record { quiet = refl; stays = refl; keeps = refl; no_caps = λ caps. refl; imported_same = λ was. refl; lost_same = λ was. refl; answers_none = λ t. refl; no_reply = refl; no_asks = λ t. refl; no_cancel = stays-uncancelled; no_fence = λ fence. refl }
may-fill st e h = absurd (false≢true h)

-- it ends those that these packets fill, and none but them
module _ (st : State) (e : Effect) (max_packet ep : ℕ) (packets : List StreamPacket) (may : may_fill e ≡ true)
    (fills : (s : Submission) → own_end e s ≡ packets_end ep (fillings max_packet (waiters ep (present st e)) packets) s) (all : FillsAll max_packet ep (present st e) packets) where
  l : MayFill st e
  l = may-fill st e may

  abbrev fs : List Filling
  fs = fillings max_packet (waiters ep (present st e)) packets

  ends-so : (s : Submission) → ends e s ≡ packets_end ep fs s
  ends-so s = λ i. cond (l.stays i) (Some ByClient) (cond (l.keeps i) (Some ByLoss) (fills s i))

  sent-so : to_client st (mark_as st e None) ≡ map Urb (flat_map (λ p. answers_at p.submit p.unlinker (packets_end ep fs p.submit)) (present st e))
  sent-so = λ i. l.no_reply i ++ filled-answered st e ep fs ends-so i

  left-so : map row (live_after st e) ≡ without_firsts (length fs) (waits_for ep) (map row (present st e))
  left-so = ap (map row) (filled-left st e ep fs ends-so l.no_asks) ∙ all.rows

  told-so : answer_notes st e ≡ filled_notes (fill max_packet (requests (waiters ep (present st e))) packets)
  told-so = filled-noted st e ep fs ends-so ∙ all.told

  undropped-so : dropped st (mark_as st e None) ≡ []
  undropped-so = filled-dropped st e ep fs ends-so ∙ ap (map (λ (p : Pending). p.submit)) all.undropped

  -- the rows of all that are there are these, and it tells this before the answers
  pub does-fill : (old new : Kept) (rows : List Live) (out_old out_new : Outputs) → Holds old st → old.unlinked ≤ 2 ^ 64 - 1 → old.dropped ≤ 2 ^ 64 - 1 →
      rows ≡ map row (present st e) →
      new ≡ record old {
        lives = record { live = without_firsts (length fs) (waits_for ep) rows; abandoned = old.lives.abandoned };
        streams = moved_streams e old.streams;
        stream_ids = stream_ids_after (zip (drawn_by st e) (asked_packets st.streams e)) old.stream_ids;
        last = last_of old.last (drawn_by st e);
        answered = capped (old.answered + length fs);
      } →
      out_new.to_client ≡ out_old.to_client ++ filled_bytes max_packet (waiting_rows ep rows) packets →
      out_new.to_host ≡ out_old.to_host ++ flat_map (sent_packet_bytes st.sides.agreed) (asking st.streams (mark_as st e None)) →
      out_new.notes ≡ out_old.notes ++ (came_notes e ++ submit_notes e ++ filled_notes (fill max_packet (requests (waiters ep (present st e))) packets)) →
      Does st (mark_as st e None) old new out_old out_new
  does-fill old new rows out_old out_new h unlinked_fits dropped_fits rows-are is client host notes =
      does-quiet st e l.quiet old new (without_firsts (length fs) (waits_for ep) rows) old.lives.abandoned (length fs) 0 out_old out_new h dropped_fits
      (is ∙ (λ i. record old {
        lives = record { live = without_firsts (length fs) (waits_for ep) rows; abandoned = old.lives.abandoned };
        sides = record old.sides {
          agreed = sym (l.no_caps old.sides.agreed) i;
          imported = sym (l.imported_same old.sides.imported) i;
          lost = sym (l.lost_same old.sides.lost) i;
        };
        streams = moved_streams e old.streams;
        stream_ids = stream_ids_after (asking st.streams (mark_as st e None)) old.stream_ids;
        fence = sym (l.no_fence old.fence) i;
        last = last_of old.last (drawn_by st e);
        answered = capped (old.answered + length fs);
        unlinked = capped-same old.unlinked unlinked_fits i;
      }))
      (ap (without_firsts (length fs) (waits_for ep)) rows-are ∙ sym left-so) (h.abandoned ∙ none-answered e st.abandoned l.answers_none)
      (sym (ap (λ (ps : List ClientPacket). length (filter is_ret_submit ps)) sent-so ∙ all.counted)) (ap length (sym (ap (filter is_won_unlink) sent-so ∙ all.won))) undropped-so
      (client ∙ ap (λ (bs : List ℕ). out_old.to_client ++ bs) (ap (λ (ls : List Live). filled_bytes max_packet (waiting_rows ep ls) packets) rows-are ∙ sym all.sent ∙ ap (flat_map client_spelling) (sym sent-so)))
      (host ∙ ap (λ (ps : List (ℕ × RedirPacket)). out_old.to_host ++ flat_map (sent_packet_bytes st.sides.agreed) (ps ++ asking st.streams (mark_as st e None))) (sym (none-cancelled e l.no_cancel st.live)))
      (notes ∙ ap (λ (ns : List Note). out_old.notes ++ (came_notes e ++ submit_notes e ++ ns)) (sym told-so))

  -- the same of a stream that is up, whose place was emptied meanwhile
  pub does-fill-up : (up up_new : Up) (old between mid new : Kept) (out_old out_new : Outputs) (f : Fill) → Holds old st → old.unlinked ≤ 2 ^ 64 - 1 → old.dropped ≤ 2 ^ 64 - 1 →
      stream_at old.streams ep ≡ Some up → up.row.max_packet ≡ max_packet →
      f ≡ fill max_packet (requests (waiters ep (present st e))) packets →
      drawn_by st e ≡ [] → moved_streams e old.streams ≡ hold ep f.left old.streams →
      between.lives.live ≡ map row (present st e) →
      between ≡ record old { lives = between.lives; streams = slice_set old.streams (endpoint_index ep) None } → between.lives.abandoned ≡ old.lives.abandoned →
      HasEnded ep (record up { held = packets }) up_new between mid →
      new ≡ record mid { streams = slice_set mid.streams (endpoint_index ep) (Some up_new) } →
      out_new ≡ with_answers out_old (up_bytes ep (record up { held = packets }) between.lives.live)
      (came_notes e ++ submit_notes e ++ filled_notes (up_fill ep (record up { held = packets }) between.lives.live)) →
      Does st (mark_as st e None) old new out_old out_new
  does-fill-up up up_new old between mid new out_old out_new f h unlinked_fits dropped_fits here size f-is no_ids moves rows-are between-is left-same ended is gives =
      let rows = between.lives.live in
      let filled : up_fill ep (record up { held = packets }) rows ≡ fill max_packet (requests (waiters ep (present st e))) packets =
      (λ i. rows_fill (size i) (waiting_rows ep (rows-are i)) packets) ∙ all.by_rows in
      let i = endpoint_index ep in
      let stands = λ (u : Up). slice_set old.streams i (Some u) in
      let streams-are : slice_set (slice_set old.streams i None) i (Some up_new) ≡ moved_streams e old.streams =
      set-twice old.streams i None (Some up_new)
      ∙ ap stands (ended.left ∙ ap (λ (x : Fill). record up { held = x.left }) (filled ∙ sym f-is))
      ∙ ap (λ (o : Option Up). slice_set old.streams i (option_map (λ (u : Up). record u { held = f.left }) o)) (sym here)
      ∙ sym moves in
      does-fill old new rows out_old out_new h unlinked_fits dropped_fits rows-are
      (is ∙ ap (λ (k : Kept). record k { streams = slice_set k.streams i (Some up_new) }) (ended.is ∙ ap (λ (k : Kept). record k {
        lives = record { live = without_firsts (length (up_fill ep (record up { held = packets }) rows).fillings) (waits_for ep) rows; abandoned = between.lives.abandoned };
        answered = capped (k.answered + length (up_fill ep (record up { held = packets }) rows).fillings);
      }) between-is)
      ∙ (λ j. record old {
        lives = record { live = without_firsts (length (filled j).fillings) (waits_for ep) rows; abandoned = left-same j };
        streams = streams-are j;
        stream_ids = stream_ids_after (zip (sym no_ids j) (asked_packets st.streams e)) old.stream_ids;
        last = last_of old.last (sym no_ids j);
        answered = capped (old.answered + length (filled j).fillings);
      }))
      (ap (λ (o : Outputs). o.to_client) gives ∙ ap (λ (n : ℕ). out_old.to_client ++ filled_bytes n (waiting_rows ep rows) packets) size)
      (ap (λ (o : Outputs). o.to_host) gives ∙ sym (append-nil out_old.to_host) ∙ ap (λ (ids : List ℕ). out_old.to_host ++ flat_map (sent_packet_bytes st.sides.agreed) (zip ids (asked_packets st.streams e))) (sym no_ids))
      (ap (λ (o : Outputs). o.notes) gives ∙ ap (λ (x : Fill). out_old.notes ++ (came_notes e ++ submit_notes e ++ filled_notes x)) filled)
