-- What a client's leaving makes of what is kept, and what it sends and tells.
use Rattle.std.proofs.Common.{◌≡◌, ℕ, ◌+◌, ◌^◌, ◌-◌, ◌≤◌, ◌&&◌, ◌||◌, Bool, true, false, cond, not, List, [], ◌++◌, length, map, None, refl, sym, ap, ◌∙◌}
use Rattle.std.specs.Prelude.{is_none, filter, zip}
use Rattle.std.specs.List.{flat_map, last_or}
use Rattle.std.proofs.lemmas.Bool.{false≢true}
use Rattle.std.proofs.lemmas.List.{append-nil, map-append, length-map}
use Rattle.usbip_urb.specs.declared.client.ClientPacket.{ClientPacket}
use Rattle.usbip_urb.specs.ClientPackets.{client_spelling}
use Rattle.redir_wire.specs.declared.packet.Caps.{Caps}
use Rattle.unlink_race.specs.declared.live.Live.{Live}
use Rattle.unlink_race.specs.Searches.{goes_by_id as is_answered_by_id}
use Rattle.gate_history.specs.declared.note.Note.{Note}
use Rattle.gate_history.specs.declared.note.Note.TheVariants as note
use Rattle.gate_parts.specs.declared.write.outputs.Outputs.{Outputs}
use Rattle.gate_core.specs.declared.state.kept.Kept.{Kept}
use Rattle.usb_base.specs.Number.{capped}
use Rattle.gate_history.specs.step.Marks.{Submission, Effect, Disconnects}
use Rattle.gate_history.specs.state.Facts.{no_facts}
use Rattle.gate_history.specs.state.Sides.{refused_at, leaves, is_loss, closes_host, refuses_client, ends_client, turned}
use Rattle.gate_history.specs.client.Submits.{Pending, is_answered}
use Rattle.std.proofs.lemmas.Grind.{flat_map-append}
use Rattle.redir_data.specs.declared.packet.RedirPacket.{RedirPacket}
use Rattle.gate_parts.specs.declared.state.stream_ids.SentIds.{SentIds}
use Rattle.gate_history.specs.state.Ups.{no_streams, is_ended, moved_streams}
use Rattle.gate_history.specs.write.Packets.{stops, asked_packets}
use Rattle.gate_history.specs.state.StreamIds.{stream_ids_after, moved_fence}
use Rattle.gate_history.specs.state.Ids.{last_of}
use Rattle.gate_history.specs.state.State.{State, submits}
use Rattle.gate_history.specs.client.Verdict.{is_wire, goes_by_id}
use Rattle.gate_history.specs.step.Meaning.{mark_as, drawn_by}
use Rattle.gate_history.specs.write.Output.{fresh, present, answered, cancels, cancel, acknowledgements, to_client}
use Rattle.gate_history.specs.write.Notes.{when, answer_notes, refusal_notes, dropped}
use Rattle.gate_history.specs.write.All.{is_ret_submit, is_won_unlink}
use Rattle.redir_data.specs.Sent.{sent_packet_bytes}
use Rattle.gate_history.specs.step.Machine.{live_after}
use Rattle.gate_parts.specs.state.Rows.{row, unmarked, left_row, cancel_bytes}
use Rattle.gate_core.proofs.lemmas.state.Ids.{HasParted}
use Rattle.gate_core.specs.inner.state.Holds.{Holds, Does, left_by}
use Rattle.gate_history.proofs.lemmas.step.Effects.{leaving-left, leaving-answered, leaving-noted, leaving-dropped}
use Rattle.gate_core.proofs.lemmas.step.Quiet.{capped-same, does-step, is_quiet, IsOver, over-is}
use Rattle.gate_parts.proofs.lemmas.state.Rows.{left-rows, cancel-rows}

-- ---- an effect with which the client is gone, and the device stays

and-true : (b : Bool) → (b && true) ≡ b
and-true true = refl
and-true false = refl

-- what loses no device
keeps-host : (caps : Caps) (e : Effect) → is_loss e ≡ false → (acknowledgements caps e ≡ []) × (closes_host e ≡ false)
keeps-host caps (Disconnects id) h = absurd (false≢true (sym h))
keeps-host caps e h = (refl, h)

pub leaving-cancels : (st : State) (e : Effect) → is_quiet e ≡ false → leaves e ≡ true → (p : Pending) → cancels e p ≡ (is_wire p.submit.verdict && is_none p.unlinker)
leaving-cancels st e over gone p = (over-is st e over).cancels_are p ∙ ap (λ (b : Bool). (is_wire p.submit.verdict && is_none p.unlinker) && b) gone ∙ and-true (is_wire p.submit.verdict && is_none p.unlinker)

pub leaving-asked : (st : State) (e : Effect) → is_quiet e ≡ false → leaves e ≡ true → asked_packets st.streams e ≡ stops (is_ended None) st.streams
leaving-asked st e over gone = (over-is st e over).asked ∙ ap (λ (b : Bool). cond b (stops (is_ended None) st.streams) []) gone

module _ (st : State) (e : Effect) (over : is_quiet e ≡ false) (gone : leaves e ≡ true) (keeps : is_loss e ≡ false) where
  o : IsOver st e
  o = over-is st e over

  left-live : map row (live_after st e) ≡ []
  left-live = ap (map row) (leaving-left st e gone)

  left-dropped : length (dropped st (mark_as st e None)) ≡ length st.live
  left-dropped =
      ap length (leaving-dropped st e gone) ∙ length-map (present st e) (λ (p : Pending). p.submit)
      ∙ ap length (ap (λ (ss : List Submission). st.live ++ map fresh ss) o.opens ∙ append-nil st.live)

  no-word : acknowledgements st.sides.agreed e ≡ []
  no-word = (keeps-host st.sides.agreed e keeps).0

  left-notes : answer_notes st e ≡ []
  left-notes = leaving-noted st e gone

  left-answers : to_client st (mark_as st e None) ≡ []
  left-answers = (λ i. o.silent i ++ answered st e) ∙ leaving-answered st e gone

  -- what is kept, sent and told
  pub does-leave : (c : SentIds) (old new : Kept) (out : Outputs) (host_new : List ℕ) (notes_new : List Note) → Holds old st → old.answered ≤ 2 ^ 64 - 1 → old.unlinked ≤ 2 ^ 64 - 1 → HasParted st e c →
      new ≡ record (left_by c old) { sides = record old.sides { imported = false; client_over = turned refuses_client ends_client e old.sides.client_over } } →
      host_new ≡ out.to_host ++ (flat_map (cancel_bytes old.sides.agreed) old.lives.live ++ flat_map (sent_packet_bytes old.sides.agreed) (zip (drawn_by st e) (asked_packets st.streams e))) →
      notes_new ≡ out.notes ++ (when (not old.sides.client_over) note.ClientGone ++ refusal_notes (refused_at e)) →
      Does st (mark_as st e None) old new out (record out { to_host = host_new; notes = notes_new })
  does-leave c old new out host_new notes_new h answered_fits unlinked_fits parted is host notes =
      let asking : List (ℕ × RedirPacket) = zip (drawn_by st e) (asked_packets st.streams e) in
      let lost = keeps-host st.sides.agreed e keeps in
      let abandoned : List Live = old.lives.abandoned ++ filter is_answered_by_id old.lives.live in
      does-step st (mark_as st e None) old new [] abandoned out (record out { to_host = host_new; notes = notes_new }) h
      (is ∙ (λ i. record (left_by c old) {
        facts = cond (sym keeps i) no_facts old.facts;
        sides = record {
          agreed = sym (o.no_caps old.sides.agreed) i;
          imported = cond (sym o.no_import i) true (cond (sym gone i) false old.sides.imported);
          lost = cond (sym keeps i) true (cond (sym o.no_import i) false old.sides.lost);
          client_over = turned refuses_client ends_client e old.sides.client_over;
          host_over = cond (sym lost.1 i) true old.sides.host_over;
        };
        streams = cond (sym gone i || is_loss e) no_streams (moved_streams e old.streams);
        stream_ids = (parted.stream_ids ∙ ap (stream_ids_after asking) (sym h.stream_ids)) i;
        fence = (parted.fence ∙ (λ j. cond (sym gone j) (last_or (sym h.fence j) (drawn_by st e)) (cond (is_loss e) None (moved_fence e (sym h.fence j))))) i;
        last = (parted.last ∙ ap (λ (n : ℕ). last_of n (drawn_by st e)) (sym h.last)) i;
        answered = (capped-same old.answered answered_fits ∙ ap (λ (ps : List ClientPacket). capped (old.answered + length (filter is_ret_submit ps))) (sym left-answers)) i;
        unlinked = (capped-same old.unlinked unlinked_fits ∙ ap (λ (ps : List ClientPacket). capped (old.unlinked + length (filter is_won_unlink ps))) (sym left-answers)) i;
        dropped = capped (old.dropped + (ap length h.live ∙ length-map st.live row ∙ sym left-dropped) i);
      }))
      (sym left-live)
      (map-append unmarked old.lives.abandoned (filter is_answered_by_id old.lives.live)
      ∙ (λ i. h.abandoned i ++ map unmarked (filter is_answered_by_id (h.live i)))
      ∙ ap (λ (ls : List Live). map left_row st.abandoned ++ ls) (left-rows st.live)
      ∙ sym (map-append left_row st.abandoned (filter (λ s. goes_by_id s.verdict) (submits st)))
      ∙ ap (λ (b : Bool). map left_row (cond b (st.abandoned ++ filter (λ s. goes_by_id s.verdict) (submits st)) (cond (is_loss e) [] (filter (λ s. not (is_answered e s)) st.abandoned)))) (sym gone))
      (sym (append-nil out.to_client) ∙ ap (λ (ps : List ClientPacket). out.to_client ++ flat_map client_spelling ps) (sym left-answers))
      (host ∙ ap (λ (bs : List ℕ). out.to_host ++ bs)
      ((λ i. flat_map (cancel_bytes (h.sides i).agreed) (h.live i) ++ flat_map (sent_packet_bytes (h.sides i).agreed) asking) ∙ ap (λ (bs : List ℕ). bs ++ flat_map (sent_packet_bytes st.sides.agreed) asking) (cancel-rows st.sides.agreed (cancels e) (leaving-cancels st e over gone) st.live)
      ∙ sym (flat_map-append (sent_packet_bytes st.sides.agreed) (map cancel (filter (cancels e) st.live)) asking)
      ∙ ap (flat_map (sent_packet_bytes st.sides.agreed)) (sym (append-nil (map cancel (filter (cancels e) st.live) ++ asking)) ∙ (λ i. (map cancel (filter (cancels e) st.live) ++ asking) ++ sym no-word i))))
      (notes ∙ ap (λ (ns : List Note). out.notes ++ ns)
      (λ i. (((sym o.no_notes i ++ sym left-notes i) ++ when ((sym keeps i && st.sides.imported) && not st.sides.lost) note.DeviceGone) ++ when (sym gone i && not (h.sides i).client_over) note.ClientGone) ++ refusal_notes (refused_at e)))
