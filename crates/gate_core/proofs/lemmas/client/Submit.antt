-- What an accepted submit that ends no other makes of what is kept, and what it sends and tells.
use Rattle.std.proofs.Common.{◌≡◌, ℕ, ◌+◌, ◌^◌, ◌-◌, ◌<◌, ◌≤◌, eqb, Bool, true, false, cond, List, [], ◌∷◌, ◌++◌, length, map, Some, None, refl, sym, ap, ◌∙◌, arith}
use Rattle.std.specs.Prelude.{is_none, filter, zip}
use Rattle.std.specs.List.{flat_map}
use Rattle.std.proofs.lemmas.List.{map-append}
use Rattle.usbip_urb.specs.declared.client.ClientPacket.{ClientPacket}
use Rattle.usbip_urb.specs.declared.client.ClientPacket.TheVariants.{Urb}
use Rattle.usbip_urb.specs.ClientPackets.{client_spelling}
use Rattle.unlink_race.specs.declared.live.Live.{Live}
use Rattle.gate_history.specs.declared.note.Note.{Note}
use Rattle.gate_history.specs.declared.note.Note.TheVariants as note
use Rattle.gate_parts.specs.declared.write.outputs.Outputs.{Outputs}
use Rattle.gate_core.specs.declared.state.kept.Kept.{Kept}
use Rattle.usb_base.specs.Number.{capped}
use Rattle.gate_history.specs.declared.verdict.Verdict.{Verdict}
use Rattle.gate_history.specs.step.Marks.{Submission, Opens}
use Rattle.gate_history.specs.client.Submits.{Pending}
use Rattle.gate_history.specs.client.Ends.{ByStatus, at_once, is_touched, ends, answers_at}
use Rattle.gate_history.specs.state.Ids.{last_of}
use Rattle.gate_history.specs.state.Ups.{opened_streams}
use Rattle.gate_history.specs.state.StreamIds.{stream_ids_after}
use Rattle.gate_history.specs.state.State.{State}
use Rattle.gate_history.specs.write.Packets.{packets_of}
use Rattle.gate_history.specs.step.Meaning.{mark_as, drawn_for}
use Rattle.gate_history.specs.state.Sound.{IsSound}
use Rattle.gate_history.specs.write.Output.{fresh, answered}
use Rattle.gate_history.specs.write.Notes.{is_by_answer, is_by_client}
use Rattle.gate_history.specs.write.All.{is_ret_submit, is_won_unlink}
use Rattle.redir_data.specs.Sent.{sent_packet_bytes}
use Rattle.gate_parts.specs.state.Rows.{row}
use Rattle.gate_core.specs.inner.state.Holds.{Holds, Does}
use Rattle.gate_history.proofs.lemmas.Lists.{Each, Each-weaker}
use Rattle.gate_core.proofs.lemmas.step.Quiet.{capped-same, moved, does-quiet, none-answered}
use Rattle.gate_history.proofs.lemmas.step.Effects.{opening-left, opening-answered, opening-noted, opening-dropped}
use Rattle.gate_history.proofs.lemmas.step.NoCancel.{none-cancelled, stays-uncancelled}
use Rattle.usb_base.specs.declared.errno.TheConstants.{ESHUTDOWN}

other-place : (n m : ℕ) → m < n → eqb n m ≡ false
other-place n m h = grind arith

own-place : (n : ℕ) → eqb n n ≡ true
own-place n = grind arith

each-map : {X Y : Type 0} (P : Y → Type 0) (f : X → Y) (xs : List X) → Each P (map f xs) → Each (λ x. P (f x)) xs
each-map P f [] h = tt
each-map P f (x ∷ xs) h = (h.0, each-map P f xs h.1)

module _ (st : State) (s : Submission) (placed : s.place ≡ st.items) (sound : IsSound st) (spares : (v : Verdict) → is_touched s.verdict v ≡ false) where
  -- none of the others ends
  others : Each (λ p. ends (Opens s) p.submit ≡ None) st.live
  others =
      Each-weaker (λ p. p.submit.place < st.items) (λ p. ends (Opens s) p.submit ≡ None)
      (λ p h. ap (λ (b : Bool). cond b (at_once p.submit.verdict) (cond (is_touched s.verdict p.submit.verdict) (Some (ByStatus ESHUTDOWN)) None)) (other-place s.place p.submit.place (omega (arith, h, placed)))
      ∙ ap (λ (b : Bool). cond b (Some (ByStatus ESHUTDOWN)) None) (spares p.submit.verdict)) st.live
      (each-map (λ (t : Submission). t.place < st.items) (λ (p : Pending). p.submit) st.live sound.places)

  own : ends (Opens s) s ≡ at_once s.verdict
  own = ap (λ (b : Bool). cond b (at_once s.verdict) (cond (is_touched s.verdict s.verdict) (Some (ByStatus ESHUTDOWN)) None)) (own-place s.place)

  -- what is kept, sent and told, where so many more are live
  pub does-open : (old new : Kept) (more : List Pending) (out_old out_new : Outputs) → Holds old st →
      old.unlinked ≤ 2 ^ 64 - 1 → old.dropped ≤ 2 ^ 64 - 1 →
      cond (is_none (at_once s.verdict)) (fresh s ∷ []) [] ≡ more →
      is_by_answer (at_once s.verdict) ≡ false → is_by_client (at_once s.verdict) ≡ false →
      filter is_won_unlink (map Urb (answers_at s None (at_once s.verdict))) ≡ [] →
      new ≡ record old {
        lives = record { live = old.lives.live ++ map row more; abandoned = old.lives.abandoned };
        streams = opened_streams s.verdict s.request.transfer.ep old.streams;
        stream_ids = stream_ids_after (zip (drawn_for st s.request s.verdict) (packets_of st.streams s.verdict s.request)) old.stream_ids;
        last = last_of old.last (drawn_for st s.request s.verdict);
        answered = capped (old.answered + length (filter is_ret_submit (map Urb (answers_at s None (at_once s.verdict)))));
      } →
      out_new.to_client ≡ out_old.to_client ++ flat_map client_spelling (map Urb (answers_at s None (at_once s.verdict))) →
      out_new.to_host ≡ out_old.to_host ++ flat_map (sent_packet_bytes old.sides.agreed) (zip (drawn_for st s.request s.verdict) (packets_of st.streams s.verdict s.request)) →
      out_new.notes ≡ out_old.notes ++ note.Submitted s.request.seqnum s.id ∷ [] →
      Does st (mark_as st (Opens s) None) old new out_old out_new
  does-open old new more out_old out_new h unlinked_fits dropped_fits kept by_answer by_client none_won is client host notes =
      let e = Opens s in
      let sent : answered st e ≡ map Urb (answers_at s None (at_once s.verdict)) = opening-answered st s others own in
      does-quiet st e refl old new (old.lives.live ++ map row more) old.lives.abandoned (length (filter is_ret_submit (map Urb (answers_at s None (at_once s.verdict))))) 0 out_old out_new h dropped_fits
      (is ∙ (λ i. record (moved st e (old.lives.live ++ map row more) old.lives.abandoned (length (filter is_ret_submit (map Urb (answers_at s None (at_once s.verdict))))) 0 old) { unlinked = capped-same old.unlinked unlinked_fits i }))
      (ap (λ (ls : List Live). ls ++ map row more) h.live ∙ sym (map-append row st.live more) ∙ ap (map row) (ap (λ (ps : List Pending). st.live ++ ps) (sym kept) ∙ sym (opening-left st s others own)))
      (h.abandoned ∙ none-answered e st.abandoned (λ t. refl))
      (ap (λ (ps : List ClientPacket). length (filter is_ret_submit ps)) (sym sent)) (ap length (sym none_won) ∙ ap (λ (ps : List ClientPacket). length (filter is_won_unlink ps)) (sym sent))
      (opening-dropped st s others own by_client)
      (client ∙ ap (λ (ps : List ClientPacket). out_old.to_client ++ flat_map client_spelling ps) (sym sent))
      (host ∙ (λ i. out_old.to_host ++ flat_map (sent_packet_bytes (h.sides i).agreed) (sym (none-cancelled e stays-uncancelled st.live) i ++ zip (drawn_for st s.request s.verdict) (packets_of st.streams s.verdict s.request))))
      (notes ∙ ap (λ (ns : List Note). out_old.notes ++ note.Submitted s.request.seqnum s.id ∷ ns) (sym (opening-noted st s others own by_answer)))
