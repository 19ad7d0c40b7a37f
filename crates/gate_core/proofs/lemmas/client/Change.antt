-- What a change of the device's interfaces makes of what is kept, and what it sends and tells: the requests that wait
-- for streams which it touches end with it.
use Rattle.std.proofs.Common.{◌≡◌, ℕ, ◌+◌, ◌^◌, ◌-◌, ◌<◌, ◌≤◌, eqb, Bool, true, false, cond, not, List, [], ◌∷◌, ◌++◌, length, map, Some, None, refl, sym, ap, ◌∙◌, arith}
use Rattle.std.specs.Prelude.{filter, zip}
use Rattle.std.specs.List.{flat_map}
use Rattle.std.proofs.lemmas.List.{append-nil, map-append}
use Rattle.std.proofs.lemmas.Grind.{flat_map-append}
use Rattle.usbip_urb.specs.declared.packet.UrbPacket.{UrbPacket}
use Rattle.usbip_urb.specs.declared.client.ClientPacket.TheVariants.{Urb}
use Rattle.usbip_urb.specs.ClientPackets.{client_spelling}
use Rattle.control_route.specs.declared.route.Route.{Route}
use Rattle.unlink_race.specs.declared.live.Live.{Live}
use Rattle.unlink_race.specs.declared.live.StreamEnd.TheVariants.{Change}
use Rattle.unlink_race.specs.Searches.{ended_by}
use Rattle.gate_history.specs.declared.note.Note.{Note}
use Rattle.gate_history.specs.declared.note.Note.TheVariants as note
use Rattle.gate_parts.specs.declared.write.outputs.Outputs.{Outputs}
use Rattle.gate_core.specs.declared.state.kept.Kept.{Kept}
use Rattle.usb_base.specs.Number.{capped}
use Rattle.usb_base.specs.declared.errno.TheConstants.{ESHUTDOWN}
use Rattle.gate_history.specs.declared.request.Request.{Request}
use Rattle.gate_history.specs.declared.verdict.Verdict.TheVariants.{Routed}
use Rattle.gate_history.specs.step.Marks.{Submission, Effect, Opens}
use Rattle.gate_history.specs.client.Submits.{Pending}
use Rattle.gate_history.specs.client.Ends.{ByStatus, at_once, ends, is_touched, answers_at}
use Rattle.gate_history.specs.state.Ids.{last_of}
use Rattle.gate_history.specs.state.Ups.{lower, is_ended}
use Rattle.gate_history.specs.state.StreamIds.{stream_ids_after}
use Rattle.gate_history.specs.state.State.{State}
use Rattle.gate_history.specs.write.Packets.{packets_of}
use Rattle.gate_history.specs.step.Meaning.{mark_as, drawn_for, submission}
use Rattle.gate_history.specs.state.Sound.{IsSound}
use Rattle.gate_history.specs.write.Answers.{without_packets}
use Rattle.gate_history.specs.write.Output.{fresh}
use Rattle.gate_history.specs.write.All.{is_ret_submit, is_won_unlink}
use Rattle.redir_data.specs.Sent.{sent_packet_bytes}
use Rattle.gate_history.specs.step.Machine.{live_after}
use Rattle.gate_parts.specs.state.Rows.{row, row_request, ended_bytes}
use Rattle.gate_core.specs.inner.state.Holds.{Holds, Does}
use Rattle.gate_history.proofs.lemmas.Lists.{Each, Each-weaker, filter-map, filter-same}
use Rattle.gate_core.proofs.lemmas.step.Quiet.{capped-same, moved, does-quiet, none-answered}
use Rattle.gate_history.proofs.lemmas.step.NoCancel.{none-cancelled, stays-uncancelled}
use Rattle.gate_history.proofs.lemmas.step.Effects.{change-left, change-noted, change-dropped}
use Rattle.gate_core.proofs.lemmas.client.WaitRows.{IsGoing, each-mapped, all-going, touched-row}
use Rattle.gate_core.proofs.lemmas.state.RequestEnds.{EndsSo, ends-so, ended_packets, ended-bytes, counted-all, counted-none}

other-place : (n m : ℕ) → m < n → eqb n m ≡ false
other-place n m h = grind arith

own-place : (n : ℕ) → eqb n n ≡ true
own-place n = grind arith

each-two : {X : Type 0} (P Q R : X → Type 0) → ((x : X) → P x → Q x → R x) → (xs : List X) → Each P xs → Each Q xs → Each R xs
each-two P Q R f [] h k = tt
each-two P Q R f (x ∷ xs) h k = (f x h.0 k.0, each-two P Q R f xs h.1 k.1)

module _ (st : State) (sound : IsSound st) (q : Request) (r : Route) where
  abbrev pub change : Submission
  change = submission st q (Routed r) (drawn_for st q (Routed r))

  abbrev e : Effect
  e = Opens change

  abbrev packet : Live → UrbPacket
  packet l = without_packets (row_request l) ESHUTDOWN

  abbrev So : Pending → Type 0
  So p = EndsSo e (ended_by (Change r)) packet p

  other-end : (p : Pending) → p.submit.place < st.items → ends e p.submit ≡ cond (is_touched (Routed r) p.submit.verdict) (Some (ByStatus ESHUTDOWN)) None
  other-end p placed =
      ap (λ (b : Bool). cond b (at_once p.submit.verdict) (cond (is_touched (Routed r) p.submit.verdict) (Some (ByStatus ESHUTDOWN)) None)) (other-place st.items p.submit.place placed)

  other-so : (p : Pending) → p.submit.place < st.items → IsGoing p → So p
  other-so p placed going = ends-so e (ended_by (Change r)) packet p (is_touched (Routed r) p.submit.verdict) (ByStatus ESHUTDOWN) (other-end p placed) (touched-row r p going) refl refl refl

  all-so : Each (EndsSo e (ended_by (Change r)) packet) st.live
  all-so =
      each-two (λ p. p.submit.place < st.items) IsGoing So other-so st.live
      (each-mapped (λ (s : Submission). s.place < st.items) (λ (p : Pending). p.submit) st.live sound.places) (all-going st sound)

  own : ends e change ≡ None
  own = ap (λ (b : Bool). cond b None (cond (is_touched (Routed r) (Routed r)) (Some (ByStatus ESHUTDOWN)) None)) (own-place st.items)

  abbrev touched : Pending → Bool
  touched p = is_touched (Routed r) p.submit.verdict

  others : Each (λ p. ends e p.submit ≡ cond (touched p) (Some (ByStatus ESHUTDOWN)) None) st.live
  others =
      Each-weaker (λ p. p.submit.place < st.items) (λ p. ends e p.submit ≡ cond (touched p) (Some (ByStatus ESHUTDOWN)) None) other-end st.live
      (each-mapped (λ (s : Submission). s.place < st.items) (λ (p : Pending). p.submit) st.live sound.places)

  live-rows : map row (live_after st e) ≡ filter (λ l. not (ended_by (Change r) l)) (map row st.live) ++ row (fresh change) ∷ []
  live-rows =
      ap (map row) (change-left st change touched (ByStatus ESHUTDOWN) others own)
      ∙ map-append row (filter (λ p. not (touched p)) st.live) (fresh change ∷ [])
      ∙ ap (λ (ls : List Live). ls ++ row (fresh change) ∷ [])
      (ap (map row) (filter-same (λ p. not (touched p)) (λ p. not (ended_by (Change r) (row p))) st.live
      (Each-weaker IsGoing (λ p. not (touched p) ≡ not (ended_by (Change r) (row p))) (λ p going. ap not (sym (touched-row r p going))) st.live (all-going st sound)))
      ∙ sym (filter-map (λ l. not (ended_by (Change r) l)) row st.live))

  change-sent : ended_packets e (ended_by (Change r)) packet (st.live ++ fresh change ∷ []) ≡ ended_packets e (ended_by (Change r)) packet st.live
  change-sent =
      flat_map-append (λ p. answers_at p.submit p.unlinker (ends e p.submit)) st.live (fresh change ∷ [])
      ∙ (λ i. ended_packets e (ended_by (Change r)) packet st.live ++ (answers_at change None (own i) ++ []))
      ∙ append-nil (ended_packets e (ended_by (Change r)) packet st.live)

  pub does-change : (old new : Kept) (out_old out_new : Outputs) → Holds old st →
      old.unlinked ≤ 2 ^ 64 - 1 → old.dropped ≤ 2 ^ 64 - 1 →
      new ≡ record old {
        lives = record { live = filter (λ l. not (ended_by (Change r) l)) old.lives.live ++ row (fresh change) ∷ []; abandoned = old.lives.abandoned };
        streams = lower (is_ended (Some r)) old.streams;
        stream_ids = stream_ids_after (zip (drawn_for st q (Routed r)) (packets_of st.streams (Routed r) q)) old.stream_ids;
        last = last_of old.last (drawn_for st q (Routed r));
        answered = capped (old.answered + length (filter (ended_by (Change r)) old.lives.live));
      } →
      out_new.to_client ≡ out_old.to_client ++ flat_map (ended_bytes (Change r) ESHUTDOWN) old.lives.live →
      out_new.to_host ≡ out_old.to_host ++ flat_map (sent_packet_bytes old.sides.agreed) (zip (drawn_for st q (Routed r)) (packets_of st.streams (Routed r) q)) →
      out_new.notes ≡ out_old.notes ++ note.Submitted q.seqnum change.id ∷ [] →
      Does st (mark_as st (Opens change) None) old new out_old out_new
  does-change old new out_old out_new h unlinked_fits dropped_fits is client host notes =
      let rows : List Live = filter (λ l. not (ended_by (Change r) l)) old.lives.live ++ row (fresh change) ∷ [] in
      let done = counted-all e (ended_by (Change r)) packet is_ret_submit (λ l. refl) st.live all-so in
      let won = counted-none e (ended_by (Change r)) packet is_won_unlink (λ l. refl) st.live all-so in
      does-quiet st e refl old new rows old.lives.abandoned (length (filter (ended_by (Change r)) old.lives.live)) 0 out_old out_new h dropped_fits
      (is ∙ (λ i. record (moved st e rows old.lives.abandoned (length (filter (ended_by (Change r)) old.lives.live)) 0 old) { unlinked = capped-same old.unlinked unlinked_fits i }))
      (ap (λ (ls : List Live). filter (λ l. not (ended_by (Change r) l)) ls ++ row (fresh change) ∷ []) h.live ∙ sym live-rows)
      (h.abandoned ∙ none-answered e st.abandoned (λ s. refl))
      (ap (λ (ls : List Live). length (filter (ended_by (Change r)) ls)) h.live ∙ sym done ∙ ap (λ (ps : List UrbPacket). length (filter is_ret_submit (map Urb ps))) (sym change-sent))
      (sym won ∙ ap (λ (ps : List UrbPacket). length (filter is_won_unlink (map Urb ps))) (sym change-sent))
      (change-dropped st change touched (ByStatus ESHUTDOWN) others own refl)
      (client ∙ ap (λ (bs : List ℕ). out_old.to_client ++ bs)
      (ap (flat_map (ended_bytes (Change r) ESHUTDOWN)) h.live ∙ sym (ended-bytes e (ended_by (Change r)) packet st.live all-so)
      ∙ ap (λ (ps : List UrbPacket). flat_map client_spelling (map Urb ps)) (sym change-sent)))
      (host ∙ (λ i. out_old.to_host ++ flat_map (sent_packet_bytes (h.sides i).agreed) (sym (none-cancelled e stays-uncancelled st.live) i ++ zip (drawn_for st q (Routed r)) (packets_of st.streams (Routed r) q))))
      (notes ∙ ap (λ (ns : List Note). out_old.notes ++ note.Submitted q.seqnum change.id ∷ ns) (sym (change-noted st change touched (ByStatus ESHUTDOWN) others own refl)))
