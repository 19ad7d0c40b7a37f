-- What an unlink makes of what is kept, and what it sends and tells.
use Rattle.std.specs.Option.{option_or}
use Rattle.std.proofs.Common.{◌≡◌, ℕ, ◌+◌, ◌-◌, ◌^◌, ◌≤◌, ◌==◌, ◌&&◌, ◌||◌, Bool, true, false, cond, not, List, [], ◌∷◌, ◌++◌, length, map, Option, Some, None, pos, refl, sym, ap, ◌∙◌, arith}
use Rattle.std.specs.Prelude.{filter, is_none}
use Rattle.std.specs.List.{list_any, flat_map}
use Rattle.std.proofs.lemmas.List.{append-nil, length-map}
use Rattle.usbip_urb.specs.declared.client.ClientPacket.{ClientPacket}
use Rattle.usbip_urb.specs.declared.client.ClientPacket.TheVariants.{Urb}
use Rattle.usbip_urb.specs.ClientPackets.{client_spelling}
use Rattle.usbip_urb.specs.Spelling.{spelling}
use Rattle.redir_wire.specs.declared.packet.Caps.{Caps}
use Rattle.redir_wire.specs.declared.packet.RedirControl.TheVariants as plain
use Rattle.redir_data.specs.declared.packet.RedirPacket.TheVariants.{Plain}
use Rattle.unlink_race.specs.declared.live.Live.{Live}
use Rattle.unlink_race.specs.Searches.{has_number}
use Rattle.gate_history.specs.declared.note.Note.TheVariants as note
use Rattle.gate_parts.specs.declared.write.outputs.Outputs.{Outputs}
use Rattle.gate_core.specs.declared.state.kept.Kept.{Kept}
use Rattle.unlink_race.specs.declared.unlink.AskedBack.{AskedBack}
use Rattle.usb_base.specs.Number.{capped}
use Rattle.usb_base.specs.declared.errno.TheConstants.{ECONNRESET}
use Rattle.gate_history.specs.step.Marks.{Effect, Unlinks}
use Rattle.gate_history.specs.client.Submits.{Pending}
use Rattle.gate_history.specs.client.Ends.{ByUnlink, is_waiting, ends}
use Rattle.usbip_urb.specs.declared.packet.UrbPacket.{UrbPacket}
use Rattle.gate_history.specs.state.State.{State, is_number, submits}
use Rattle.gate_history.specs.step.Meaning.{mark_as}
use Rattle.gate_history.specs.state.Sound.{IsSound}
use Rattle.gate_history.specs.write.Answers.{ret_unlink}
use Rattle.gate_history.specs.write.Output.{is_target, is_taken, cancels, cancel}
use Rattle.gate_history.specs.write.All.{is_ret_submit, is_won_unlink}
use Rattle.redir_data.specs.Sent.{sent_packet_bytes}
use Rattle.gate_history.specs.step.Machine.{ask}
use Rattle.gate_parts.specs.state.Rows.{row, row_of}
use Rattle.gate_core.proofs.lemmas.client.AskedRows.{asked_row, is_taken_row, cancel_row, asked_rows, left_as, is_late, taken_count, taken_bytes, asked_bytes}
use Rattle.gate_core.specs.inner.state.Holds.{Holds, Does}
use Rattle.gate_history.proofs.lemmas.Lists.{Each, Each-weaker, filter-map}
use Rattle.gate_parts.proofs.lemmas.state.Rows.{wire-row, by_id-row}
use Rattle.gate_core.proofs.lemmas.step.Quiet.{capped-same, IsSilent}
use Rattle.gate_core.proofs.lemmas.client.WaitRows.{IsGoing, all-going, stream-row}
use Rattle.gate_core.proofs.lemmas.state.RequestEnds.{EndsSo, ends-so, stay-rows, counted-all, counted-none, does-ending}
use Rattle.gate_core.proofs.lemmas.client.UnlinkRows.{Told, is_found_row}

silent : (b : Bool) (p : ClientPacket) (test : ClientPacket → Bool) → test p ≡ false → filter test (cond b [] (p ∷ [])) ≡ []
silent true p test h = refl
silent false p test h = ap (λ (b : Bool). cond b (p ∷ []) []) h

unlinks-silent : (st : State) (by target : ℕ) → IsSilent st (Unlinks by target)
unlinks-silent st by target =
    let found : Bool = list_any (λ p. is_target target p || is_taken target p) st.live in
    let late : ClientPacket = Urb (ret_unlink by (pos 0)) in
    record { opens = refl; answers_none = λ s. refl; no_packets = refl; no_answer = silent found late is_ret_submit refl; none_won = silent found late is_won_unlink refl }

-- ---- those that wait for packets are taken back

module _ (by target : ℕ) where
  abbrev asks : Effect
  asks = Unlinks by target

  abbrev back : Live → UrbPacket
  back l = ret_unlink by ECONNRESET

  taken-so : (p : Pending) → IsGoing p → EndsSo asks (is_taken_row target) back p
  taken-so p going =
      ends-so asks (is_taken_row target) back p (is_waiting p.submit.verdict && (p.submit.request.seqnum == target)) (ByUnlink by) refl
      (ap (λ (b : Bool). b && (p.submit.request.seqnum == target)) (stream-row p going)) refl refl refl

  all-so : (st : State) → IsSound st → Each (EndsSo asks (is_taken_row target) back) st.live
  all-so st sound = Each-weaker IsGoing (EndsSo asks (is_taken_row target) back) taken-so st.live (all-going st sound)

-- ---- the rows are those of the submits

asked-rows : (by target : ℕ) (ps : List Pending) → map (asked_row target by) (map row ps) ≡ map row (map (ask (Unlinks by target)) ps)
asked-rows by target [] = refl
asked-rows by target (p ∷ ps) =
    λ i. row_of p.submit (option_or p.unlinker (cond (by_id-row p.submit p.unlinker i && (p.submit.request.seqnum == target)) (Some by) None)) ∷ asked-rows by target ps i

found-rows : (caps : Caps) (by target : ℕ) (ps : List Pending) → Each IsGoing ps → list_any (is_found_row caps target by) (map row ps) ≡ list_any (λ p. is_target target p || is_taken target p) ps
found-rows caps by target [] h = refl
found-rows caps by target (p ∷ ps) h =
    λ i. ((by_id-row p.submit p.unlinker i && (p.submit.request.seqnum == target) && is_none p.unlinker) || (stream-row p h.0 i && (p.submit.request.seqnum == target))) || found-rows caps by target ps h.1 i

cancelled-rows : (caps : Caps) (by target : ℕ) (ps : List Pending) → flat_map (cancel_row caps target) (map row ps) ≡ flat_map (sent_packet_bytes caps) (map cancel (filter (cancels (Unlinks by target)) ps))
cancelled-rows caps by target [] = refl
cancelled-rows caps by target (p ∷ ps) =
    (λ i. cond (wire-row p.submit.verdict p.submit.request.transfer.ep i && (by_id-row p.submit p.unlinker i && (p.submit.request.seqnum == target) && is_none p.unlinker)) (sent_packet_bytes caps (p.submit.id, Plain plain.Cancel)) [] ++ cancelled-rows caps by target ps i)
    ∙ elim (cancels (Unlinks by target) p) as (λ b. cond b (sent_packet_bytes caps (p.submit.id, Plain plain.Cancel)) [] ++ flat_map (sent_packet_bytes caps) (map cancel (filter (cancels (Unlinks by target)) ps))
    ≡ flat_map (sent_packet_bytes caps) (map cancel (cond b (p ∷ filter (cancels (Unlinks by target)) ps) (filter (cancels (Unlinks by target)) ps)))) [ true ↦ refl | false ↦ refl ]

pub one-numbered : (t : Kept) (st : State) (target : ℕ) → Holds t st → IsSound st → length (filter (has_number target) t.lives.live) ≤ 1
one-numbered t st target h sound =
    let here : List Pending = filter (λ p. p.submit.request.seqnum == target) st.live in
    let a : length (filter (has_number target) t.lives.live) ≡ length here =
    ap (λ (ls : List Live). length (filter (has_number target) ls)) h.live ∙ ap length (filter-map (has_number target) row st.live) ∙ length-map here row in
    let b : length (filter (is_number target) (submits st)) ≡ length here =
    ap length (filter-map (is_number target) (λ (p : Pending). p.submit) st.live) ∙ length-map here (λ (p : Pending). p.submit) in
    omega (arith, a, b, sound.numbers target)

-- ---- what is done

pub does-unlink : (st : State) (by target : ℕ) (told : Option AskedBack) (old new : Kept) (out_old out_new : Outputs) → Holds old st → IsSound st →
    old.answered ≤ 2 ^ 64 - 1 → old.dropped ≤ 2 ^ 64 - 1 → Told old.sides.agreed target by old.lives.live told →
    new ≡ record old { lives = record { live = left_as target by told old.lives.live; abandoned = old.lives.abandoned }; unlinked = capped (old.unlinked + taken_count told) } →
    out_new.to_client ≡ out_old.to_client ++ (cond (is_late told) (spelling (ret_unlink by (pos 0))) [] ++ taken_bytes by told) →
    out_new.to_host ≡ out_old.to_host ++ asked_bytes old.sides.agreed told →
    out_new.notes ≡ out_old.notes ++ note.UnlinkAsked by target ∷ [] →
    Does st (mark_as st (Unlinks by target) None) old new out_old out_new
does-unlink st by target told old new out_old out_new h sound answered_fits dropped_fits t is client host notes =
    let so = all-so by target st sound in
    let e : Effect = Unlinks by target in
    let found : Bool = list_any (λ p. is_target target p || is_taken target p) st.live in
    does-ending st e (is_taken_row target) (back by target) refl (unlinks-silent st by target) so old new (left_as target by told old.lives.live) 0 (taken_count told)
    out_old out_new h dropped_fits
    (counted-none e (is_taken_row target) (back by target) is_ret_submit (λ l. refl) st.live so)
    (counted-all e (is_taken_row target) (back by target) is_won_unlink (λ l. refl) st.live so ∙ ap (λ (ls : List Live). length (filter (is_taken_row target) ls)) (sym h.live) ∙ sym t.count)
    (t.rows ∙ ap (asked_rows target by) h.live ∙ ap (map (asked_row target by)) (sym (stay-rows e (is_taken_row target) (back by target) st.live so)) ∙ asked-rows by target (filter (λ p. is_none (ends e p.submit)) st.live))
    (is ∙ (λ i. record old {
      lives = record { live = left_as target by told old.lives.live; abandoned = old.lives.abandoned };
      answered = capped-same old.answered answered_fits i;
      unlinked = capped (old.unlinked + taken_count told);
    }))
    (client ∙ (λ i. out_old.to_client ++ (reply (is_late told) found (sym (found-rows old.sides.agreed by target st.live (all-going st sound)) ∙ ap (list_any (is_found_row old.sides.agreed target by)) (sym h.live) ∙ t.late) i ++ t.back i)))
    (host ∙ ap (λ (bs : List ℕ). out_old.to_host ++ bs) (t.bytes ∙ (λ i. flat_map (cancel_row (h.sides i).agreed target) (h.live i)) ∙ cancelled-rows st.sides.agreed by target st.live))
    notes
  where
    reply : (late found : Bool) → found ≡ not late → cond late (spelling (ret_unlink by (pos 0))) [] ≡ flat_map client_spelling (cond found [] (Urb (ret_unlink by (pos 0)) ∷ []))
    reply true found e = sym (append-nil (spelling (ret_unlink by (pos 0)))) ∙ ap (λ (b : Bool). flat_map client_spelling (cond b [] (Urb (ret_unlink by (pos 0)) ∷ []))) (sym e)
    reply false found e = ap (λ (b : Bool). flat_map client_spelling (cond b [] (Urb (ret_unlink by (pos 0)) ∷ []))) (sym e)
