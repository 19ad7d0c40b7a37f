-- What an effect that ends no submit and opens none makes of what is kept, and what it sends and tells.
use Rattle.std.proofs.Common.{◌≡◌, ℕ, ◌^◌, ◌-◌, ◌≤◌, Bool, true, false, List, [], ◌∷◌, ◌++◌, length, map, Option, None, refl, sym, ap, ◌∙◌}
use Rattle.std.specs.Prelude.{is_none, filter}
use Rattle.std.specs.List.{flat_map}
use Rattle.std.proofs.lemmas.List.{append-nil}
use Rattle.usbip_urb.specs.declared.client.ClientPacket.{ClientPacket}
use Rattle.usbip_urb.specs.declared.client.ClientPacket.TheVariants.{Urb}
use Rattle.usbip_urb.specs.ClientPackets.{client_spelling}
use Rattle.redir_wire.specs.declared.packet.Caps.{Caps}
use Rattle.redir_data.specs.declared.packet.RedirPacket.{RedirPacket}
use Rattle.unlink_race.specs.declared.live.Live.{Live}
use Rattle.gate_history.specs.declared.note.Note.TheVariants as note
use Rattle.gate_parts.specs.declared.write.outputs.Outputs.{Outputs}
use Rattle.gate_core.specs.declared.state.kept.Kept.{Kept}
use Rattle.gate_history.specs.step.Marks.{Submission, Effect, Idle}
use Rattle.gate_history.specs.client.Submits.{Pending, asks}
use Rattle.gate_history.specs.client.Ends.{End, ends, answers_at}
use Rattle.gate_history.specs.state.State.{State}
use Rattle.gate_history.specs.step.Meaning.{mark_as}
use Rattle.gate_history.specs.write.Output.{present, answered, replies, cancels, cancel}
use Rattle.gate_history.specs.write.Notes.{came_notes, submit_notes, is_by_answer, is_by_client}
use Rattle.gate_history.specs.write.All.{is_ret_submit, is_won_unlink}
use Rattle.redir_data.specs.Sent.{sent_packet_bytes}
use Rattle.gate_history.specs.step.Machine.{ask}
use Rattle.gate_parts.specs.state.Rows.{row}
use Rattle.gate_core.specs.inner.state.Holds.{Holds, Does}
use Rattle.gate_history.proofs.lemmas.Lists.{every, filter-same, filter-none, filter-all, flat_map-same, flat_map-none}
use Rattle.gate_history.proofs.lemmas.step.NoCancel.{asks-none, none-cancelled, stays-uncancelled}
use Rattle.gate_core.proofs.lemmas.step.Quiet.{capped-same, is_quiet, IsSilent, moved_alone, none-opened, does-silent, silent-is}

module _ (st : State) (e : Effect) (quiet : is_quiet e ≡ true) (s : IsSilent st e) (ends-none : (t : Submission) → ends e t ≡ None) where
  by_test : (test : Option End → Bool) (answer : Bool) → test None ≡ answer → filter (λ p. test (ends e p.submit)) (present st e) ≡ filter (λ p. answer) st.live
  by_test test answer h =
      ap (filter (λ p. test (ends e p.submit))) (none-opened st e quiet s)
      ∙ filter-same (λ p. test (ends e p.submit)) (λ p. answer) st.live (every (λ p. test (ends e p.submit) ≡ answer) (λ p. ap test (ends-none p.submit) ∙ h) st.live)

  unanswered : answered st e ≡ []
  unanswered =
      ap (map Urb) (ap (flat_map (λ p. answers_at p.submit p.unlinker (ends e p.submit))) (none-opened st e quiet s)
      ∙ flat_map-same (λ p. answers_at p.submit p.unlinker (ends e p.submit)) (λ p. []) st.live
      (every (λ p. answers_at p.submit p.unlinker (ends e p.submit) ≡ []) (λ p. ap (answers_at p.submit p.unlinker) (ends-none p.submit)) st.live)
      ∙ flat_map-none st.live)

  pub does-steady : (old new : Kept) (lives : List Live) (out_old out_new : Outputs) → Holds old st →
      old.answered ≤ 2 ^ 64 - 1 → old.unlinked ≤ 2 ^ 64 - 1 → old.dropped ≤ 2 ^ 64 - 1 →
      lives ≡ map row (map (ask e) st.live) →
      new ≡ record (moved_alone e lives 0 0 old) { answered = old.answered; unlinked = old.unlinked } →
      out_new.to_client ≡ out_old.to_client ++ flat_map client_spelling (replies st e) →
      out_new.to_host ≡ out_old.to_host ++ flat_map (sent_packet_bytes st.sides.agreed) (map cancel (filter (cancels e) st.live)) →
      out_new.notes ≡ out_old.notes ++ (came_notes e ++ submit_notes e) →
      Does st (mark_as st e None) old new out_old out_new
  does-steady old new lives out_old out_new h answered_fits unlinked_fits dropped_fits asked is client host notes =
      does-silent st e quiet s old new lives 0 0 out_old out_new h dropped_fits
      (is ∙ (λ i. record (moved_alone e lives 0 0 old) { answered = capped-same old.answered answered_fits i; unlinked = capped-same old.unlinked unlinked_fits i }))
      (asked ∙ ap (λ (ps : List Pending). map row (map (ask e) ps)) (sym (by_test is_none true refl ∙ filter-all st.live)))
      (ap (λ (ps : List ClientPacket). length (filter is_ret_submit ps)) (sym unanswered)) (ap (λ (ps : List ClientPacket). length (filter is_won_unlink ps)) (sym unanswered))
      (ap (map (λ (p : Pending). note.Answered p.submit.request.seqnum)) (by_test is_by_answer false refl ∙ filter-none st.live))
      (ap (map (λ (p : Pending). p.submit)) (by_test is_by_client false refl ∙ filter-none st.live))
      (client ∙ ap (λ (ps : List ClientPacket). out_old.to_client ++ flat_map client_spelling ps) (sym (append-nil (replies st e)) ∙ (λ i. replies st e ++ sym unanswered i)))
      host notes

pub rows-same : (e : Effect) (rows : List Live) (ps : List Pending) → ((s : Submission) → asks e s ≡ None) → rows ≡ map row ps → rows ≡ map row (map (ask e) ps)
rows-same e rows ps h is = is ∙ ap (map row) (sym (asks-none e h ps))

pub host-same : (caps : Caps) (e : Effect) (host : List ℕ) (ps : List Pending) → ((p : Pending) → cancels e p ≡ false) → host ≡ host ++ flat_map (sent_packet_bytes caps) (map cancel (filter (cancels e) ps))
host-same caps e host ps h = sym (append-nil host) ∙ ap (λ (qs : List (ℕ × RedirPacket)). host ++ flat_map (sent_packet_bytes caps) qs) (sym (none-cancelled e h ps))

pub one-reply : (old new : List ℕ) (p : ClientPacket) → new ≡ old ++ client_spelling p → new ≡ old ++ flat_map client_spelling (p ∷ [])
one-reply old new p h = h ∙ ap (λ (bs : List ℕ). old ++ bs) (sym (append-nil (client_spelling p)))

-- nothing is done
pub does-idle : (st : State) (old : Kept) (out : Outputs) → Holds old st → old.answered ≤ 2 ^ 64 - 1 → old.unlinked ≤ 2 ^ 64 - 1 → old.dropped ≤ 2 ^ 64 - 1 →
    Does st (mark_as st Idle None) old old out out
does-idle st old out h a u d =
    does-steady st Idle refl (silent-is st Idle refl) (λ s. refl) old old old.lives.live out out h a u d
    (rows-same Idle old.lives.live st.live (λ s. refl) h.live) refl (sym (append-nil out.to_client)) (host-same st.sides.agreed Idle out.to_host st.live stays-uncancelled) (sym (append-nil out.notes))
