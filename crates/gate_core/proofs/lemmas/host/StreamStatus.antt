-- What the host's word of an endpoint's stream makes of what is kept, and what it sends for the requests that waited
-- for it.
use Rattle.std.proofs.Common.{◌≡◌, ℕ, ◌+◌, ◌^◌, ◌-◌, ◌≤◌, ◌<◌, ◌&&◌, Bool, true, cond, not, List, ◌++◌, length, map, None, refl, sym, ap, ◌∙◌, arith}
use Rattle.std.specs.Prelude.{is_none, filter}
use Rattle.std.specs.List.{flat_map}
use Rattle.std.proofs.lemmas.List.{append-nil}
use Rattle.usb_base.specs.declared.status.UsbStatus.{UsbStatus}
use Rattle.usb_base.specs.Status.{errno_of, is_success}
use Rattle.usbip_urb.specs.declared.packet.UrbPacket.{UrbPacket}
use Rattle.usbip_urb.specs.declared.client.ClientPacket.TheVariants.{Urb}
use Rattle.unlink_race.specs.declared.live.Live.{Live}
use Rattle.gate_parts.specs.declared.write.outputs.Outputs.{Outputs}
use Rattle.gate_core.specs.declared.state.kept.Kept.{Kept}
use Rattle.usb_base.specs.Number.{capped}
use Rattle.gate_history.specs.step.Marks.{Effect, StreamTold}
use Rattle.gate_history.specs.client.Submits.{Pending}
use Rattle.gate_history.specs.client.Ends.{ByStatus, ends, waits_at}
use Rattle.gate_history.specs.state.Ups.{lower_at}
use Rattle.gate_history.specs.state.StreamIds.{lifted}
use Rattle.gate_history.specs.state.State.{State}
use Rattle.gate_history.specs.step.Meaning.{mark_as}
use Rattle.gate_history.specs.state.Sound.{IsSound}
use Rattle.gate_history.specs.write.Answers.{without_packets}
use Rattle.gate_history.specs.write.Output.{to_client}
use Rattle.gate_history.specs.write.All.{is_ret_submit, is_won_unlink}
use Rattle.gate_history.specs.step.Wants.{GivesSome}
use Rattle.gate_parts.specs.state.Rows.{row, row_request}
use Rattle.gate_core.specs.inner.host.StreamEnd.{is_told, status_bytes, HasStreamEnd}
use Rattle.gate_core.specs.inner.state.Holds.{Holds, Does}
use Rattle.gate_history.proofs.lemmas.Lists.{Each, Each-weaker, filter-all}
use Rattle.gate_core.proofs.lemmas.step.Quiet.{capped-same, silent-is}
use Rattle.gate_history.proofs.lemmas.step.NoCancel.{asks-none, stays-uncancelled}
use Rattle.gate_core.proofs.lemmas.step.Steady.{host-same}
use Rattle.gate_core.proofs.lemmas.client.WaitRows.{IsGoing, all-going, waits-row}
use Rattle.gate_core.proofs.lemmas.state.RequestEnds.{EndsSo, ends-so, ended_packets, stay-rows, counted-all, counted-none, does-ending}
use Rattle.gate_core.proofs.lemmas.write.Gives.{by-client}

module _ (st : State) (sound : IsSound st) (id ep : ℕ) (status : UsbStatus) where
  abbrev told : Effect
  told = StreamTold id ep status

  abbrev packet : Live → UrbPacket
  packet l = without_packets (row_request l) (errno_of status)

  told-so : (p : Pending) → IsGoing p → EndsSo told (is_told ep status) packet p
  told-so p going =
      ends-so told (is_told ep status) packet p (waits_at ep p.submit && not (is_success status)) (ByStatus (errno_of status)) refl
      (ap (λ (b : Bool). b && not (is_success status)) (waits-row ep p going)) refl refl refl

  all-so : Each (EndsSo told (is_told ep status) packet) st.live
  all-so = Each-weaker IsGoing (EndsSo told (is_told ep status) packet) told-so st.live (all-going st sound)

  pub does-tell_stream : (old mid new : Kept) (out : Outputs) (client_new : List ℕ) → Holds old st → old.unlinked ≤ 2 ^ 64 - 1 → old.dropped ≤ 2 ^ 64 - 1 →
      HasStreamEnd ep status old mid →
      new ≡ record mid { fence = lifted id mid.fence } →
      client_new ≡ out.to_client ++ flat_map (status_bytes ep status) old.lives.live →
      Does st (mark_as st (StreamTold id ep status) None) old new out (record out { to_client = client_new })
  does-tell_stream old mid new out client_new h unlinked_fits dropped_fits ended is client =
      does-ending st told (is_told ep status) packet refl (silent-is st told refl) all-so old new
      (filter (λ l. not (is_told ep status l)) old.lives.live) (length (filter (is_told ep status) old.lives.live)) 0
      out (record out { to_client = client_new }) h dropped_fits
      (counted-all told (is_told ep status) packet is_ret_submit (λ l. refl) st.live all-so ∙ ap (λ (ls : List Live). length (filter (is_told ep status) ls)) (sym h.live))
      (counted-none told (is_told ep status) packet is_won_unlink (λ l. refl) st.live all-so)
      (ap (filter (λ l. not (is_told ep status l))) h.live ∙ sym (stay-rows told (is_told ep status) packet st.live all-so) ∙ ap (map row) (sym (asks-none told (λ s. refl) (filter (λ p. is_none (ends told p.submit)) st.live))))
      (is ∙ ap (λ (k : Kept). record k { fence = lifted id k.fence }) ended.is
      ∙ (λ i. record old {
        lives = record { live = filter (λ l. not (is_told ep status l)) old.lives.live; abandoned = old.lives.abandoned };
        streams = cond (is_success status) old.streams (lower_at ep old.streams);
        fence = lifted id old.fence;
        answered = capped (old.answered + length (filter (is_told ep status) old.lives.live));
        unlinked = capped-same old.unlinked unlinked_fits i;
      }))
      client (host-same st.sides.agreed told out.to_host st.live stays-uncancelled) (sym (append-nil out.notes))

  -- each of them is answered
  pub tell-gives : 0 < length (filter (is_told ep status) (map row st.live)) → GivesSome st (mark_as st told None)
  tell-gives some =
      let ended = map Urb (ended_packets told (is_told ep status) packet st.live) in
      let all : length (filter (λ c. true) ended) ≡ length (filter (is_told ep status) (map row st.live)) = counted-all told (is_told ep status) packet (λ c. true) (λ l. refl) st.live all-so in
      let sent : length (to_client st (mark_as st told None)) ≡ length ended = ap (λ (ps : List Pending). length (map Urb (ended_packets told (is_told ep status) packet ps))) (append-nil st.live) in
      by-client st told None (omega (arith, some, all, sent, ap length (filter-all ended)))
