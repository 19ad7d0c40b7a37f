-- Items that end some of the live requests, which are those whose rows pass a test: what is left, and what is sent for
-- them.
use Rattle.std.proofs.Common.{◌≡◌, ℕ, suc, ◌^◌, ◌-◌, ◌≤◌, Bool, true, false, cond, not, List, [], ◌∷◌, ◌++◌, length, map, Some, None, refl, sym, ap, ◌∙◌}
use Rattle.std.specs.Prelude.{is_none, filter}
use Rattle.std.specs.List.{flat_map}
use Rattle.std.proofs.lemmas.Grind.{flat_map-append}
use Rattle.usbip_urb.specs.declared.packet.UrbPacket.{UrbPacket}
use Rattle.usbip_urb.specs.declared.client.ClientPacket.{ClientPacket}
use Rattle.usbip_urb.specs.declared.client.ClientPacket.TheVariants.{Urb}
use Rattle.usbip_urb.specs.ClientPackets.{client_spelling}
use Rattle.usbip_urb.specs.Spelling.{spelling}
use Rattle.unlink_race.specs.declared.live.Live.{Live}
use Rattle.gate_history.specs.declared.note.Note.TheVariants as note
use Rattle.gate_parts.specs.declared.write.outputs.Outputs.{Outputs}
use Rattle.gate_core.specs.declared.state.kept.Kept.{Kept}
use Rattle.gate_history.specs.step.Marks.{Effect}
use Rattle.gate_history.specs.client.Submits.{Pending}
use Rattle.gate_history.specs.client.Ends.{End, ends, answers, answers_at}
use Rattle.gate_history.specs.state.State.{State}
use Rattle.gate_history.specs.step.Meaning.{mark_as}
use Rattle.gate_history.specs.write.Output.{present, answered, replies, cancels, cancel}
use Rattle.gate_history.specs.write.Notes.{came_notes, submit_notes, is_by_answer, is_by_client}
use Rattle.gate_history.specs.write.All.{is_ret_submit, is_won_unlink}
use Rattle.redir_data.specs.Sent.{sent_packet_bytes}
use Rattle.gate_history.specs.step.Machine.{ask}
use Rattle.gate_parts.specs.state.Rows.{row}
use Rattle.gate_core.specs.inner.state.Holds.{Holds, Does}
use Rattle.gate_history.proofs.lemmas.Lists.{Each, Each-weaker, filter-same, filter-none, filter-map}
use Rattle.gate_core.proofs.lemmas.step.Quiet.{is_quiet, IsSilent, moved_alone, none-opened, does-silent}

-- ---- the live requests that an item ends

module _ (e : Effect) (test : Live → Bool) (packet : Live → UrbPacket) where
  -- it ends where its row passes the test, by this packet, and tells nothing
  pub record EndsSo (p : Pending) : Type 0 where
    pub stays : is_none (ends e p.submit) ≡ not (test (row p))
    pub answer : answers_at p.submit p.unlinker (ends e p.submit) ≡ cond (test (row p)) (packet (row p) ∷ []) []
    pub untold : is_by_answer (ends e p.submit) ≡ false
    pub undropped : is_by_client (ends e p.submit) ≡ false

  -- such an end, where its row passes the test
  pub ends-so : (p : Pending) (b : Bool) (x : End) → ends e p.submit ≡ cond b (Some x) None → test (row p) ≡ b → answers p.submit p.unlinker x ≡ packet (row p) ∷ [] →
      is_by_answer (Some x) ≡ false → is_by_client (Some x) ≡ false → EndsSo p
  ends-so p true x is passes answer untold undropped = record {
    stays = ap is_none is ∙ ap not (sym passes);
    answer = ap (answers_at p.submit p.unlinker) is ∙ answer ∙ ap (λ (b : Bool). cond b (packet (row p) ∷ []) []) (sym passes);
    untold = ap is_by_answer is ∙ untold;
    undropped = ap is_by_client is ∙ undropped;
  }
  ends-so p false x is passes answer untold undropped = record {
    stays = ap is_none is ∙ ap not (sym passes);
    answer = ap (answers_at p.submit p.unlinker) is ∙ ap (λ (b : Bool). cond b (packet (row p) ∷ []) []) (sym passes);
    untold = ap is_by_answer is;
    undropped = ap is_by_client is;
  }

  abbrev pub ended_packets : List Pending → List UrbPacket
  ended_packets ps = flat_map (λ p. answers_at p.submit p.unlinker (ends e p.submit)) ps

  -- ---- of all

  pub stay-rows : (ps : List Pending) → Each EndsSo ps → map row (filter (λ p. is_none (ends e p.submit)) ps) ≡ filter (λ l. not (test l)) (map row ps)
  stay-rows ps h =
      ap (map row) (filter-same (λ p. is_none (ends e p.submit)) (λ p. not (test (row p))) ps (Each-weaker EndsSo (λ p. is_none (ends e p.submit) ≡ not (test (row p))) (λ p s. s.stays) ps h))
      ∙ sym (filter-map (λ l. not (test l)) row ps)

  pub ended-bytes : (ps : List Pending) → Each EndsSo ps → flat_map client_spelling (map Urb (ended_packets ps)) ≡ flat_map (λ l. cond (test l) (spelling (packet l)) []) (map row ps)
  ended-bytes [] h = refl
  ended-bytes (p ∷ ps) h =
      ap (λ (qs : List UrbPacket). flat_map client_spelling (map Urb (qs ++ ended_packets ps))) h.0.answer
      ∙ elim (test (row p)) as (λ b. flat_map client_spelling (map Urb (cond b (packet (row p) ∷ []) [] ++ ended_packets ps)) ≡ cond b (spelling (packet (row p))) [] ++ flat_map (λ l. cond (test l) (spelling (packet l)) []) (map row ps)) [
        | true ↦ ap (λ (bs : List ℕ). spelling (packet (row p)) ++ bs) (ended-bytes ps h.1)
        | false ↦ ended-bytes ps h.1
      ]

  -- each packet is counted
  pub counted-all : (which : ClientPacket → Bool) → ((l : Live) → which (Urb (packet l)) ≡ true) → (ps : List Pending) → Each EndsSo ps → length (filter which (map Urb (ended_packets ps))) ≡ length (filter test (map row ps))
  counted-all which all [] h = refl
  counted-all which all (p ∷ ps) h =
      ap (λ (qs : List UrbPacket). length (filter which (map Urb (qs ++ ended_packets ps)))) h.0.answer
      ∙ elim (test (row p)) as (λ b. length (filter which (map Urb (cond b (packet (row p) ∷ []) [] ++ ended_packets ps))) ≡ length (cond b (row p ∷ filter test (map row ps)) (filter test (map row ps)))) [
        | true ↦ ap (λ (b : Bool). length (cond b (Urb (packet (row p)) ∷ filter which (map Urb (ended_packets ps))) (filter which (map Urb (ended_packets ps))))) (all (row p)) ∙ ap (λ (n : ℕ). suc n) (counted-all which all ps h.1)
        | false ↦ counted-all which all ps h.1
      ]

  -- none is
  pub counted-none : (which : ClientPacket → Bool) → ((l : Live) → which (Urb (packet l)) ≡ false) → (ps : List Pending) → Each EndsSo ps → length (filter which (map Urb (ended_packets ps))) ≡ 0
  counted-none which none [] h = refl
  counted-none which none (p ∷ ps) h =
      ap (λ (qs : List UrbPacket). length (filter which (map Urb (qs ++ ended_packets ps)))) h.0.answer
      ∙ elim (test (row p)) as (λ b. length (filter which (map Urb (cond b (packet (row p) ∷ []) [] ++ ended_packets ps))) ≡ 0) [
        | true ↦ ap (λ (b : Bool). length (cond b (Urb (packet (row p)) ∷ filter which (map Urb (ended_packets ps))) (filter which (map Urb (ended_packets ps))))) (none (row p)) ∙ counted-none which none ps h.1
        | false ↦ counted-none which none ps h.1
      ]

  pub none-told : (ps : List Pending) → Each EndsSo ps → filter (λ p. is_by_answer (ends e p.submit)) ps ≡ []
  none-told ps h = filter-same (λ p. is_by_answer (ends e p.submit)) (λ p. false) ps (Each-weaker EndsSo (λ p. is_by_answer (ends e p.submit) ≡ false) (λ p s. s.untold) ps h) ∙ filter-none ps

  pub none-dropped : (ps : List Pending) → Each EndsSo ps → filter (λ p. is_by_client (ends e p.submit)) ps ≡ []
  none-dropped ps h = filter-same (λ p. is_by_client (ends e p.submit)) (λ p. false) ps (Each-weaker EndsSo (λ p. is_by_client (ends e p.submit) ≡ false) (λ p s. s.undropped) ps h) ∙ filter-none ps

-- ---- an effect that ends some of them, opens none and asks the host for nothing

module _ (st : State) (e : Effect) (test : Live → Bool) (packet : Live → UrbPacket) (quiet : is_quiet e ≡ true) (s : IsSilent st e) (so : Each (EndsSo e test packet) st.live) where
  here : present st e ≡ st.live
  here = none-opened st e quiet s

  ending-sent : answered st e ≡ map Urb (ended_packets e test packet st.live)
  ending-sent = ap (λ (ps : List Pending). map Urb (ended_packets e test packet ps)) here

  -- so many submits and unlinks are answered
  pub does-ending : (old new : Kept) (rows : List Live) (done won : ℕ) (out_old out_new : Outputs) → Holds old st → old.dropped ≤ 2 ^ 64 - 1 →
      length (filter is_ret_submit (map Urb (ended_packets e test packet st.live))) ≡ done →
      length (filter is_won_unlink (map Urb (ended_packets e test packet st.live))) ≡ won →
      rows ≡ map row (map (ask e) (filter (λ p. is_none (ends e p.submit)) st.live)) →
      new ≡ moved_alone e rows done won old →
      out_new.to_client ≡ out_old.to_client ++ (flat_map client_spelling (replies st e) ++ flat_map (λ l. cond (test l) (spelling (packet l)) []) old.lives.live) →
      out_new.to_host ≡ out_old.to_host ++ flat_map (sent_packet_bytes st.sides.agreed) (map cancel (filter (cancels e) st.live)) →
      out_new.notes ≡ out_old.notes ++ (came_notes e ++ submit_notes e) →
      Does st (mark_as st e None) old new out_old out_new
  does-ending old new rows done won out_old out_new h dropped_fits done-is won-is rows-are is client host notes =
      does-silent st e quiet s old new rows done won out_old out_new h dropped_fits is
      (rows-are ∙ ap (λ (ps : List Pending). map row (map (ask e) (filter (λ p. is_none (ends e p.submit)) ps))) (sym here))
      (sym done-is ∙ ap (λ (ps : List ClientPacket). length (filter is_ret_submit ps)) (sym ending-sent)) (sym won-is ∙ ap (λ (ps : List ClientPacket). length (filter is_won_unlink ps)) (sym ending-sent))
      (ap (map (λ (p : Pending). note.Answered p.submit.request.seqnum)) (ap (filter (λ p. is_by_answer (ends e p.submit))) here ∙ none-told e test packet st.live so))
      (ap (map (λ (p : Pending). p.submit)) (ap (filter (λ p. is_by_client (ends e p.submit))) here ∙ none-dropped e test packet st.live so))
      (client ∙ ap (λ (bs : List ℕ). out_old.to_client ++ bs)
      ((λ i. flat_map client_spelling (replies st e) ++ flat_map (λ l. cond (test l) (spelling (packet l)) []) (h.live i))
      ∙ ap (λ (bs : List ℕ). flat_map client_spelling (replies st e) ++ bs) (sym (ended-bytes e test packet st.live so) ∙ ap (flat_map client_spelling) (sym ending-sent))
      ∙ sym (flat_map-append client_spelling (replies st e) (answered st e))))
      host notes
