-- The ids in flight of what is kept are those of the state.
use Rattle.std.proofs.Common.{◌≡◌, ℕ, length, ◌==◌, ◌||◌, Bool, true, false, cond, List, [], ◌∷◌, ◌++◌, map, Option, Some, None, refl, sym, ap, ◌∙◌, append_assoc}
use Rattle.std.specs.Prelude.{filter, zip, if◌then◌else◌, unwrap_or, is_some}
use Rattle.unlink_race.specs.declared.live.Live.{Live}
use Rattle.std.specs.List.{list_any, flat_map, last_or}
use Rattle.unlink_race.specs.Searches.{goes_by_id as is_answered_by_id, is_change, changes as changes_row, has_number as has_number_row}
use Rattle.control_route.specs.declared.route.Route.{Route}
use Rattle.gate_history.specs.state.Ids.{draw, draws, greatest, last_of}
use Rattle.gate_history.specs.write.Packets.{stops, start_packet, asked_packets}
use Rattle.gate_core.specs.declared.state.kept.Kept.{Kept}
use Rattle.gate_history.specs.declared.verdict.Verdict.{Verdict}
use Rattle.gate_history.specs.client.Verdict.{goes_by_id, changes}
use Rattle.gate_history.specs.step.Marks.{Submission, Effect}
use Rattle.gate_history.specs.client.Submits.{Pending}
use Rattle.gate_history.specs.state.Flight.{wide_ids, ids_of}
use Rattle.redir_data.specs.declared.packet.RedirPacket.{RedirPacket}
use Rattle.gate_parts.specs.declared.state.stream_ids.SentIds.{SentIds}
use Rattle.usb_base.specs.declared.endpoint.EpRow.{EpRow}
use Rattle.gate_history.specs.state.Ups.{stream_at, is_ended}
use Rattle.gate_history.specs.state.StreamIds.{stream_ids_after, ids_of_streams}
use Rattle.gate_history.specs.step.Meaning.{drawn_by}
use Rattle.gate_history.specs.state.State.{State, flying, next_ids, is_number}
use Rattle.gate_parts.specs.state.Ids.{row_ids}
use Rattle.gate_core.specs.inner.state.SentIds.{flying_in, ids_after, with_ids, stops_of, starts_of, start_id, started_with, sent_ids_of, after_stops, bytes_of}
use Rattle.redir_data.specs.Sent.{sent_packet_bytes}
use Rattle.gate_parts.specs.state.Rows.{kind_of, row, unmarked, left_row, cancel_bytes}
use Rattle.gate_core.specs.inner.state.Holds.{Holds}
use Rattle.gate_history.proofs.lemmas.state.StreamIds.{start-stream_ids}
use Rattle.gate_parts.proofs.lemmas.state.Rows.{by-verdict, by_id-row}

one : (b : Bool) (l : Live) (s : Submission) (ls : List Live) (ss : List Submission) → l.id ≡ s.id → map (λ (r : Live). r.id) ls ≡ map (λ (t : Submission). t.id) ss →
    map (λ (r : Live). r.id) (cond b (l ∷ ls) ls) ≡ map (λ (t : Submission). t.id) (cond b (s ∷ ss) ss)
one true l s ls ss e h = λ i. e i ∷ h i
one false l s ls ss e h = h

ids-live : (ps : List Pending) → row_ids (map row ps) ≡ ids_of (map (λ (p : Pending). p.submit) ps)
ids-live [] = refl
ids-live (p ∷ ps) =
    ap (λ (b : Bool). map (λ (r : Live). r.id) (cond b (row p ∷ filter is_answered_by_id (map row ps)) (filter is_answered_by_id (map row ps)))) (by_id-row p.submit p.unlinker)
    ∙ one (goes_by_id p.submit.verdict) (row p) p.submit _ _ refl (ids-live ps)

ids-left : (ss : List Submission) → row_ids (map left_row ss) ≡ ids_of ss
ids-left [] = refl
ids-left (s ∷ ss) =
    ap (λ (b : Bool). map (λ (r : Live). r.id) (cond b (left_row s ∷ filter is_answered_by_id (map left_row ss)) (filter is_answered_by_id (map left_row ss)))) (by_id-row s None)
    ∙ one (goes_by_id s.verdict) (left_row s) s _ _ refl (ids-left ss)

same-ids : (b : Bool) (l : Live) (ks ls : List Live) → map (λ (r : Live). r.id) ks ≡ map (λ (r : Live). r.id) ls → map (λ (r : Live). r.id) (cond b (unmarked l ∷ ks) ks) ≡ map (λ (r : Live). r.id) (cond b (l ∷ ls) ls)
same-ids true l ks ls h = λ i. l.id ∷ h i
same-ids false l ks ls h = h

ids-unmarked : (ls : List Live) → row_ids (map unmarked ls) ≡ row_ids ls
ids-unmarked [] = refl
ids-unmarked (l ∷ ls) = same-ids (is_answered_by_id l) l _ _ (ids-unmarked ls)

pub flying-rows : (t : Kept) (st : State) → Holds t st → flying_in t ≡ flying st
flying-rows t st h =
    (λ i. ((ap row_ids h.live ∙ ids-live st.live) i ++ (sym (ids-unmarked t.lives.abandoned) ∙ ap row_ids h.abandoned ∙ ids-left st.abandoned) i) ++ ids_of_streams (h.stream_ids i))

-- what is kept of a state's stops, where its client is gone
pub record HasParted (st : State) (e : Effect) (c : SentIds) : Type 0 where
  pub stream_ids : c.stream_ids ≡ stream_ids_after (zip (drawn_by st e) (asked_packets st.streams e)) st.stream_ids
  pub last : c.last ≡ last_of st.last (drawn_by st e)
  pub fence : c.fence ≡ last_or st.fence (drawn_by st e)

-- ---- what is drawn and sent of what is kept is that of the state

module _ (t : Kept) (st : State) (h : Holds t st) where
  pub draw-is : draw (greatest (wide_ids t.sides.agreed)) (flying_in t) t.last ≡ draw (greatest (wide_ids st.sides.agreed)) (flying st) st.last
  draw-is = λ i. draw (greatest (wide_ids (h.sides i).agreed)) (flying-rows t st h i) (h.last i)

  pub ids-are : (ps qs : List RedirPacket) → ps ≡ qs → ids_after t t.last (length ps) ≡ next_ids st (length qs)
  ids-are ps qs e = λ i. draws (greatest (wide_ids (h.sides i).agreed)) (flying-rows t st h i) (h.last i) (length (e i))

  pub asked-are : (ps qs : List RedirPacket) → ps ≡ qs → with_ids t t.last ps ≡ zip (next_ids st (length qs)) qs
  asked-are ps qs e = λ i. zip (draws (greatest (wide_ids (h.sides i).agreed)) (flying-rows t st h i) (h.last i) (length (e i))) (e i)

  pub stops-are : (by : Option Route) → stops_of t by ≡ stops (is_ended by) st.streams
  stops-are by = ap (stops (is_ended by)) h.streams

  -- with its client gone
  pub parts-are : (e : Effect) (c : SentIds) → asked_packets st.streams e ≡ stops (is_ended None) st.streams → c ≡ after_stops t (sent_ids_of t) (stops_of t None) → HasParted st e c
  parts-are e c asked stopped =
      let same : stops_of t None ≡ asked_packets st.streams e = stops-are None ∙ sym asked in
      let ids : ids_after t t.last (length (stops_of t None)) ≡ drawn_by st e = ids-are (stops_of t None) (asked_packets st.streams e) same in
      record {
        stream_ids = ap (λ (c : SentIds). c.stream_ids) stopped ∙ (λ i. stream_ids_after (asked-are (stops_of t None) (asked_packets st.streams e) same i) (h.stream_ids i));
        last = ap (λ (c : SentIds). c.last) stopped ∙ (λ i. last_of (h.last i) (ids i));
        fence = ap (λ (c : SentIds). c.fence) stopped ∙ (λ i. last_or (h.fence i) (ids i));
      }

  pub parts-sent : (e : Effect) → asked_packets st.streams e ≡ stops (is_ended None) st.streams → with_ids t t.last (stops_of t None) ≡ zip (drawn_by st e) (asked_packets st.streams e)
  parts-sent e asked = asked-are (stops_of t None) (asked_packets st.streams e) (stops-are None ∙ sym asked)

  -- behind what was sent before
  pub leaving-sent : (e : Effect) → asked_packets st.streams e ≡ stops (is_ended None) st.streams → (old mid new : List ℕ) →
      mid ≡ old ++ flat_map (cancel_bytes t.sides.agreed) t.lives.live →
      new ≡ mid ++ bytes_of t t.last (stops_of t None) →
      new ≡ old ++ (flat_map (cancel_bytes t.sides.agreed) t.lives.live ++ flat_map (sent_packet_bytes t.sides.agreed) (zip (drawn_by st e) (asked_packets st.streams e)))
  leaving-sent e asked old mid new a b =
      b ∙ (λ i. a i ++ flat_map (sent_packet_bytes t.sides.agreed) (parts-sent e asked i))
      ∙ append_assoc old (flat_map (cancel_bytes t.sides.agreed) t.lives.live) (flat_map (sent_packet_bytes t.sides.agreed) (zip (drawn_by st e) (asked_packets st.streams e)))

-- ---- of a start

started-by : (t : Kept) (up : Bool) (ep : ℕ) (row : EpRow) →
    started_with ep (if up then None else Some (draw (greatest (wide_ids t.sides.agreed)) (flying_in t) t.last)) t.stream_ids ≡ stream_ids_after (with_ids t t.last (if up then [] else start_packet ep row ∷ [])) t.stream_ids
started-by t true ep row = refl
started-by t false ep row = sym (start-stream_ids (draw (greatest (wide_ids t.sides.agreed)) (flying_in t) t.last) ep row t.stream_ids)

pub started-is : (t : Kept) (ep : ℕ) (row : EpRow) → started_with ep (start_id t ep) t.stream_ids ≡ stream_ids_after (with_ids t t.last (starts_of t ep row)) t.stream_ids
started-is t ep row = started-by t (is_some (stream_at t.streams ep)) ep row

last-by : (t : Kept) (up : Bool) (ep : ℕ) (row : EpRow) →
    unwrap_or (if up then None else Some (draw (greatest (wide_ids t.sides.agreed)) (flying_in t) t.last)) t.last ≡ last_of t.last (ids_after t t.last (length (if up then [] else start_packet ep row ∷ [])))
last-by t true ep row = refl
last-by t false ep row = refl

pub started-last : (t : Kept) (ep : ℕ) (row : EpRow) → unwrap_or (start_id t ep) t.last ≡ last_of t.last (ids_after t t.last (length (starts_of t ep row)))
started-last t ep row = last-by t (is_some (stream_at t.streams ep)) ep row

-- ---- of a route's packets: of a reset's two, and of any other's one

-- ---- what the searches of the rows find

change-row : (v : Verdict) (ep : ℕ) → is_change (kind_of v ep) ≡ changes v
change-row v ep = by-verdict (λ w. is_change (kind_of w ep) ≡ changes w) (λ s. refl) (λ p. refl) (λ r. refl) (λ r. refl) (λ r. refl) v

pub change-rows : (ps : List Pending) → list_any changes_row (map row ps) ≡ list_any (λ s. changes s.verdict) (map (λ (p : Pending). p.submit) ps)
change-rows [] = refl
change-rows (p ∷ ps) = λ i. change-row p.submit.verdict p.submit.request.transfer.ep i || change-rows ps i

pub number-rows : (n : ℕ) (ps : List Pending) → list_any (has_number_row n) (map row ps) ≡ list_any (is_number n) (map (λ (p : Pending). p.submit) ps)
number-rows n [] = refl
number-rows n (p ∷ ps) = ap (λ (b : Bool). (p.submit.request.seqnum == n) || b) (number-rows n ps)
