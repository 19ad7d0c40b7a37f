-- No id is in flight twice, and the ids that an item draws are fresh.
use Rattle.usbip_urb.specs.declared.packet.IsoDesc.{IsoDesc}
use Rattle.usb_base.specs.Number.{part}
use Rattle.std.proofs.Common.{◌≡◌, ℕ, ◌+◌, ◌<◌, ◌≤◌, ◌&&◌, Bool, true, false, cond, if◌then◌else◌, not, eqb, List, [], ◌∷◌, ◌++◌, length, map, set, Option, Some, None, refl, sym, ap, subst, ◌∙◌, arith, inl, inr}
use Rattle.std.specs.Prelude.{◌%◌, ◌||◌, nat_lt, nat_eq, filter, is_none, option_map, zip, is_some, slice_set}
use Rattle.std.specs.List.{AllByRecursion, IsDistinct}
use Rattle.std.proofs.lemmas.Bool.{cases_Bool, false≢true}
use Rattle.std.proofs.lemmas.Bool.Decides.{nat_tests}
use Rattle.std.proofs.lemmas.List.{length-append, length-map, length-set}
use Rattle.std.proofs.lemmas.List.Elements.{filter-append}
use Rattle.control_route.specs.declared.route.Route.{Route}
use Rattle.control_route.specs.declared.route.Route.TheVariants as route
use Rattle.usbip_urb.specs.declared.packet.UrbPacket.TheVariants as urb
use Rattle.usbip_urb.specs.declared.client.ClientPacket.TheVariants.{Op, Urb}
use Rattle.usb_base.specs.declared.limits.TheConstants.{MAX_PACKETS}
use Rattle.usbip_urb.specs.declared.code.TheConstants.{MAX_LIVE}
use Rattle.redir_wire.specs.declared.packet.Header.{Header}
use Rattle.redir_wire.specs.declared.packet.RedirControl.TheVariants as plain
use Rattle.redir_data.specs.declared.packet.RedirData.{RedirData}
use Rattle.redir_data.specs.declared.packet.RedirData.TheVariants as data_packet
use Rattle.redir_data.specs.declared.packet.RedirPacket.TheVariants.{Plain, Carrying}
use Rattle.gate_history.specs.declared.item.Item.{Item}
use Rattle.gate_history.specs.declared.item.Item.TheVariants.{Asked, ClientWrong, ClientLeft, Told, HostWrong, HostLeft}
use Rattle.gate_history.specs.host.Fillings.{Fill}
use Rattle.usb_base.specs.declared.endpoint.EpRow.{EpRow}
use Rattle.gate_history.specs.host.Responses.{response_of}
use Rattle.gate_history.specs.state.Sound.{HasFewPackets}
use Rattle.gate_history.specs.state.Ids.{holds, draws, last_of, greatest, AreFresh, times, Once}
use Rattle.gate_history.specs.declared.verdict.Verdict.{Verdict}
use Rattle.gate_history.specs.declared.verdict.Verdict.TheVariants.{Now, Wire, Routed, IsoOut, Stream}
use Rattle.gate_history.specs.client.Verdict.{goes_by_id}
use Rattle.gate_history.specs.step.Marks.{Submission, Effect, Idle, Replies, Imports, Opens, Waits, Unlinks, Agrees, Answers, Arrives, StreamTold, Disconnects, Ends, Refuses, Mark}
use Rattle.gate_history.specs.state.Sides.{is_client, leaves, is_loss, imports, sides}
use Rattle.gate_history.specs.client.Submits.{pending, opened, live, is_answered, abandoned}
use Rattle.gate_history.specs.client.Ends.{End, ByClient, ByLoss, at_once, is_waiting, own_end, ends}
use Rattle.gate_history.specs.state.Flight.{wide_ids, ids_of, in_flight}
use Rattle.gate_history.specs.state.State.{State, state_of, flying, next_ids, has_number}
use Rattle.usb_base.specs.declared.transfer.StreamPacket.{StreamPacket}
use Rattle.usb_base.specs.Endpoint.{endpoint_index, is_in_endpoint}
use Rattle.usb_base.specs.Status.{is_success}
use Rattle.redir_data.specs.declared.packet.RedirPacket.{RedirPacket}
use Rattle.redir_data.specs.declared.stream_kind.StreamKind.{StreamKind}
use Rattle.redir_data.specs.declared.stream_kind.StreamKind.TheVariants.{Iso, Interrupt}
use Rattle.gate_history.specs.state.Ups.{Up, no_streams, stream_at, stream_of, unless, lower_at, hold, is_ended, opened_streams, moved_streams, streams_after, streams}
use Rattle.gate_history.specs.state.StreamIds.{StreamIds, stream_ids_after, asking, stream_ids, ids_of_streams}
use Rattle.gate_history.specs.declared.request.Request.{Request}
use Rattle.gate_history.specs.client.Requests.{request_of}
use Rattle.gate_history.specs.write.Packets.{HasRoute, wire_packet, starts, stops, iso_packets, route_packets, packets_of, asked_packets}
use Rattle.gate_history.proofs.lemmas.state.StreamIds.{AreLong, few-ids, long-stream_ids_after, few-stops, few-starts, draws-append, zip-append, last-append, stream_ids_after-append, stream_ids_after-silent, wire-silent, route-silent, iso-silent, times-append, times-stream_ids_after, times-last}
use Rattle.gate_history.specs.step.Meaning.{verdict_of, by_stream, submission, accepted_as, accepts, arrives, told_meaning, meaning, drawn_for, drawn_by, mark_of}
use Rattle.gate_history.specs.step.Past.{is_left_out, past}
use Rattle.gate_history.proofs.lemmas.step.Aside.{HoldsAside, by-test, of-op, of-response}
use Rattle.gate_history.proofs.lemmas.Lists.{length-filter, Each, every, Each-weaker, Each-append, Each-filter, filter-same, filter-twice, both, filter-none}
use Rattle.gate_history.proofs.lemmas.step.Steps.{IsWell, submits-is, live-is}
use Rattle.gate_history.proofs.lemmas.step.Runs.{placed-meaning, well}
use Rattle.gate_history.proofs.lemmas.client.Openings.{IsOpening, opening-meaning}
use Rattle.gate_history.proofs.lemmas.client.Once.{AtMostOne, opened-one}
use Rattle.gate_history.proofs.lemmas.state.Draws.{length-draws, draws-fresh}

-- ---- how often an id is there

times-none : (q : ℕ) (xs : List ℕ) → holds xs q ≡ false → times q xs ≡ 0
times-none q [] h = refl
times-none q (x ∷ xs) h =
    elim (cases_Bool (eqb q x)) [
      | inl same ↦ let e : true ≡ false = rw same at h in absurd (cc)
      | inr other ↦ rw other (let rest = times-none q xs (rw other at h) in omega arith)
    ]

-- what one submit adds
abbrev one : Bool → ℕ
one b = if b then 1 else 0

own : ℕ → Submission → ℕ
own q s = one (goes_by_id s.verdict && eqb q s.id)

times-cons : (q : ℕ) (s : Submission) (ss : List Submission) → times q (ids_of (s ∷ ss)) ≡ own q s + times q (ids_of ss)
unfolding own
times-cons q s ss =
    elim (goes_by_id s.verdict) as (λ (b : Bool). times q (map (λ s. s.id) (cond b (s ∷ filter (λ s. goes_by_id s.verdict) ss) (filter (λ s. goes_by_id s.verdict) ss))) ≡ one (b && eqb q s.id) + times q (ids_of ss))
    [ true ↦ refl | false ↦ omega arith ]

times-ids : (q : ℕ) (rs ss : List Submission) → times q (ids_of (rs ++ ss)) ≡ times q (ids_of rs) + times q (ids_of ss)
times-ids q [] ss = omega arith
times-ids q (r ∷ rs) ss = omega (arith, times-ids q rs ss, times-cons q r rs, times-cons q r (rs ++ ss))

times-filter : (q : ℕ) (p : Submission → Bool) (ss : List Submission) → times q (ids_of (filter p ss)) ≤ times q (ids_of ss)
times-filter q p [] = omega arith
times-filter q p (s ∷ ss) =
    let rest = times-filter q p ss in
    let all = times-cons q s ss in
    let here = times-cons q s (filter p ss) in
    elim (p s) as (λ (b : Bool). times q (ids_of (cond b (s ∷ filter p ss) (filter p ss))) ≤ times q (ids_of (s ∷ ss))) [ true ↦ omega arith | false ↦ omega arith ]

length-ids : (ss : List Submission) → length (ids_of ss) ≤ length ss
length-ids ss = omega (arith, length-map (filter (λ (s : Submission). goes_by_id s.verdict) ss) (λ (s : Submission). s.id), length-filter (λ (s : Submission). goes_by_id s.verdict) ss)

-- ---- what keeps them apart

pub record Sound (ms : List Mark) : Type 0 where
  pub few : length (live ms) ≤ MAX_LIVE
  pub left : length (abandoned ms) ≤ MAX_LIVE
  pub apart : (sides ms).imported ≡ true → abandoned ms ≡ []
  pub gone : (sides ms).imported ≡ false → live ms ≡ []
  pub once : Once (in_flight ms)
  pub going : Each (λ s. at_once s.verdict ≡ None) (live ms)

flying-is : (first : ℕ) (ms : List Mark) → flying (state_of first ms) ≡ in_flight ms
flying-is first ms = ap (λ (l : List Submission). ids_of l ++ ids_of (abandoned ms) ++ ids_of_streams (stream_ids ms)) (submits-is ms (live ms))

stream_ids-long : (ms : List Mark) → AreLong (stream_ids ms)
stream_ids-long [] = record { started = refl; stopped = refl }
stream_ids-long (m ∷ ms) = long-stream_ids_after (asking (streams ms) m) (stream_ids ms) (stream_ids-long ms)

pub streams-long : (ms : List Mark) → length (streams ms) ≡ 32
streams-long [] = refl
streams-long (m ∷ ms) = after-long m.what (streams ms) (streams-long ms)
  where
    raised-long : (up : Up) (ups : List (Option Up)) (o : Option Up) → length ups ≡ 32 → length (cond (is_some o) ups (slice_set ups (endpoint_index up.ep) (Some up))) ≡ 32
    raised-long up ups None h = length-set ups (endpoint_index up.ep) (Some up) ∙ h
    raised-long up ups (Some before) h = h

    held-long : (ep : ℕ) (packets : List StreamPacket) (ups : List (Option Up)) → length ups ≡ 32 → length (hold ep packets ups) ≡ 32
    held-long ep packets ups h = length-set ups (endpoint_index ep) (option_map (λ (up : Up). record up { held = packets }) (stream_at ups ep)) ∙ h

    opened-long : (v : Verdict) (ep : ℕ) (ups : List (Option Up)) → length ups ≡ 32 → length (opened_streams v ep ups) ≡ 32
    opened-long (Now status) ep ups h = h
    opened-long (Wire pipe) ep ups h = h
    opened-long (Routed r) ep ups h = length-map ups (unless (is_ended (Some r))) ∙ h
    opened-long (IsoOut row) ep ups h = raised-long (record { ep = ep; row = row; held = [] }) ups (stream_at ups ep) h
    opened-long (Stream row) ep ups h = raised-long (record { ep = ep; row = row; held = [] }) ups (stream_at ups ep) h

    lower-long : (b : Bool) (ep : ℕ) (ups : List (Option Up)) → length ups ≡ 32 → length (cond b (set ups (endpoint_index ep) None) ups) ≡ 32
    lower-long true ep ups h = length-set ups (endpoint_index ep) None ∙ h
    lower-long false ep ups h = h

    moved-long : (e : Effect) (ups : List (Option Up)) → length ups ≡ 32 → length (moved_streams e ups) ≡ 32
    moved-long (Opens s) ups h = opened-long s.verdict s.request.transfer.ep ups h
    moved-long (Waits s fill) ups h = held-long s.request.transfer.ep fill.left (opened_streams s.verdict s.request.transfer.ep ups) (opened-long s.verdict s.request.transfer.ep ups h)
    moved-long (Arrives ep fill) ups h = held-long ep fill.left ups h
    moved-long (StreamTold id ep status) ups h = elim (is_success status) as (λ b. length (cond b ups (lower_at ep ups)) ≡ 32) [ true ↦ h | false ↦ lower-long (nat_lt (ep % 128) 16) ep ups h ]
    moved-long _ ups h = h

    after-long : (e : Effect) (ups : List (Option Up)) → length ups ≡ 32 → length (streams_after e ups) ≡ 32
    after-long e ups h = elim (leaves e || is_loss e) as (λ b. length (cond b no_streams (moved_streams e ups)) ≡ 32) [ true ↦ refl | false ↦ moved-long e ups h ]

few-flying : (ms : List Mark) → Sound ms → length (in_flight ms) ≤ 8256
few-flying ms s =
    omega (arith, length-append (ids_of (live ms) ++ ids_of (abandoned ms)) (ids_of_streams (stream_ids ms)), length-append (ids_of (live ms)) (ids_of (abandoned ms)), length-ids (live ms), length-ids (abandoned ms), few-ids (stream_ids ms) (stream_ids-long ms), s.few, s.left)

large : (wide : Bool) → 4294967295 ≤ greatest wide
large true = omega arith
large false = omega arith

fresh-ids : (first : ℕ) (ms : List Mark) (n : ℕ) → Sound ms → n ≤ 1025 → AreFresh (greatest (wide_ids (state_of first ms).sides.agreed)) (flying (state_of first ms)) (next_ids (state_of first ms) n)
fresh-ids first ms n s short =
    draws-fresh (greatest (wide_ids (state_of first ms).sides.agreed)) (flying (state_of first ms)) (state_of first ms).last n
    (omega (arith, large (wide_ids (state_of first ms).sides.agreed), few-flying ms s, ap length (flying-is first ms), short))

-- ---- ids that are fresh are there once, and not among those in flight

times-apart : (q : ℕ) (ids : List ℕ) → AllByRecursion (λ x. eqb q x ≡ false) ids → times q ids ≡ 0
times-apart q [] all = refl
times-apart q (x ∷ xs) all = rw all.0 (omega (arith, times-apart q xs all.1))

times-distinct : (q : ℕ) (ids : List ℕ) → IsDistinct nat_eq ids → times q ids ≤ 1
unfolding IsDistinct
times-distinct q [] d = omega arith
times-distinct q (x ∷ xs) d = by (times-distinct q xs d.1) (eqb q x) refl
  where
    by : times q xs ≤ 1 → (b : Bool) → eqb q x ≡ b → one b + times q xs ≤ 1
    by rest true same = let i : q ≡ x = grind (arith, nat_tests) in let none : times q xs ≡ 0 = rw i (times-apart x xs d.0) in omega arith
    by rest false other = omega arith

times-free : (held : List ℕ) (q : ℕ) (ids : List ℕ) → AllByRecursion (λ id. holds held id ≡ false) ids → holds held q ≡ true → times q ids ≡ 0
times-free held q [] all here = refl
times-free held q (x ∷ xs) all here = by (times-free held q xs all.1 here) (eqb q x) refl
  where
    by : times q xs ≡ 0 → (b : Bool) → eqb q x ≡ b → one b + times q xs ≡ 0
    by rest true same = let i : x ≡ q = grind (arith, nat_tests) in absurd (false≢true (sym (rw i at all.0) ∙ here))
    by rest false other = omega arith

-- so adding them keeps each once
still-once : (m q : ℕ) (flying ids : List ℕ) (n : ℕ) → AreFresh m flying ids → times q flying ≤ 1 → n ≤ times q flying + times q ids → n ≤ 1
still-once m q flying ids n fresh once few =
    elim (cases_Bool (holds flying q)) [
      | inl here ↦ omega (arith, times-free flying q ids fresh.free here)
      | inr free ↦ omega (arith, times-none q flying free, times-distinct q ids fresh.differ)
    ]

-- ---- an import is nothing else

record IsAlone (e : Effect) : Type 0 where
  stays : leaves e ≡ false
  keeps : is_loss e ≡ false

alone : (e : Effect) → imports e ≡ true → IsAlone e
alone (Imports reply) h = record { stays = refl; keeps = refl }
alone _ h = absurd (false≢true h)

both-same : (b : Bool) → both b b ≡ b
both-same true = refl
both-same false = refl

filter-same-twice : (ss : List Submission) (q : ℕ) → times q (ids_of (filter (λ s. goes_by_id s.verdict) ss)) ≡ times q (ids_of ss)
filter-same-twice ss q =
    ap (λ (l : List Submission). times q (map (λ s. s.id) l))
    (filter-twice (λ s. goes_by_id s.verdict) (λ s. goes_by_id s.verdict) ss
    ∙ filter-same (λ s. both (goes_by_id s.verdict) (goes_by_id s.verdict)) (λ s. goes_by_id s.verdict) ss (every (λ s. both (goes_by_id s.verdict) (goes_by_id s.verdict) ≡ goes_by_id s.verdict) (λ s. both-same (goes_by_id s.verdict)) ss))

-- ---- the ids that an effect adds to those in flight are some that it draws

few-route : (r : Route) → length (route_packets r) ≤ 2
few-route (route.SetConfig configuration) = omega arith
few-route _ = omega arith

record Adds (st : State) (e : Effect) : Type 0 where
  count : ℕ
  few : count ≤ 1025
  adds : (q : ℕ) → times q (ids_of (filter (λ t. is_none (ends e t)) (opened e))) + times q (ids_of_streams (stream_ids_after (zip (drawn_by st e) (asked_packets st.streams e)) st.stream_ids))
      ≤ times q (ids_of_streams st.stream_ids) + times q (next_ids st count)

no-more : (st : State) (e : Effect) → opened e ≡ [] → asked_packets st.streams e ≡ [] → Adds st e
no-more st e nil silent = record {
  count = 0;
  few = omega arith;
  adds = λ q.
      let a : times q (ids_of (filter (λ t. is_none (ends e t)) (opened e))) ≡ 0 = ap (λ (l : List Submission). times q (ids_of (filter (λ t. is_none (ends e t)) l))) nil in
      let b : times q (ids_of_streams (stream_ids_after (zip (drawn_by st e) (asked_packets st.streams e)) st.stream_ids)) ≡ times q (ids_of_streams st.stream_ids) =
      ap (λ (ps : List RedirPacket). times q (ids_of_streams (stream_ids_after (zip (next_ids st (length ps)) ps) st.stream_ids))) silent in
      omega (arith, a, b);
}

-- with its client gone
all-stops : (st : State) (e : Effect) → length st.streams ≡ 32 → ids_of (filter (λ t. is_none (ends e t)) (opened e)) ≡ [] → asked_packets st.streams e ≡ stops (is_ended None) st.streams → Adds st e
all-stops st e long none are = record {
  count = length (asked_packets st.streams e);
  few = omega (arith, ap length are, few-stops (is_ended None) st.streams, long);
  adds = λ q. omega (arith, ap (times q) none, times-stream_ids_after q (drawn_by st e) (asked_packets st.streams e) st.stream_ids);
}

side-stops : (st : State) (e : Effect) (b : Bool) → length st.streams ≡ 32 → opened e ≡ [] → asked_packets st.streams e ≡ cond b (stops (is_ended None) st.streams) [] → Adds st e
side-stops st e true long nil are = all-stops st e long (ap (λ (l : List Submission). ids_of (filter (λ t. is_none (ends e t)) l)) nil) are
side-stops st e false long nil are = no-more st e nil are

one-kept : (e : Effect) (s : Submission) (q : ℕ) → times q (ids_of (filter (λ t. is_none (ends e t)) (s ∷ []))) ≤ times q (ids_of (s ∷ []))
one-kept e s q = times-filter q (λ t. is_none (ends e t)) (s ∷ [])

none-by-id : (s : Submission) → goes_by_id s.verdict ≡ false → ids_of (s ∷ []) ≡ []
none-by-id s e = ap (λ (b : Bool). map (λ (t : Submission). t.id) (cond b (s ∷ []) [])) e

lives-on : (b : Bool) → is_none (cond {A = Option End} b None None) ≡ true
lives-on true = refl
lives-on false = refl

-- one that waits for a stream's packets draws an id where the stream is started
starts-more : (st : State) (e : Effect) (s : Submission) (row : EpRow) → opened e ≡ s ∷ [] → goes_by_id s.verdict ≡ false →
    asked_packets st.streams e ≡ starts (stream_at st.streams s.request.transfer.ep) s.request.transfer.ep row → Adds st e
starts-more st e s row one by_id are = record {
  count = length (asked_packets st.streams e);
  few = omega (arith, ap length are, few-starts (stream_at st.streams s.request.transfer.ep) s.request.transfer.ep row);
  adds = λ q.
      let none : times q (ids_of (filter (λ t. is_none (ends e t)) (opened e))) ≡ times q (ids_of (filter (λ t. is_none (ends e t)) (s ∷ []))) = ap (λ (l : List Submission). times q (ids_of (filter (λ t. is_none (ends e t)) l))) one in
      let nobody : times q (ids_of (s ∷ [])) ≡ 0 = ap (times q) (none-by-id s by_id) in
      omega (arith, none, nobody, one-kept e s q, times-stream_ids_after q (drawn_by st e) (asked_packets st.streams e) st.stream_ids);
}

waits-more : (st : State) (s : Submission) (fill : Fill) (v : Verdict) → is_waiting v ≡ true → Adds st (Waits (record s { verdict = v }) fill)
waits-more st s fill (Stream row) h = starts-more st (Waits (record s { verdict = Stream row }) fill) (record s { verdict = Stream row }) row refl refl refl
waits-more st s fill _ h = absurd (false≢true h)

opens-more : (st : State) (s : Submission) (v : Verdict) → length st.streams ≡ 32 → HasRoute v →
    (is_none (ends (Opens (record s { verdict = v })) (record s { verdict = v })) ≡ true → goes_by_id v ≡ true → s.id ≡ last_of 0 (drawn_for st s.request v)) → Adds st (Opens (record s { verdict = v }))
opens-more st s (Now status) long some drawn = record {
  count = 0;
  few = omega arith;
  adds = λ q. omega (arith, one-kept (Opens (record s { verdict = Now status })) (record s { verdict = Now status }) q);
}
opens-more st s (Stream row) long some drawn = starts-more st (Opens (record s { verdict = Stream row })) (record s { verdict = Stream row }) row refl refl refl
opens-more st s (Wire pipe) long some drawn = record {
  count = 1;
  few = omega arith;
  adds = λ q.
      let id : s.id ≡ last_of 0 (next_ids st 1) = drawn (lives-on (eqb s.place s.place)) refl in
      let own : times q (s.id ∷ []) ≡ times q (next_ids st 1) = ap (λ (n : ℕ). times q (n ∷ [])) id in
      let same : times q (ids_of_streams (stream_ids_after (zip (next_ids st 1) (wire_packet pipe s.request.transfer ∷ [])) st.stream_ids)) ≡ times q (ids_of_streams st.stream_ids) =
      ap (λ (c : StreamIds). times q (ids_of_streams c)) (stream_ids_after-silent (next_ids st 1) (wire_packet pipe s.request.transfer ∷ []) st.stream_ids (wire-silent pipe s.request.transfer, tt)) in
      omega (arith, one-kept (Opens (record s { verdict = Wire pipe })) (record s { verdict = Wire pipe }) q, own, same);
}
opens-more st s (IsoOut row) long some drawn =
    let start = starts (stream_at st.streams s.request.transfer.ep) s.request.transfer.ep row in
    let isos = iso_packets s.request in
    let m = greatest (wide_ids st.sides.agreed) in
    let f = flying st in
    record {
      count = length start;
      few = omega (arith, few-starts (stream_at st.streams s.request.transfer.ep) s.request.transfer.ep row);
      adds = λ q.
          let parts = ap (λ (ps : List (ℕ × RedirPacket)). times q (ids_of_streams (stream_ids_after ps st.stream_ids))) (zip-append m f st.last start isos)
          ∙ ap (λ (c : StreamIds). times q (ids_of_streams c)) (stream_ids_after-append (zip (next_ids st (length start)) start) (zip (draws m f (last_of st.last (next_ids st (length start))) (length isos)) isos) st.stream_ids
          ∙ stream_ids_after-silent (draws m f (last_of st.last (next_ids st (length start))) (length isos)) isos (stream_ids_after (zip (next_ids st (length start)) start) st.stream_ids) (iso-silent s.request)) in
          omega (arith, one-kept (Opens (record s { verdict = IsoOut row })) (record s { verdict = IsoOut row }) q, parts, times-stream_ids_after q (next_ids st (length start)) start st.stream_ids);
    }
opens-more st s (Routed r) long some drawn =
    let stopping = stops (is_ended (Some r)) st.streams in
    let asking = route_packets r in
    let m = greatest (wide_ids st.sides.agreed) in
    let f = flying st in
    let first = next_ids st (length stopping) in
    let later = draws m f (last_of st.last first) (length asking) in
    record {
      count = length (stopping ++ asking);
      few = omega (arith, length-append stopping asking, few-stops (is_ended (Some r)) st.streams, long, few-route r);
      adds = λ q.
          let all : next_ids st (length (stopping ++ asking)) ≡ first ++ later = draws-append m f st.last stopping asking in
          let parts = ap (λ (ps : List (ℕ × RedirPacket)). times q (ids_of_streams (stream_ids_after ps st.stream_ids))) (zip-append m f st.last stopping asking)
          ∙ ap (λ (c : StreamIds). times q (ids_of_streams c)) (stream_ids_after-append (zip first stopping) (zip later asking) st.stream_ids ∙ stream_ids_after-silent later asking (stream_ids_after (zip first stopping) st.stream_ids) (route-silent r)) in
          let id : s.id ≡ last_of (last_of 0 first) later = drawn (lives-on (eqb s.place s.place)) refl ∙ ap (last_of 0) all ∙ last-append 0 first later in
          let own : times q (s.id ∷ []) ≡ times q (last_of (last_of 0 first) later ∷ []) = ap (λ (n : ℕ). times q (n ∷ [])) id in
          let long : length later ≡ length asking = length-draws m f (last_of st.last first) (length asking) in
          let last = times-last q (last_of 0 first) later (omega (arith, long, some)) in
          let both_parts : times q (next_ids st (length (stopping ++ asking))) ≡ times q first + times q later = ap (times q) all ∙ times-append q first later in
          omega (arith, one-kept (Opens (record s { verdict = Routed r })) (record s { verdict = Routed r }) q, own, parts, times-stream_ids_after q first stopping st.stream_ids, last, both_parts);
    }

more : (st : State) (e : Effect) → length st.streams ≡ 32 → IsOpening st e → Adds st e
more st (Opens s) long o = opens-more st s s.verdict long o.routes.0 o.drawn.0
more st (Waits s fill) long o = waits-more st s fill s.verdict o.waits
more st (Arrives ep fill) long o = no-more st (Arrives ep fill) refl refl
more st (Ends side) long o = side-stops st (Ends side) (is_client side) long refl (either (is_client side) (stops (is_ended None) st.streams))
  where
    either : (b : Bool) (ps : List RedirPacket) → cond (b || false) ps [] ≡ cond b ps []
    either true ps = refl
    either false ps = refl
more st (Refuses r) long o = side-stops st (Refuses r) (is_client r.side) long refl refl
more st Idle long o = no-more st Idle refl refl
more st (Replies reply) long o = no-more st (Replies reply) refl refl
more st (Imports reply) long o = no-more st (Imports reply) refl refl
more st (Unlinks by target) long o = no-more st (Unlinks by target) refl refl
more st (Agrees caps) long o = no-more st (Agrees caps) refl refl
more st (Answers id outcome) long o = no-more st (Answers id outcome) refl refl
more st (StreamTold id ep status) long o = no-more st (StreamTold id ep status) refl refl
more st (Disconnects id) long o = no-more st (Disconnects id) refl refl

-- ---- one item

module _ (first : ℕ) (ms : List Mark) (m : Mark) (w : IsWell (m ∷ ms)) (o : IsOpening (state_of first ms) m.what) (d : m.drawn ≡ drawn_by (state_of first ms) m.what) (s : Sound ms) where
  -- at most those in flight, and some that were drawn
  kept-once : (q n : ℕ) → n + times q (ids_of (filter (λ t. is_none (ends m.what t)) (opened m.what))) + times q (ids_of_streams (stream_ids (m ∷ ms))) ≤
      times q (ids_of (live ms) ++ ids_of (abandoned ms)) + times q (ids_of (filter (λ t. is_none (ends m.what t)) (opened m.what))) + times q (ids_of_streams (stream_ids (m ∷ ms))) →
      n + times q (ids_of (filter (λ t. is_none (ends m.what t)) (opened m.what))) + times q (ids_of_streams (stream_ids (m ∷ ms))) ≤ 1
  kept-once q n few =
      let a = more (state_of first ms) m.what (streams-long ms) o in
      let fresh = fresh-ids first ms a.count s a.few in
      let drawn : times q (ids_of_streams (stream_ids (m ∷ ms))) ≡ times q (ids_of_streams (stream_ids_after (zip (drawn_by (state_of first ms) m.what) (asked_packets (streams ms) m.what)) (stream_ids ms))) =
      ap (λ (ids : List ℕ). times q (ids_of_streams (stream_ids_after (zip ids (asked_packets (streams ms) m.what)) (stream_ids ms)))) d in
      let same = ap (times q) (flying-is first ms) in
      let parts = times-append q (ids_of (live ms) ++ ids_of (abandoned ms)) (ids_of_streams (stream_ids ms)) in
      still-once (greatest (wide_ids (state_of first ms).sides.agreed)) q (flying (state_of first ms)) (next_ids (state_of first ms) a.count) _ fresh (omega (arith, same, s.once q)) (omega (arith, few, a.adds q, drawn, same, parts))

  keeps : Submission → Bool
  keeps t = is_none (ends m.what t)

  -- it keeps none
  no_live : (x : End) → ((t : Submission) → ends m.what t ≡ Some x) → live (m ∷ ms) ≡ []
  no_live x h =
      live-is ms m w
      ∙ filter-same (λ t. is_none (ends m.what t)) (λ t. false) (live ms ++ opened m.what) (every (λ t. is_none (ends m.what t) ≡ false) (λ t. ap is_none (h t)) (live ms ++ opened m.what))
      ∙ filter-none (live ms ++ opened m.what)

  not_importing : leaves m.what ≡ true → imports m.what ≡ true → ⊥
  not_importing h k = false≢true (sym (alone m.what k).stays ∙ h)

  sound-leaves : leaves m.what ≡ true → Sound (m ∷ ms)
  sound-leaves h =
      let empty = no_live ByClient (λ t. ap (λ (b : Bool). cond b (Some ByClient) (cond (is_loss m.what) (Some ByLoss) (own_end m.what t))) h) in
      let rest : abandoned (m ∷ ms) ≡ abandoned ms ++ filter (λ t. goes_by_id t.verdict) (live ms) =
      ap (λ (b : Bool). cond b (abandoned ms ++ filter (λ t. goes_by_id t.verdict) (live ms)) (cond (is_loss m.what) [] (filter (λ t. not (is_answered m.what t)) (abandoned ms)))) h in
      let long = length-append (abandoned ms) (filter (λ (t : Submission). goes_by_id t.verdict) (live ms)) in
      let short = length-filter (λ (t : Submission). goes_by_id t.verdict) (live ms) in
      record {
        few = rw empty (omega arith);
        left = rw rest (elim (cases_Bool (sides ms).imported) [
          | inl in_session ↦ let nil = ap length (s.apart in_session) in omega (arith, long, short, s.few, nil)
          | inr out ↦ let nil = ap length (s.gone out) in omega (arith, long, short, s.left, nil)
        ]);
        apart = λ k. elim (cases_Bool (imports m.what)) [
          | inl yes_it ↦ absurd (not_importing h yes_it)
          | inr not_it ↦ let z : (sides (m ∷ ms)).imported ≡ false = (λ i. cond (not_it i) true (cond (h i) false (sides ms).imported)) in absurd (false≢true (sym z ∙ k))
        ];
        gone = λ k. empty;
        once = λ q.
            let a = times-append q (ids_of (live ms)) (ids_of (abandoned ms)) in
            let b = times-append q (ids_of (live (m ∷ ms)) ++ ids_of (abandoned (m ∷ ms))) (ids_of_streams (stream_ids (m ∷ ms))) in
            let b' = times-append q (ids_of (live (m ∷ ms))) (ids_of (abandoned (m ∷ ms))) in
            let c : times q (ids_of (live (m ∷ ms))) ≡ 0 = ap (λ (l : List Submission). times q (ids_of l)) empty in
            let d' : times q (ids_of (abandoned (m ∷ ms))) ≡ times q (ids_of (abandoned ms ++ filter (λ t. goes_by_id t.verdict) (live ms))) = ap (λ (l : List Submission). times q (ids_of l)) rest in
            let e = times-ids q (abandoned ms) (filter (λ (t : Submission). goes_by_id t.verdict) (live ms)) in
            let f = filter-same-twice (live ms) q in
            let k = kept-once q (times q (ids_of (abandoned (m ∷ ms)))) (omega (arith, a, d', e, f)) in
            omega (arith, b, b', c, k);
        going = subst (Each (λ t. at_once t.verdict ≡ None)) (sym empty) tt;
      }

  sound-loses : leaves m.what ≡ false → is_loss m.what ≡ true → Sound (m ∷ ms)
  sound-loses h l =
      let empty = no_live ByLoss (λ t. λ i. cond (h i) (Some ByClient) (cond (l i) (Some ByLoss) (own_end m.what t))) in
      let rest : abandoned (m ∷ ms) ≡ [] =
      (λ i. cond (h i) (abandoned ms ++ filter (λ t. goes_by_id t.verdict) (live ms)) (cond (l i) [] (filter (λ t. not (is_answered m.what t)) (abandoned ms)))) in
      record {
        few = rw empty (omega arith);
        left = rw rest (omega arith);
        apart = λ k. rest;
        gone = λ k. empty;
        once = λ q.
            let b = times-append q (ids_of (live (m ∷ ms)) ++ ids_of (abandoned (m ∷ ms))) (ids_of_streams (stream_ids (m ∷ ms))) in
            let b' = times-append q (ids_of (live (m ∷ ms))) (ids_of (abandoned (m ∷ ms))) in
            let c : times q (ids_of (live (m ∷ ms))) ≡ 0 = ap (λ (l : List Submission). times q (ids_of l)) empty in
            let d' : times q (ids_of (abandoned (m ∷ ms))) ≡ 0 = ap (λ (l : List Submission). times q (ids_of l)) rest in
            let k = kept-once q 0 (omega arith) in
            omega (arith, b, b', c, d', k);
        going = subst (Each (λ t. at_once t.verdict ≡ None)) (sym empty) tt;
      }

  -- the new one finds room, and its id is free
  room-kept : (os : List Submission) → AtMostOne os → Each (λ t. keeps t ≡ true → length (live ms) < MAX_LIVE) os → length (live ms) + length (filter keeps os) ≤ MAX_LIVE
  unfolding keeps
  room-kept [] a r = omega (arith, s.few)
  room-kept (t ∷ []) a r = by (is_none (ends m.what t)) refl
    where
      by : (b : Bool) → is_none (ends m.what t) ≡ b → length (live ms) + length (cond b (t ∷ []) []) ≤ MAX_LIVE
      by true e = let h = r.0 e in omega arith
      by false e = omega (arith, s.few)
  room-kept (t ∷ u ∷ os) a r = absurd a

  -- nor is it answered at once where it lives on
  still-going : (os : List Submission) → Each (λ t. is_none (ends m.what t) ≡ true → at_once t.verdict ≡ None) os → Each (λ t. at_once t.verdict ≡ None) (filter (λ t. is_none (ends m.what t)) os)
  still-going [] r = tt
  still-going (t ∷ os) r = by (still-going os r.1) (is_none (ends m.what t)) refl
    where
      by : Each (λ t. at_once t.verdict ≡ None) (filter (λ t. is_none (ends m.what t)) os) → (b : Bool) → is_none (ends m.what t) ≡ b →
          Each (λ t. at_once t.verdict ≡ None) (cond b (t ∷ filter (λ t. is_none (ends m.what t)) os) (filter (λ t. is_none (ends m.what t)) os))
      by rest true e = (r.0 e, rest)
      by rest false e = rest

  none-opened : (os : List Submission) → Each (λ t. (sides ms).imported ≡ true) os → (sides ms).imported ≡ false → os ≡ []
  none-opened [] h k = refl
  none-opened (t ∷ os) h k = absurd (false≢true (sym k ∙ h.0))

  sound-stays : leaves m.what ≡ false → is_loss m.what ≡ false → Sound (m ∷ ms)
  unfolding keeps
  sound-stays h l =
      let kept = live-is ms m w in
      let parts = filter-append (λ t. is_none (ends m.what t)) (live ms) (opened m.what) in
      let rest : abandoned (m ∷ ms) ≡ filter (λ t. not (is_answered m.what t)) (abandoned ms) =
      (λ i. cond (h i) (abandoned ms ++ filter (λ t. goes_by_id t.verdict) (live ms)) (cond (l i) [] (filter (λ t. not (is_answered m.what t)) (abandoned ms)))) in
      record {
        few =
            let a = ap length (kept ∙ parts) in
            let b = length-append (filter (λ t. is_none (ends m.what t)) (live ms)) (filter (λ t. is_none (ends m.what t)) (opened m.what)) in
            let c = length-filter (λ t. is_none (ends m.what t)) (live ms) in
            let d = room-kept (opened m.what) (opened-one m.what) (Each-weaker (λ t. is_none (ends m.what t) ≡ true → length (state_of first ms).live < MAX_LIVE) (λ t. is_none (ends m.what t) ≡ true → length (live ms) < MAX_LIVE) (λ t r k. omega (arith, r k, length-map (live ms) (λ t. pending ms t))) (opened m.what) o.room) in
            omega (arith, a, b, c, d);
        left =
            let a = ap length rest in
            let b = length-filter (λ t. not (is_answered m.what t)) (abandoned ms) in
            omega (arith, a, b, s.left);
        apart = λ k. rest ∙ ap (filter (λ t. not (is_answered m.what t))) (elim (cases_Bool (imports m.what)) [
          | inl yes_it ↦ o.alone yes_it
          | inr not_it ↦ let z : (sides (m ∷ ms)).imported ≡ (sides ms).imported = (λ i. cond (not_it i) true (cond (h i) false (sides ms).imported)) in s.apart (sym z ∙ k)
        ]);
        gone = λ k.
            elim (cases_Bool (imports m.what)) [
              | inl yes_it ↦ let z : (sides (m ∷ ms)).imported ≡ true = ap (λ (b : Bool). cond b true (cond (leaves m.what) false (sides ms).imported)) yes_it in absurd (false≢true (sym k ∙ z))
              | inr not_it ↦
                  let z : (sides (m ∷ ms)).imported ≡ (sides ms).imported = (λ i. cond (not_it i) true (cond (h i) false (sides ms).imported)) in
                  let out : (sides ms).imported ≡ false = sym z ∙ k in
                  kept ∙ (λ i. filter (λ t. is_none (ends m.what t)) (s.gone out i ++ none-opened (opened m.what) o.imported out i))
            ];
        once = λ q.
            let a = times-append q (ids_of (live ms)) (ids_of (abandoned ms)) in
            let b = times-append q (ids_of (live (m ∷ ms)) ++ ids_of (abandoned (m ∷ ms))) (ids_of_streams (stream_ids (m ∷ ms))) in
            let b' = times-append q (ids_of (live (m ∷ ms))) (ids_of (abandoned (m ∷ ms))) in
            let c : times q (ids_of (live (m ∷ ms))) ≡ times q (ids_of (filter (λ t. is_none (ends m.what t)) (live ms) ++ filter (λ t. is_none (ends m.what t)) (opened m.what))) = ap (λ (l : List Submission). times q (ids_of l)) (kept ∙ parts) in
            let d' = times-ids q (filter (λ t. is_none (ends m.what t)) (live ms)) (filter (λ t. is_none (ends m.what t)) (opened m.what)) in
            let e = times-filter q (λ t. is_none (ends m.what t)) (live ms) in
            let f : times q (ids_of (abandoned (m ∷ ms))) ≡ times q (ids_of (filter (λ t. not (is_answered m.what t)) (abandoned ms))) = ap (λ (l : List Submission). times q (ids_of l)) rest in
            let g = times-filter q (λ t. not (is_answered m.what t)) (abandoned ms) in
            let k = kept-once q (times q (ids_of (filter (λ t. is_none (ends m.what t)) (live ms))) + times q (ids_of (abandoned (m ∷ ms)))) (omega (arith, a, e, f, g)) in
            omega (arith, b, b', c, d', k);
        going = subst (Each (λ t. at_once t.verdict ≡ None)) (sym (kept ∙ parts))
            (Each-append (λ t. at_once t.verdict ≡ None) (filter (λ t. is_none (ends m.what t)) (live ms)) (filter (λ t. is_none (ends m.what t)) (opened m.what))
            (Each-filter (λ t. at_once t.verdict ≡ None) (λ t. is_none (ends m.what t)) (live ms) s.going)
            (still-going (opened m.what) o.going));
      }

  sound-after : Sound (m ∷ ms)
  sound-after =
      elim (cases_Bool (leaves m.what)) [
        | inl gone ↦ sound-leaves gone
        | inr stays ↦ elim (cases_Bool (is_loss m.what)) [ inl lost ↦ sound-loses stays lost | inr kept ↦ sound-stays stays kept ]
      ]

-- ---- all items

pub sound : (first : ℕ) (xs : List Item) → Sound (past first xs)
sound first [] = record { few = omega arith; left = omega arith; apart = λ e. refl; gone = λ e. refl; once = λ q. omega arith; going = tt }
sound first (x ∷ xs) =
    elim (is_left_out (state_of first (past first xs)) x) as (λ b. Sound (cond b (past first xs) (mark_of (state_of first (past first xs)) x ∷ past first xs))) [
      | true ↦ sound first xs
      | false ↦ sound-after first (past first xs) (mark_of (state_of first (past first xs)) x) (placed-meaning (state_of first (past first xs)) x, well first xs) (opening-meaning (state_of first (past first xs)) x) refl (sound first xs)
    ]

pub flights-once : (first : ℕ) (xs : List Item) → Once (in_flight (past first xs))
flights-once first xs = (sound first xs).once

-- ---- what an item draws

-- a submit has few descriptors
few-packets : (ups : List (Option Up)) (v : Verdict) (r : Request) → length ups ≡ 32 → length r.descs ≤ 1024 → length (packets_of ups v r) ≤ 1025
few-packets ups (Now status) r long few = omega arith
few-packets ups (Wire pipe) r long few = omega arith
few-packets ups (Routed route) r long few = omega (arith, length-append (stops (is_ended (Some route)) ups) (route_packets route), few-stops (is_ended (Some route)) ups, long, few-route route)
few-packets ups (IsoOut row) r long few =
    omega (arith, length-append (starts (stream_at ups r.transfer.ep) r.transfer.ep row) (iso_packets r), few-starts (stream_at ups r.transfer.ep) r.transfer.ep row, length-map r.descs (λ (d : IsoDesc). Carrying (data_packet.Iso r.transfer.ep 0 d.length (part d.offset d.length r.transfer.body))), few)
few-packets ups (Stream row) r long few = omega (arith, few-starts (stream_at ups r.transfer.ep) r.transfer.ep row)

none-fresh : (m : ℕ) (flying : List ℕ) → AreFresh m flying []
unfolding IsDistinct
none-fresh m flying = record { fit = tt; free = tt; differ = tt }

drawn-fresh : (first : ℕ) (ms : List Mark) (e : Effect) → Sound ms → Each (λ t. length t.request.descs ≤ MAX_PACKETS) (opened e) → AreFresh (greatest (wide_ids (state_of first ms).sides.agreed)) (flying (state_of first ms)) (drawn_by (state_of first ms) e)
drawn-fresh first ms (Opens t) s few = fresh-ids first ms (length (packets_of (streams ms) t.verdict t.request)) s (few-packets (streams ms) t.verdict t.request (streams-long ms) few.0)
drawn-fresh first ms (Waits t fill) s few = fresh-ids first ms (length (packets_of (streams ms) t.verdict t.request)) s (few-packets (streams ms) t.verdict t.request (streams-long ms) few.0)
drawn-fresh first ms (Ends side) s few = fresh-ids first ms (length (asked_packets (streams ms) (Ends side))) s (few-left (is_client side || false))
  where
    few-left : (b : Bool) → length (cond b (stops (is_ended None) (streams ms)) []) ≤ 1025
    few-left true = omega (arith, few-stops (is_ended None) (streams ms), streams-long ms)
    few-left false = omega arith
drawn-fresh first ms (Refuses r) s few = fresh-ids first ms (length (asked_packets (streams ms) (Refuses r))) s (few-left (is_client r.side))
  where
    few-left : (b : Bool) → length (cond b (stops (is_ended None) (streams ms)) []) ≤ 1025
    few-left true = omega (arith, few-stops (is_ended None) (streams ms), streams-long ms)
    few-left false = omega arith
drawn-fresh first ms _ s few = none-fresh _ _

-- what is accepted is a packet's request
abbrev OpensFew : Effect → Type 0
OpensFew e = Each (λ t. length t.request.descs ≤ MAX_PACKETS) (opened e)

few-aside : HoldsAside OpensFew
few-aside = record { idle = tt; replies = λ p. tt; imports = λ p. tt; answers = λ id o. tt; refuses = λ r. tt }

few-arrival : (st : State) (ep : ℕ) (kind : StreamKind) (packet : StreamPacket) (o : Option Up) → OpensFew (arrives st ep kind packet o)
few-arrival st ep kind packet None = tt
few-arrival st ep kind packet (Some up) = tt

few-data : (st : State) (place : ℕ) (h : Header) (d : RedirData) → OpensFew (told_meaning st place h (Carrying d))
few-data st place h (data_packet.Interrupt endpoint status length body) =
    by-test OpensFew (is_in_endpoint endpoint) _ _ (few-arrival st endpoint Interrupt _ (stream_of st.streams endpoint)) (of-response OpensFew few-aside st place h _)
few-data st place h (data_packet.Iso endpoint status length body) = by-test OpensFew (is_in_endpoint endpoint) _ _ (few-arrival st endpoint Iso _ (stream_of st.streams endpoint)) tt
few-data st place h d = of-response OpensFew few-aside st place h (response_of (Carrying d))

few-told : (st : State) (place : ℕ) (h : Header) (p : RedirPacket) → OpensFew (told_meaning st place h p)
few-told st place h (Plain (plain.Hello hello)) = tt
few-told st place h (Plain plain.Disconnect) = tt
few-told st place h (Carrying d) = few-data st place h d
few-told st place h p = of-response OpensFew few-aside st place h (response_of p)

few-accepted : (st : State) (s : Submission) (v : Verdict) → length s.request.descs ≤ MAX_PACKETS → OpensFew (accepted_as st s v)
few-accepted st s (Now status) few = (few, tt)
few-accepted st s _ few = (few, tt)

few-submit : (st : State) (r : Request) (v : Verdict) → length r.descs ≤ MAX_PACKETS → OpensFew (accepts st r v)
few-submit st r v few =
    let kept = by_stream (stream_at st.streams r.transfer.ep) v in
    few-accepted st (submission st r kept (drawn_for st r kept)) kept few

few-opened : (st : State) (x : Item) → HasFewPackets x → OpensFew (meaning st x)
few-opened st (Asked place (Op p)) few = of-op OpensFew few-aside st place p
few-opened st (Asked place (Urb (urb.Submit s))) few =
    by-test OpensFew (not st.sides.imported) _ _ tt (by-test OpensFew (has_number st s.head.seqnum) _ _ tt (few-submit st (request_of s) (verdict_of st (request_of s)) few))
few-opened st (Asked place (Urb (urb.Unlink u))) few = by-test OpensFew (not st.sides.imported) _ _ tt tt
few-opened st (Asked place (Urb (urb.RetSubmit r))) few = tt
few-opened st (Asked place (Urb (urb.RetUnlink r))) few = tt
few-opened st (ClientWrong place reason) few = tt
few-opened st ClientLeft few = tt
few-opened st (Told place header packet) few = few-told st place header packet
few-opened st (HostWrong place reason) few = tt
few-opened st HostLeft few = tt

pub item-fresh : (first : ℕ) (xs : List Item) (x : Item) → HasFewPackets x → AreFresh (greatest (wide_ids (state_of first (past first xs)).sides.agreed)) (in_flight (past first xs)) (mark_of (state_of first (past first xs)) x).drawn
item-fresh first xs x few =
    subst (λ (ids : List ℕ). AreFresh (greatest (wide_ids (state_of first (past first xs)).sides.agreed)) ids (mark_of (state_of first (past first xs)) x).drawn) (flying-is first (past first xs))
    (drawn-fresh first (past first xs) (meaning (state_of first (past first xs)) x) (sound first xs) (few-opened (state_of first (past first xs)) x few))
