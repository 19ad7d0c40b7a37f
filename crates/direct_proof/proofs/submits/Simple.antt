-- A submit that goes to the host as one packet and changes nothing: by its own packet, or a get by its route.
use Rattle.std.proofs.Common.{◌≡◌, ℕ, Bool, true, false, cond, List, [], ◌∷◌, ◌++◌, length, zip, Option, Some, None, refl, sym, ap, ◌∙◌, subst, append-nil}
use Rattle.redir_wire.specs.declared.packet.RedirControl.TheVariants as plain
use Rattle.redir_data.specs.declared.packet.RedirData.{RedirData}
use Rattle.redir_data.specs.declared.packet.RedirPacket.{RedirPacket}
use Rattle.redir_data.specs.declared.packet.RedirPacket.TheVariants.{Plain, Carrying}
use Rattle.control_route.specs.declared.route.Route.TheVariants as route
use Rattle.control_route.specs.Changes.{touches}
use Rattle.control_route.specs.declared.route.Route.{Route}
use Rattle.model_device.specs.Transfer.{IsTransfer}
use Rattle.redir_host.specs.guest.Line.{Waiting as InLine, asked_line}
use Rattle.gate_history.specs.declared.request.Request.{Request}
use Rattle.gate_history.specs.declared.verdict.Pipe.{Pipe}
use Rattle.gate_history.specs.declared.verdict.Verdict.{Verdict}
use Rattle.gate_history.specs.declared.verdict.Verdict.TheVariants.{Wire, Routed, Stream}
use Rattle.gate_history.specs.client.Verdict.{goes_by_id}
use Rattle.gate_history.specs.step.Marks.{Submission, Opens}
use Rattle.gate_history.specs.client.Submits.{Pending}
use Rattle.gate_history.specs.client.Ends.{at_once, is_touched}
use Rattle.gate_history.specs.state.Ids.{last_of, draw, greatest}
use Rattle.gate_history.specs.state.Flight.{wide_ids}
use Rattle.gate_history.specs.state.StreamIds.{StreamIds, stream_ids_by, stream_ids_after, asking}
use Rattle.gate_history.specs.state.Ups.{Up, opened_streams, lower, is_ended as ends_with}
use Rattle.gate_history.specs.state.State.{State, flying, next_ids}
use Rattle.gate_history.specs.write.Packets.{packets_of, wire_packet, route_packets, stops, stop_of, stop_packet}
use Rattle.gate_history.specs.step.Meaning.{by_stream, accepted_as}
use Rattle.gate_history.proofs.lemmas.Lists.{Each, every}
use Rattle.direct_device.specs.Direct.{Load}
use Rattle.direct_device.specs.Acting.{joins_live, answered_now}
use Rattle.direct_proof.proofs.shared.New.{next_id, IsDrawn}
use Rattle.direct_proof.specs.Shared.{in_line, lines}
use Rattle.direct_proof.specs.Requests.{at_host}
use Rattle.direct_proof.specs.Cancels.{IsAsking, CanAsk, is_cancel}
use Rattle.direct_proof.specs.Loads.{FitsPipe}
use Rattle.direct_proof.proofs.heard.Hearing.{heard-as, is-data}
use Rattle.direct_proof.proofs.shared.Streaming.{IsQuiet}
use Rattle.direct_proof.proofs.submits.Submitting.{by-routed, by-wire}

-- what is known of its verdict: the packets that it sends, and that it ends no stream
pub record IsSimple (st : State) (r : Request) (v : Verdict) : Type 0 where
  pub sent : List RedirPacket
  pub qs : List (ℕ × RedirPacket)
  pub id : ℕ
  pub kept : (up : Option Up) → by_stream up v ≡ v
  pub opens : (s : Submission) → accepted_as st s v ≡ Opens s
  pub packets : packets_of st.streams v r ≡ sent
  pub last : last_of 0 (next_ids st (length sent)) ≡ id
  pub zipped : zip (next_ids st (length sent)) sent ≡ qs
  pub fresh : Each (IsDrawn st) (next_ids st (length sent)) → IsDrawn st id
  pub goes : goes_by_id v ≡ true
  pub lives : at_once v ≡ None
  pub untouched : Each (λ (p : Pending). is_touched v p.submit.verdict ≡ false) st.live
  pub streams : opened_streams v r.transfer.ep st.streams ≡ st.streams
  pub joins : (l : Load) → joins_live l v ≡ record { load = l; unlinker = None } ∷ []
  pub answered : (l : Load) → answered_now l v ≡ []
  pub line : lines qs ≡ at_host (record { id = id; load = record { request = r; verdict = v }; asked = false })
  pub asking : Each (λ (p : ℕ × RedirPacket). IsAsking p.1) qs
  pub quiet : Each IsQuiet qs
  pub stream_ids_stay : (c : StreamIds) → stream_ids_after qs c ≡ c
  pub no_cancel : Each (λ (p : ℕ × RedirPacket). is_cancel p.1 ≡ false) qs

pub simple-wire : (st : State) (r : Request) (pipe : Pipe) → IsTransfer r.transfer → FitsPipe pipe r.transfer r.transfer.setup → IsSimple st r (Wire pipe)
simple-wire st r pipe is fits = record {
  sent = wire_packet pipe r.transfer ∷ [];
  qs = (next_id st, wire_packet pipe r.transfer) ∷ [];
  id = next_id st;
  fresh = λ h. h.0;
  kept = λ up. by-wire up pipe;
  opens = λ s. refl;
  packets = refl;
  last = refl;
  zipped = refl;
  goes = refl;
  lives = refl;
  untouched = every (λ (p : Pending). is_touched (Wire pipe) p.submit.verdict ≡ false) (λ p. refl) st.live;
  streams = refl;
  joins = λ l. refl;
  answered = λ l. refl;
  line = ap (λ (l : List InLine). l ++ []) (ap (λ (p : RedirPacket). in_line (next_id st, p)) d.1 ∙ ap (asked_line 0 (next_id st)) (heard-as pipe r.transfer is fits d.0 d.1));
  asking = (subst IsAsking (sym d.1) (subst CanAsk (sym (heard-as pipe r.transfer is fits d.0 d.1)) tt), tt);
  quiet = (subst (λ (p : RedirPacket). IsQuiet (next_id st, p)) (sym d.1) (refl, refl, λ ep b. refl), tt);
  stream_ids_stay = λ c. ap (λ (p : RedirPacket). stream_ids_by (next_id st) p c) d.1;
  no_cancel = (ap is_cancel d.1, tt);
}
  where
    d : (x : RedirData) × (wire_packet pipe r.transfer ≡ Carrying x)
    d = is-data pipe r.transfer

-- no stream that is up ends with the route, and nobody waits for one that does
abbrev pub Stays : (Up → Bool) → Option Up → Type 0
Stays test None = Unit {0}
Stays test (Some up) = test up ≡ false

pub record EndsNone (st : State) (x : Route) : Type 0 where
  pub ups : Each (Stays (ends_with (Some x))) st.streams
  pub waiting : Each (λ (p : Pending). is_touched (Routed x) p.submit.verdict ≡ false) st.live

none-stopped : (test : Up → Bool) (ups : List (Option Up)) → Each (Stays test) ups → stops test ups ≡ []
none-stopped test [] h = refl
none-stopped test (None ∷ ups) h = none-stopped test ups h.1
none-stopped test (Some up ∷ ups) h = (λ i. stop_of test (Some up) ++ none-stopped test ups h.1 i) ∙ ap (λ (b : Bool). cond b (stop_packet up ∷ []) [] ++ []) h.0

none-lowered : (test : Up → Bool) (ups : List (Option Up)) → Each (Stays test) ups → lower test ups ≡ ups
none-lowered test [] h = refl
none-lowered test (None ∷ ups) h = ap (λ l. None ∷ l) (none-lowered test ups h.1)
none-lowered test (Some up ∷ ups) h = (λ i. cond (h.0 i) None (Some up) ∷ none-lowered test ups h.1 i)

-- a get ends nothing
pub get-ends : (st : State) (x : Route) → ((i : ℕ) → touches x i ≡ false) → EndsNone st x
get-ends st x h = record { ups = every (Stays (ends_with (Some x))) stays st.streams; waiting = every (λ (p : Pending). is_touched (Routed x) p.submit.verdict ≡ false) (λ p. no-touch p.submit.verdict) st.live }
  where
    stays : (o : Option Up) → Stays (ends_with (Some x)) o
    stays None = tt
    stays (Some up) = h up.row.interface

    no-touch : (u : Verdict) → is_touched (Routed x) u ≡ false
    no-touch (Stream row) = h row.interface
    no-touch _ = refl

-- those of one packet
pub simple-route : (st : State) (r : Request) (x : Route) (p : RedirPacket) → EndsNone st x → route_packets x ≡ p ∷ [] → ((id : ℕ) → in_line (id, p) ≡ at_host (record { id = id; load = record { request = r; verdict = Routed x }; asked = false })) →
    IsAsking p → ((id : ℕ) → IsQuiet (id, p)) → ((id : ℕ) (c : StreamIds) → stream_ids_by id p c ≡ c) → is_cancel p ≡ false → IsSimple st r (Routed x)
simple-route st r x p none one line asking quiet stream_ids_stay no_cancel = record {
  sent = p ∷ [];
  qs = (next_id st, p) ∷ [];
  id = next_id st;
  fresh = λ h. h.0;
  kept = λ up. by-routed up x;
  opens = λ s. refl;
  packets = (λ i. none-stopped (ends_with (Some x)) st.streams none.ups i ++ one i);
  last = refl;
  zipped = refl;
  goes = refl;
  lives = refl;
  untouched = none.waiting;
  streams = none-lowered (ends_with (Some x)) st.streams none.ups;
  joins = λ l. refl;
  answered = λ l. refl;
  line = append-nil (in_line (next_id st, p)) ∙ line (next_id st);
  asking = (asking, tt);
  quiet = (quiet (next_id st), tt);
  stream_ids_stay = λ c. stream_ids_stay (next_id st) c;
  no_cancel = (no_cancel, tt);
}

pub simple-config : (st : State) (r : Request) → IsSimple st r (Routed route.GetConfig)
simple-config st r = simple-route st r route.GetConfig (Plain plain.GetConfiguration) (get-ends st route.GetConfig (λ i. refl)) refl (λ id. refl) tt (λ id. (refl, refl, λ ep b. refl)) (λ id c. refl) refl

pub simple-alt : (st : State) (r : Request) (interface : ℕ) → IsSimple st r (Routed (route.GetAlt interface))
simple-alt st r interface = simple-route st r (route.GetAlt interface) (Plain (plain.GetAlt interface)) (get-ends st (route.GetAlt interface) (λ i. refl)) refl (λ id. refl) tt (λ id. (refl, refl, λ ep b. refl)) (λ id c. refl) refl

-- changes that end no stream
pub simple-set_config : (st : State) (r : Request) (c : ℕ) → EndsNone st (route.SetConfig c) → IsSimple st r (Routed (route.SetConfig c))
simple-set_config st r c none = simple-route st r (route.SetConfig c) (Plain (plain.SetConfiguration c)) none refl (λ id. refl) tt (λ id. (refl, refl, λ ep b. refl)) (λ id k. refl) refl

pub simple-set_alt : (st : State) (r : Request) (interface alt : ℕ) → EndsNone st (route.SetAlt interface alt) → IsSimple st r (Routed (route.SetAlt interface alt))
simple-set_alt st r interface alt none = simple-route st r (route.SetAlt interface alt) (Plain (plain.SetAlt interface alt)) none refl (λ id. refl) tt (λ id. (refl, refl, λ ep b. refl)) (λ id k. refl) refl

-- a reset goes as two packets, of which the second has the id of its answer
pub simple-reset : (st : State) (r : Request) → EndsNone st route.Reset → IsSimple st r (Routed route.Reset)
simple-reset st r none = record {
  sent = Plain plain.Reset ∷ Plain plain.GetConfiguration ∷ [];
  qs = (next_id st, Plain plain.Reset) ∷ (second, Plain plain.GetConfiguration) ∷ [];
  id = second;
  fresh = λ h. h.1.0;
  kept = λ up. by-routed up route.Reset;
  opens = λ s. refl;
  packets = (λ i. none-stopped (ends_with (Some route.Reset)) st.streams none.ups i ++ Plain plain.Reset ∷ Plain plain.GetConfiguration ∷ []);
  last = refl;
  zipped = refl;
  goes = refl;
  lives = refl;
  untouched = none.waiting;
  streams = none-lowered (ends_with (Some route.Reset)) st.streams none.ups;
  joins = λ l. refl;
  answered = λ l. refl;
  line = refl;
  asking = (tt, (tt, tt));
  quiet = ((refl, refl, λ ep b. refl), ((refl, refl, λ ep b. refl), tt));
  stream_ids_stay = λ c. refl;
  no_cancel = (refl, (refl, tt));
}
  where
    second : ℕ
    second = draw (greatest (wide_ids st.sides.agreed)) (flying st) (next_id st)
