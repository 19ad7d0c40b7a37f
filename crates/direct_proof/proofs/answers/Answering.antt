-- An answer that the gateway reads is the first that ran at the device attached directly, and what it sends is the
-- same.
use Rattle.std.proofs.Common.{◌≡◌, ℕ, ◌==◌, ◌≤◌, not, Bool, true, false, cond, nat_lt, List, [], ◌∷◌, ◌++◌, map, filter, Option, Some, None, is_none, refl, sym, ap, ◌∙◌, arith, append-nil}
use Rattle.std.specs.Prelude.{slice_get, drop}
use Rattle.std.specs.List.{find, flat_map}
use Rattle.usb_base.specs.declared.transfer.Outcome.{Outcome}
use Rattle.usb_base.specs.declared.refusal.Refusal.{Refusal}
use Rattle.usb_base.specs.Status.{status_byte}
use Rattle.usbip_urb.specs.declared.client.ClientPacket.TheVariants.{Urb}
use Rattle.redir_wire.specs.declared.packet.Header.{Header}
use Rattle.redir_data.specs.declared.packet.RedirPacket.{RedirPacket}
use Rattle.redir_data.specs.Sent.{sent_header}
use Rattle.redir_data.specs.declared.stream_kind.StreamKind.TheVariants.{Interrupt}
use Rattle.control_route.specs.declared.route.Route.{Route}
use Rattle.control_route.specs.declared.route.Route.TheVariants as route
use Rattle.model_device.specs.Transfer.{IsOutcome}
use Rattle.model_device.specs.Meaning.{Meaning}
use Rattle.model_device.specs.Gadget.{IsNamed}
use Rattle.redir_host.specs.write.Answers.{answer_by, alt_in}
use Rattle.gate_history.specs.declared.request.Request.{Request}
use Rattle.gate_history.specs.declared.item.Item.TheVariants.{Told}
use Rattle.gate_history.specs.declared.verdict.Pipe.TheVariants.{Control, Bulk, InterruptOut}
use Rattle.gate_history.specs.declared.verdict.Verdict.{Verdict}
use Rattle.gate_history.specs.declared.verdict.Verdict.TheVariants.{Now, Wire, Routed, IsoOut, Stream}
use Rattle.gate_history.specs.step.Marks.{Submission, Effect, Answers, Mark}
use Rattle.gate_history.specs.client.Submits.{Pending}
use Rattle.gate_history.specs.client.Ends.{ByAnswer, has_id, ends, is_waiting, answers_at, answers_by}
use Rattle.gate_history.specs.state.State.{State, submits}
use Rattle.gate_history.specs.host.Responses.{Response, Data, Status, response_of, answer_kind, told_outcome, outcome}
use Rattle.gate_history.specs.step.Meaning.{meaning, answered_as, answer_to, by_response, by_arrival}
use Rattle.gate_history.specs.step.Machine.{live_after}
use Rattle.gate_history.specs.write.Output.{present, to_client}
use Rattle.gate_history.specs.write.Notes.{is_by_answer}
use Rattle.gate_history.proofs.lemmas.Lists.{every, Each, filter-same, filter-map, flat_map-same, flat_map-filter}
use Rattle.gate_history.proofs.lemmas.step.NoCancel.{asks-none}
use Rattle.direct_device.specs.Direct.{Live, Ran, Direct, number, is_number, seen_by, normal_by, as_submission}
use Rattle.direct_device.specs.Acting.{Answer, act, answers, answered_by, answers_of, ran_answers, filled_by, filled_answers, cut_for, without_number}
use Rattle.direct_proof.specs.Deeds.{deeds_of, answer_deeds}
use Rattle.direct_proof.specs.Requests.{form_by, queued_transfer, live_of, load_of}
use Rattle.direct_proof.specs.Loads.{FitsVerdict}
use Rattle.direct_proof.proofs.answers.Loads.{IsSeen, answer-seen, read-as}
use Rattle.direct_proof.proofs.performs.Performs.{itself}

-- ---- what an answer means

abbrev pub one : ℕ → Request → Verdict → ℕ → Submission
one place r v id = record { place = place; request = r; verdict = v; id = id }

-- the request that has the id is answered by data of its endpoint, and of no more than it wants
data-means : (st : State) (place k : ℕ) (h : Header) (r : Request) (v : Verdict) (length_place : ℕ) (o : Outcome) → find (has_id h.id) (submits st ++ st.abandoned) ≡ Some (one k r v h.id) →
    (h.kind == answer_kind v) ≡ true → nat_lt r.transfer.wanted o.done ≡ false →
    answer_to st place h (Data r.transfer.ep length_place o) (find (has_id h.id) (submits st ++ st.abandoned)) ≡ Answers h.id o
data-means st place k h r v length_place o found kind few =
    ap (answer_to st place h (Data r.transfer.ep length_place o)) found
    ∙ ap (answered_as h.id o) (right _ _ _ (h.kind == answer_kind v) kind (r.transfer.ep == r.transfer.ep) (itself r.transfer.ep) (nat_lt r.transfer.wanted o.done) few)
  where
    right : (x y z : Refusal) (a : Bool) → a ≡ true → (b : Bool) → b ≡ true → (c : Bool) → c ≡ false → cond (not a) (Some x) (cond (not b) (Some y) (cond c (Some z) None)) ≡ None
    right x y z a i b j c k = λ t. cond (not (i t)) (Some x) (cond (not (j t)) (Some y) (cond (k t) (Some z) None))

status-means : (st : State) (place k : ℕ) (h : Header) (r : Request) (v : Verdict) (status value : ℕ) → find (has_id h.id) (submits st ++ st.abandoned) ≡ Some (one k r v h.id) →
    (h.kind == answer_kind v) ≡ true → answer_to st place h (Status status value) (find (has_id h.id) (submits st ++ st.abandoned)) ≡ Answers h.id (told_outcome r v (Status status value))
status-means st place k h r v status value found kind =
    ap (answer_to st place h (Status status value)) found
    ∙ ap (answered_as h.id (told_outcome r v (Status status value))) (right _ (h.kind == answer_kind v) kind)
  where
    right : (x : Refusal) (a : Bool) → a ≡ true → cond a None (Some x) ≡ None
    right x a i = λ t. cond (i t) None (Some x)

few-done : (a b : ℕ) → a ≤ b → nat_lt b a ≡ false
few-done a b h = grind (arith, h)

abbrev answer_packet : ℕ → Request → Verdict → Outcome → RedirPacket
answer_packet configuration r v o = answer_by configuration (form_by r v) (queued_transfer (record { request = r; verdict = v })).ep o

pub answer-means : (st : State) (place k id : ℕ) (r : Request) (v : Verdict) (configuration : ℕ) (o : Outcome) → FitsVerdict v r.transfer → IsOutcome (normal_by r v) o → IsNamed o.status →
    find (has_id id) (submits st ++ st.abandoned) ≡ Some (one k r v id) →
    meaning st (Told place (sent_header st.sides.agreed (id, answer_packet configuration r v o)) (answer_packet configuration r v o)) ≡ Answers id (seen_by r v configuration o)
answer-means st place k id r (Now status) configuration o fits is named found = absurd fits
answer-means st place k id r (IsoOut row) configuration o fits is named found = absurd fits
answer-means st place k id r (Stream row) configuration o fits is named found = absurd fits
answer-means st place k id r (Wire Control) configuration o fits is named found =
    data-means st place k (sent_header st.sides.agreed (id, answer_packet configuration r (Wire Control) o)) r (Wire Control) 8 _ found refl (few-done o.done r.transfer.wanted is.done)
    ∙ ap (Answers id) (read-as o named)
answer-means st place k id r (Wire Bulk) configuration o fits is named found =
    data-means st place k (sent_header st.sides.agreed (id, answer_packet configuration r (Wire Bulk) o)) r (Wire Bulk) 2 _ found refl (few-done o.done r.transfer.wanted is.done)
    ∙ ap (Answers id) (read-as o named)
answer-means st place k id r (Wire InterruptOut) configuration o fits is named found =
    let h = sent_header st.sides.agreed (id, answer_packet configuration r (Wire InterruptOut) o) in
    ap (λ (b : Bool). cond b (by_arrival st r.transfer.ep Interrupt (status_byte o.status) o.body) (by_response st place h (cond b None (Some (Data r.transfer.ep 2 (outcome (status_byte o.status) o.done o.body)))))) fits.2
    ∙ data-means st place k h r (Wire InterruptOut) 2 (outcome (status_byte o.status) o.done o.body) found refl (few-done o.done r.transfer.wanted is.done)
    ∙ ap (Answers id) (read-as o named)
answer-means st place k id r (Routed x) configuration o fits is named found = routed x found (answer-seen r (Routed x) configuration o fits named)
  where
    is-it : (b value : ℕ) (z : Response) → Some (Status b value) ≡ Some z → Status b value ≡ z
    is-it b value z e = cc

    header : Route → Header
    header y = sent_header st.sides.agreed (id, answer_packet configuration r (Routed y) o)

    by_status : (y : Route) (value : ℕ) → find (has_id id) (submits st ++ st.abandoned) ≡ Some (one k r (Routed y) id) → IsSeen r (Routed y) configuration o (answer_packet configuration r (Routed y) o) →
        Some (Status (status_byte o.status) value) ≡ response_of (answer_packet configuration r (Routed y) o) → (h : Header) → h.id ≡ id → (h.kind == answer_kind (Routed y)) ≡ true →
        answer_to st place (record h { id = id }) (Status (status_byte o.status) value) (find (has_id id) (submits st ++ st.abandoned)) ≡ Answers id (seen_by r (Routed y) configuration o)
    by_status y value f s told h same kind =
        status-means st place k (record h { id = id }) r (Routed y) (status_byte o.status) value f kind
        ∙ ap (λ (z : Response). Answers id (told_outcome r (Routed y) z)) (is-it (status_byte o.status) value s.response (told ∙ s.response-is))
        ∙ ap (Answers id) s.seen-is

    routed : (y : Route) → find (has_id id) (submits st ++ st.abandoned) ≡ Some (one k r (Routed y) id) → IsSeen r (Routed y) configuration o (answer_packet configuration r (Routed y) o) →
        meaning st (Told place (header y) (answer_packet configuration r (Routed y) o)) ≡ Answers id (seen_by r (Routed y) configuration o)
    routed (route.SetConfig c) f s = by_status (route.SetConfig c) configuration f s refl (header (route.SetConfig c)) refl refl
    routed route.GetConfig f s = by_status route.GetConfig configuration f s refl (header route.GetConfig) refl refl
    routed (route.SetAlt i a) f s = by_status (route.SetAlt i a) a f s refl (header (route.SetAlt i a)) refl refl
    routed (route.GetAlt i) f s = by_status (route.GetAlt i) (alt_in o) f s refl (header (route.GetAlt i)) refl refl
    routed route.Reset f s = by_status route.Reset configuration f s refl (header route.Reset) refl refl
    routed route.Local f s = by_status route.Local configuration f s refl (header route.Local) refl refl
    routed route.Plain f s = by_status route.Plain configuration f s refl (header route.Plain) refl refl
    routed route.Bad f s = by_status route.Bad configuration f s refl (header route.Bad) refl refl

-- ---- what the gateway makes of it

abbrev pub pending_has : ℕ → Pending → Bool
pending_has id p = has_id id p.submit

pub live-left : (st : State) (id : ℕ) (o : Outcome) → live_after st (Answers id o) ≡ filter (λ p. not (pending_has id p)) st.live
live-left st id o =
    asks-none (Answers id o) (λ s. refl) (filter (λ p. is_none (ends (Answers id o) p.submit)) (present st (Answers id o)))
    ∙ ap (filter (λ p. is_none (ends (Answers id o) p.submit))) (append-nil st.live)
    ∙ filter-same (λ p. is_none (ends (Answers id o) p.submit)) (λ p. not (pending_has id p)) st.live (every (λ p. is_none (ends (Answers id o) p.submit) ≡ not (pending_has id p)) by-none st.live)
  where
    by-none : (p : Pending) → is_none (ends (Answers id o) p.submit) ≡ not (pending_has id p)
    by-none p = elim (pending_has id p) as (λ b. is_none (cond b (Some (ByAnswer o)) None) ≡ not b) [ true ↦ refl | false ↦ refl ]

pub answers-sent : (st : State) (id : ℕ) (o : Outcome) (m : Mark) → m.what ≡ Answers id o → to_client st m ≡ map Urb (flat_map (λ p. answers_by p.submit o p.unlinker) (filter (pending_has id) st.live))
answers-sent st id o m what =
    ap (λ (e : Effect). to_client st (record m { what = e })) what
    ∙ ap (λ (ps : List Pending). map Urb (flat_map (λ p. answers_at p.submit p.unlinker (ends (Answers id o) p.submit)) ps)) (append-nil st.live)
    ∙ ap (map Urb)
    (flat_map-same (λ p. answers_at p.submit p.unlinker (ends (Answers id o) p.submit)) (λ p. cond (pending_has id p) (answers_by p.submit o p.unlinker) []) st.live
    (every (λ p. answers_at p.submit p.unlinker (ends (Answers id o) p.submit) ≡ cond (pending_has id p) (answers_by p.submit o p.unlinker) []) by-one st.live)
    ∙ sym (flat_map-filter (λ p. answers_by p.submit o p.unlinker) (pending_has id) st.live))
  where
    by-one : (p : Pending) → answers_at p.submit p.unlinker (ends (Answers id o) p.submit) ≡ cond (pending_has id p) (answers_by p.submit o p.unlinker) []
    by-one p = elim (pending_has id p) as (λ b. answers_at p.submit p.unlinker (cond b (Some (ByAnswer o)) None) ≡ cond b (answers_by p.submit o p.unlinker) []) [ true ↦ refl | false ↦ refl ]

pub answers-done : (st : State) (id : ℕ) (o : Outcome) (m : Mark) → m.what ≡ Answers id o → deeds_of st m ≡ map (λ p. Answer p.submit.request.seqnum) (filter (pending_has id) st.live)
answers-done st id o m what =
    ap (λ (e : Effect). deeds_of st (record m { what = e })) what
    ∙ append-nil (answer_deeds st (Answers id o) ++ []) ∙ append-nil (answer_deeds st (Answers id o))
    ∙ ap (λ (ps : List Pending). map (λ p. Answer p.submit.request.seqnum) (filter (λ p. is_by_answer (ends (Answers id o) p.submit)) ps)) (append-nil st.live)
    ∙ ap (map (λ (p : Pending). Answer p.submit.request.seqnum))
    (filter-same (λ p. is_by_answer (ends (Answers id o) p.submit)) (pending_has id) st.live (every (λ p. is_by_answer (ends (Answers id o) p.submit) ≡ pending_has id p) by-answer st.live))
  where
    by-answer : (p : Pending) → is_by_answer (ends (Answers id o) p.submit) ≡ pending_has id p
    by-answer p = elim (pending_has id p) as (λ b. is_by_answer (cond b (Some (ByAnswer o)) None) ≡ b) [ true ↦ refl | false ↦ refl ]

-- ---- and the device

-- the one live submit that has the id is the one that has the number
abbrev pub AreOne : ℕ → ℕ → List Pending → Type 0
AreOne id n ps = Each (λ (p : Pending). pending_has id p ≡ is_number n (load_of p.submit)) ps

pub live-same : (id n : ℕ) (ps : List Pending) → AreOne id n ps → map live_of (filter (λ p. not (pending_has id p)) ps) ≡ without_number n (map live_of ps)
live-same id n ps h =
    ap (map live_of) (filter-same (λ p. not (pending_has id p)) (λ p. not (is_number n (load_of p.submit))) ps (nots ps h))
    ∙ sym (filter-map (λ (l : Live). not (is_number n l.load)) live_of ps)
  where
    nots : (xs : List Pending) → AreOne id n xs → Each (λ (p : Pending). not (pending_has id p) ≡ not (is_number n (load_of p.submit))) xs
    nots [] z = tt
    nots (x ∷ xs) z = (ap not z.0, nots xs z.1)

pub found-same : (id n : ℕ) (ps : List Pending) → AreOne id n ps → (p : Pending) → filter (pending_has id) ps ≡ p ∷ [] → find (λ (l : Live). is_number n l.load) (map live_of ps) ≡ Some (live_of p)
found-same id n [] h p e = absurd (cc)
found-same id n (x ∷ xs) h p e = go (pending_has id x) refl e (found-same id n xs h.1 p)
  where
    go : (b : Bool) → pending_has id x ≡ b → cond b (x ∷ filter (pending_has id) xs) (filter (pending_has id) xs) ≡ p ∷ [] → (filter (pending_has id) xs ≡ p ∷ [] → find (λ (l : Live). is_number n l.load) (map live_of xs) ≡ Some (live_of p)) →
        cond (is_number n (load_of x.submit)) (Some (live_of x)) (find (λ (l : Live). is_number n l.load) (map live_of xs)) ≡ Some (live_of p)
    go true i z rest = ap (λ (b : Bool). cond b (Some (live_of x)) (find (λ (l : Live). is_number n l.load) (map live_of xs))) (sym h.0 ∙ i) ∙ ap (λ (y : Pending). Some (live_of y)) (heads z)
      where
        heads : x ∷ filter (pending_has id) xs ≡ p ∷ [] → x ≡ p
        heads w = cc
    go false i z rest = ap (λ (b : Bool). cond b (Some (live_of x)) (find (λ (l : Live). is_number n l.load) (map live_of xs))) (sym h.0 ∙ i) ∙ rest z

-- the first that ran is answered
pub device-answers : {S : Type 0} (m : Meaning S) (d : Direct S) (n : ℕ) (l : Live) (r : Ran) (rs : List Ran) → find (λ (y : Live). is_number n y.load) d.live ≡ Some l → is_waiting l.load.verdict ≡ false → d.ran ≡ r ∷ rs →
    (act m d (Answer n) ≡ record d { live = without_number (number l.load) d.live; ran = rs }) × (answers m d (Answer n) ≡ answers_by (as_submission l.load) r.outcome l.unlinker)
device-answers {S = S} m d n l r rs found by_id ran = (
  ap (answered_by d) found ∙ (λ i. cond (by_id i) (filled_by d l.load (cut_for d l.load)) (record d { live = without_number (number l.load) d.live; ran = drop 1 (ran i) })),
  ap (answers_of d) found ∙ (λ i. cond (by_id i) (filled_answers l.load (cut_for d l.load)) (ran_answers l (slice_get (ran i) 0))),
)

-- an answer doesn't read what names a submit
pub bare-answers : (s : Submission) (o : Outcome) (by : Option ℕ) → answers_by (as_submission (load_of s)) o by ≡ answers_by s o by
bare-answers s o None = refl
bare-answers s o (Some by) = refl
