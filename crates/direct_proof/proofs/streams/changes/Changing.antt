-- The gateway accepts a change: the streams that it touches are stopped ahead of it, and those that wait for them end.
-- So it is at the device attached directly.
use Rattle.std.proofs.Common.{◌≡◌, ℕ, suc, ◌+◌, ◌==◌, not, Bool, true, false, cond, List, [], ◌∷◌, ◌++◌, length, map, filter, Option, Some, None, is_none, refl, sym, ap, ◌∙◌, append-nil}
use Rattle.std.specs.Prelude.{zip}
use Rattle.std.specs.List.{flat_map, list_any}
use Rattle.usb_base.specs.declared.side.Side.TheVariants.{Client}
use Rattle.usb_base.specs.declared.reason.Reason.TheVariants.{NotImported, DuplicateSeq}
use Rattle.usbip_urb.specs.declared.packet.Submit.{Submit as UrbSubmit}
use Rattle.usbip_urb.specs.declared.packet.UrbPacket.{UrbPacket}
use Rattle.usbip_urb.specs.declared.packet.UrbPacket.TheVariants as urb
use Rattle.usbip_urb.specs.declared.client.ClientPacket.TheVariants.{Urb}
use Rattle.redir_data.specs.declared.packet.RedirPacket.{RedirPacket}
use Rattle.control_route.specs.declared.route.Route.{Route}
use Rattle.model_device.specs.Meaning.{Meaning}
use Rattle.gate_history.specs.declared.request.Request.{Request}
use Rattle.gate_history.specs.client.Requests.{request_of}
use Rattle.gate_history.specs.declared.item.Item.TheVariants.{Asked}
use Rattle.gate_history.specs.declared.verdict.Verdict.{Verdict}
use Rattle.gate_history.specs.declared.verdict.Verdict.TheVariants.{Routed}
use Rattle.usb_base.specs.declared.errno.TheConstants.{ESHUTDOWN}
use Rattle.gate_history.specs.step.Marks.{Submission, Effect, Opens}
use Rattle.gate_history.specs.client.Submits.{Pending}
use Rattle.gate_history.specs.client.Ends.{End, ByStatus, ends, at_once, is_touched, answers_at}
use Rattle.gate_history.specs.state.Ids.{last_of}
use Rattle.gate_history.specs.state.State.{State, has_number, next_ids}
use Rattle.gate_history.specs.write.Packets.{stops, route_packets}
use Rattle.gate_history.specs.step.Meaning.{meaning, mark_as, refused, accepts, accepted_as, submission, drawn_for, verdict_of}
use Rattle.gate_history.specs.write.Output.{fresh}
use Rattle.gate_history.specs.state.StreamIds.{stream_ids_after}
use Rattle.gate_history.specs.write.Notes.{is_by_answer}
use Rattle.gate_history.specs.declared.note.Note.TheVariants as note
use Rattle.gate_history.specs.write.Answers.{without_packets}
use Rattle.gate_history.specs.state.Ups.{Up, stream_at, lower, is_ended}
use Rattle.gate_history.proofs.lemmas.Lists.{filter-all}
use Rattle.gate_history.proofs.lemmas.step.NoCancel.{asks-none, none-cancelled, stays-uncancelled}
use Rattle.direct_run.specs.Noted.{named}
use Rattle.direct_device.specs.Direct.{Load, Live, Direct, is_number, way_by}
use Rattle.direct_device.specs.Acting.{Answer, Submit, answers, made_of, submitted, submit_answers}
use Rattle.direct_run.specs.Moves.{World, gate_made}
use Rattle.direct_proof.specs.Deeds.{as_deeds}
use Rattle.direct_proof.proofs.performs.Performs.{itself}
use Rattle.direct_proof.proofs.streams.Keeping.{Does}
use Rattle.direct_proof.proofs.submits.Submitting.{AreBefore, by-routed}

abbrev pub change_packets : State → Route → List RedirPacket
change_packets st x = stops (is_ended (Some x)) st.streams ++ route_packets x

abbrev pub change_ids : State → Route → List ℕ
change_ids st x = next_ids st (length (change_packets st x))

abbrev pub changer : State → Request → Route → Submission
changer st r x = record { place = st.items; request = r; verdict = Routed x; id = last_of 0 (change_ids st x) }

abbrev pub touched : Route → Pending → Bool
touched x p = is_touched (Routed x) p.submit.verdict

-- ---- what it means

pub change-means : (st : State) (place : ℕ) (s : UrbSubmit) (x : Route) → st.sides.imported ≡ true → has_number st s.head.seqnum ≡ false → verdict_of st (request_of s) ≡ Routed x →
    meaning st (Asked place (Urb (urb.Submit s))) ≡ Opens (changer st (request_of s) x)
change-means st place s x imported new v =
    (λ i. cond (not (imported i)) (refused Client place NotImported) (cond (new i) (refused Client (place + 4) DuplicateSeq) (accepts st (request_of s) (v i))))
    ∙ ap (λ (y : Verdict). accepted_as st (submission st (request_of s) y (drawn_for st (request_of s) y)) y) (by-routed (stream_at st.streams (request_of s).transfer.ep) x)

-- ---- what the gateway makes of it

abbrev pub change_sent : State → Route → List (ℕ × RedirPacket)
change_sent st x = zip (change_ids st x) (change_packets st x)

abbrev pub staying : Route → List Pending → List Pending
staying x ps = filter (λ p. not (touched x p)) ps

abbrev pub ending : Route → List Pending → List UrbPacket
ending x ps = map (λ (p : Pending). without_packets p.submit.request ESHUTDOWN) (filter (touched x) ps)

abbrev pub change_world : {S : Type 0} → World S → Request → Route → World S
change_world w r x = record w {
  gate = record w.gate {
    items = suc w.gate.items;
    live = staying x w.gate.live ++ fresh (changer w.gate r x) ∷ [];
    streams = lower (is_ended (Some x)) w.gate.streams;
    stream_ids = stream_ids_after (change_sent w.gate x) w.gate.stream_ids;
    last = last_of w.gate.last (change_ids w.gate x);
  };
  to_host = w.to_host ++ change_sent w.gate x;
  submits = w.submits ++ record { seqnum = r.seqnum; id = last_of 0 (change_ids w.gate x) } ∷ [];
}

module _ (st : State) (r : Request) (x : Route) where
  abbrev e : Effect
  e = Opens (changer st r x)

  end-is : (p : Pending) → (st.items == p.submit.place) ≡ false → ends e p.submit ≡ cond (touched x p) (Some (ByStatus ESHUTDOWN)) None
  end-is p h = ap (λ (b : Bool). cond b (at_once p.submit.verdict) (cond (touched x p) (Some (ByStatus ESHUTDOWN)) None)) h

  own : ends e (changer st r x) ≡ None
  own = ap (λ (b : Bool). cond b None None) (itself st.items)

  lives : (ps : List Pending) → AreBefore st.items ps → filter (λ p. is_none (ends e p.submit)) (ps ++ fresh (changer st r x) ∷ []) ≡ staying x ps ++ fresh (changer st r x) ∷ []
  lives [] h = ap (λ (o : Option End). cond (is_none o) (fresh (changer st r x) ∷ []) []) own
  lives (p ∷ ps) h =
      let rest = lives ps h.1 in
      (λ i. cond (is_none (end-is p h.0 i)) (p ∷ rest i) (rest i)) ∙ by (touched x p)
    where
      by : (b : Bool) → cond (is_none (cond b (Some (ByStatus ESHUTDOWN)) None)) (p ∷ (staying x ps ++ fresh (changer st r x) ∷ [])) (staying x ps ++ fresh (changer st r x) ∷ []) ≡ cond (not b) (p ∷ staying x ps) (staying x ps) ++ fresh (changer st r x) ∷ []
      by true = refl
      by false = refl

  none-answer : (ps : List Pending) → AreBefore st.items ps → filter (λ p. is_by_answer (ends e p.submit)) (ps ++ fresh (changer st r x) ∷ []) ≡ []
  none-answer [] h = ap (λ (o : Option End). cond (is_by_answer o) (fresh (changer st r x) ∷ []) []) own
  none-answer (p ∷ ps) h =
      let rest = none-answer ps h.1 in
      (λ i. cond (is_by_answer (end-is p h.0 i)) (p ∷ rest i) (rest i)) ∙ by (touched x p)
    where
      by : (b : Bool) → cond (is_by_answer (cond b (Some (ByStatus ESHUTDOWN)) None)) (p ∷ []) [] ≡ []
      by true = refl
      by false = refl

  gives : (ps : List Pending) → AreBefore st.items ps → flat_map (λ (p : Pending). answers_at p.submit p.unlinker (ends e p.submit)) (ps ++ fresh (changer st r x) ∷ []) ≡ ending x ps
  gives [] h = ap (λ (o : Option End). answers_at (changer st r x) None o ++ []) own
  gives (p ∷ ps) h =
      let rest = gives ps h.1 in
      (λ i. answers_at p.submit p.unlinker (end-is p h.0 i) ++ rest i) ∙ by (touched x p)
    where
      by : (b : Bool) → answers_at p.submit p.unlinker (cond b (Some (ByStatus ESHUTDOWN)) None) ++ ending x ps ≡ map (λ (q : Pending). without_packets q.submit.request ESHUTDOWN) (cond b (p ∷ filter (touched x) ps) (filter (touched x) ps))
      by true = refl
      by false = refl

pub change-made : {S : Type 0} (w : World S) (r : Request) (x : Route) → AreBefore w.gate.items w.gate.live →
    gate_made as_deeds w (mark_as w.gate (Opens (changer w.gate r x)) None) ≡ record { world = change_world w r x; outs = map Urb (ending x w.gate.live); told = Submit r ∷ [] }
change-made {S = S} w r x before = λ i. record {
  world = record (change_world w r x) {
    gate = record (change_world w r x).gate {
      live = (asks-none (Opens (changer w.gate r x)) (λ s. refl) (filter (λ p. is_none (ends (Opens (changer w.gate r x)) p.submit)) (w.gate.live ++ fresh (changer w.gate r x) ∷ [])) ∙ lives w.gate r x w.gate.live before) i;
      abandoned = filter-all w.gate.abandoned i;
    };
    to_host = (ap (λ (l : List (ℕ × RedirPacket)). w.to_host ++ ((l ++ change_sent w.gate x) ++ [])) (none-cancelled (Opens (changer w.gate r x)) stays-uncancelled w.gate.live) ∙ ap (λ (l : List (ℕ × RedirPacket)). w.to_host ++ l) (append-nil (change_sent w.gate x))) i;
    submits = (ap (λ (ps : List Pending). w.submits ++ flat_map named ((((note.Submitted r.seqnum (last_of 0 (change_ids w.gate x)) ∷ map (λ (p : Pending). note.Answered p.submit.request.seqnum) ps) ++ []) ++ []) ++ [])) (none-answer w.gate r x w.gate.live before)) i;
  };
  outs = ap (map Urb) (gives w.gate r x w.gate.live before) i;
  told = ap (λ (ps : List Pending). ((Submit r ∷ map (λ (p : Pending). Answer p.submit.request.seqnum) ps) ++ []) ++ []) (none-answer w.gate r x w.gate.live before) i;
}

-- ---- and the device

abbrev pub loaded : Request → Route → Load
loaded r x = record { request = r; verdict = Routed x }

abbrev pub changed : {S : Type 0} → Direct S → Request → Route → Direct S
changed d r x =
    let ups : List (Option Up) = lower (is_ended (Some x)) d.streams in
    record d {
      live = filter (λ (l : Live). not (is_touched (Routed x) l.load.verdict)) d.live ++ record { load = record { request = r; verdict = Routed x }; unlinker = None } ∷ [];
      queue = d.queue ++ record { load = record { request = r; verdict = Routed x }; asked = false } ∷ [];
      streams = ups;
      way = way_by ups d.way;
    }

pub device-changes : {S : Type 0} (m : Meaning S) (d : Direct S) (r : Request) (x : Route) → made_of m d r ≡ Routed x → d.imported ≡ true → list_any (λ (l : Live). is_number r.seqnum l.load) d.live ≡ false →
    Does m d (Submit r ∷ []) (changed d r x) (map Urb (map (λ (y : Live). without_packets y.load.request ESHUTDOWN) (filter (λ (l : Live). is_touched (Routed x) l.load.verdict) d.live)))
device-changes {S = S} m d r x made imported new = record {
  same = ap (λ (v : Verdict). submitted d (record { request = r; verdict = v })) made;
  legal = ((imported, new), tt);
  outs-are = ap (map Urb) (sym (append-nil (answers m d (Submit r)) ∙ ap (λ (v : Verdict). submit_answers d (record { request = r; verdict = v })) made
      ∙ append-nil (map (λ (y : Live). without_packets y.load.request ESHUTDOWN) (filter (λ (l : Live). is_touched (Routed x) l.load.verdict) d.live))));
}
