-- The gateway reads an answer: what comes of that is the item A of the device attached directly.
use Rattle.std.proofs.Common.{◌≡◌, ℕ, ◌==◌, Bool, true, false, cond, List, [], ◌∷◌, ◌++◌, map, filter, Option, Some, None, refl, sym, ap, ◌∙◌, subst, append-nil}
use Rattle.std.specs.Prelude.{slice_get, IsSomeAnd}
use Rattle.std.specs.List.{find, flat_map}
use Rattle.usb_base.specs.declared.transfer.Outcome.{Outcome}
use Rattle.usbip_urb.specs.declared.client.ClientPacket.TheVariants.{Urb}
use Rattle.redir_data.specs.Sent.{sent_header}
use Rattle.model_device.specs.Meaning.{Meaning}
use Rattle.gate_history.specs.declared.item.Item.{Item as GateItem}
use Rattle.gate_history.specs.declared.item.Item.TheVariants.{Told}
use Rattle.gate_history.specs.step.Marks.{Answers, Mark}
use Rattle.gate_history.specs.client.Submits.{Pending}
use Rattle.gate_history.specs.client.Ends.{has_id, is_waiting, answers_by}
use Rattle.gate_history.specs.state.State.{State, submits}
use Rattle.gate_history.specs.step.Meaning.{mark_as, told_by}
use Rattle.gate_history.specs.state.Ups.{Up, stream_of}
use Rattle.direct_run.specs.Moves.{World, GateReads, Made, move, gate_reads, gate_made, quiet}
use Rattle.direct_device.specs.Direct.{Load, Live, Ran, Direct, number, is_number, seen_of, as_submission}
use Rattle.direct_device.specs.Acting.{Deed, Answer, act, answers, without_number}
use Rattle.direct_device.specs.Legal.{IsAllowed, CanAnswerBy}
use Rattle.direct_proof.specs.Deeds.{as_deeds}
use Rattle.direct_proof.specs.Requests.{Coming, ran_of, live_of, load_of}
use Rattle.direct_proof.specs.Tagged.{Tagged, Answered, on_wire, runs_in}
use Rattle.direct_proof.specs.Shared.{Shared, way_of, view}
use Rattle.direct_proof.specs.Loads.{IsComing}
use Rattle.direct_proof.proofs.performs.Performs.{itself}
use Rattle.direct_proof.proofs.answers.Answering.{one, answer-means, pending_has, live-left, answers-sent, answers-done, AreOne, live-same, found-same, device-answers, bare-answers}

-- what a move did is this deed of the device attached directly
pub record IsDeed {S : Type 0} (m : Meaning S) (w : World S) (j : Shared) (made : Made S Deed) (later : Shared) (x : Deed) : Type 0 where
  pub deeds : made.told ≡ x ∷ []
  pub outs : made.outs ≡ map Urb (answers m (view w j) x)
  pub same : act m (view w j) x ≡ view made.world later
  pub allowed : IsAllowed m (view w j) x

pub way-read : (up : Option Up) (ep : ℕ) (c : Coming) (bs : List Tagged) → way_of up ep (Answered c ∷ bs) ≡ way_of up ep bs
way-read None ep c bs = refl
way-read (Some up) ep c bs = refl

abbrev pub with_back : Shared → List Tagged → Shared
with_back j bs = record j { back = bs }

abbrev pub answer_item : State → ℕ → Coming → GateItem
answer_item st place c = Told place (sent_header st.sides.agreed (on_wire (Answered c))) (on_wire (Answered c)).1

abbrev pub answer_mark : State → ℕ → Coming → Mark
answer_mark st place c = mark_as st (Answers c.id (seen_of c.load c.configuration c.outcome)) (told_by (answer_item st place c))

pub reads-moved : {S : Type 0} (m : Meaning S) (w : World S) (place k : ℕ) (c : Coming) (bs : List Tagged) →
    w.to_gate ≡ map on_wire (Answered c ∷ bs) → w.gate.sides.host_over ≡ false → IsComing c →
    find (has_id c.id) (submits w.gate ++ w.gate.abandoned) ≡ Some (one k c.load.request c.load.verdict c.id) →
    move as_deeds m w (GateReads place) ≡ gate_made as_deeds (record w { to_gate = map on_wire bs }) (answer_mark w.gate place c)
reads-moved m w place k c bs wire open_ is found =
    ap (gate_reads as_deeds w place) wire
    ∙ (λ i. cond (open_ i) (quiet (record w { to_gate = map on_wire bs })) (gate_made as_deeds (record w { to_gate = map on_wire bs }) (mark_as w.gate (answer-means w.gate place k c.id c.load.request c.load.verdict c.configuration c.outcome is.load.verdict is.outcome is.status found i) (told_by (answer_item w.gate place c)))))

pub reads-answer : {S : Type 0} (m : Meaning S) (w : World S) (j : Shared) (place k : ℕ) (c : Coming) (bs : List Tagged) (p : Pending) →
    w.to_gate ≡ map on_wire (Answered c ∷ bs) → w.gate.sides.host_over ≡ false → w.gate.sides.imported ≡ true → IsComing c →
    find (has_id c.id) (submits w.gate ++ w.gate.abandoned) ≡ Some (one k c.load.request c.load.verdict c.id) →
    filter (pending_has c.id) w.gate.live ≡ p ∷ [] → load_of p.submit ≡ c.load → AreOne c.id (number c.load) w.gate.live → is_waiting c.load.verdict ≡ false →
    IsDeed m w (with_back j (Answered c ∷ bs)) (move as_deeds m w (GateReads place)) (with_back j bs) (Answer (number c.load))
reads-answer {S = S} m w j place k c bs p wire open_ imported is found only load-is one-is by_id = record {
  deeds = ap (λ (x : Made S Deed). x.told) moved
      ∙ answers-done st c.id o mark refl ∙ ap (map (λ (q : Pending). Answer q.submit.request.seqnum)) only ∙ ap (λ (l : Load). Answer (number l) ∷ []) load-is;
  outs = ap (λ (x : Made S Deed). x.outs) moved
      ∙ answers-sent st c.id o mark refl ∙ ap (λ (ps : List Pending). map Urb (flat_map (λ q. answers_by q.submit o q.unlinker) ps)) only
      ∙ ap (map Urb) (append-nil (answers_by p.submit o p.unlinker) ∙ sym (bare-answers p.submit o p.unlinker) ∙ sym device.1);
  same = device.0
      ∙ (λ i. record d {
        live = (ap (λ (l : Load). without_number (number l) d.live) load-is ∙ sym (ap (map live_of) (live-left st c.id o) ∙ live-same c.id (number c.load) st.live one-is)) i;
        ran = (sym (ap (λ (b : Bool). cond b (map ran_of (runs_in bs)) []) imported)) i;
        way = λ ep. way-read (stream_of st.streams ep) ep c bs i;
      })
      ∙ ap (λ (x : Made S Deed). view x.world (with_back j bs)) (sym moved);
  allowed = (
    imported,
    subst (λ (o : Option Live). IsSomeAnd o (λ l. CanAnswerBy d l.load (is_waiting l.load.verdict))) (sym here) (subst (CanAnswerBy d (load_of p.submit)) (sym waits-not)
        (subst (λ (rs : List Ran). IsSomeAnd (slice_get rs 0) (λ r. is_number (number (load_of p.submit)) r.load ≡ true)) (sym ran-is) (ap (λ (l : Load). number c.load == number l) load-is ∙ itself (number c.load)))),
  );
}
  where
    st : State
    st = w.gate

    d : Direct S
    d = view w (with_back j (Answered c ∷ bs))

    o : Outcome
    o = seen_of c.load c.configuration c.outcome

    mark : Mark
    mark = answer_mark st place c

    moved : move as_deeds m w (GateReads place) ≡ gate_made as_deeds (record w { to_gate = map on_wire bs }) mark
    moved = reads-moved m w place k c bs wire open_ is found

    here : find (λ (l : Live). is_number (number c.load) l.load) d.live ≡ Some (live_of p)
    here = found-same c.id (number c.load) st.live one-is p only

    waits-not : is_waiting (load_of p.submit).verdict ≡ false
    waits-not = ap (λ (l : Load). is_waiting l.verdict) load-is ∙ by_id

    ran-is : d.ran ≡ ran_of c ∷ map ran_of (runs_in bs)
    ran-is = ap (λ (b : Bool). cond b (map ran_of (runs_in (Answered c ∷ bs))) []) imported

    device : (act m d (Answer (number c.load)) ≡ record d { live = without_number (number (load_of p.submit)) d.live; ran = map ran_of (runs_in bs) }) × (answers m d (Answer (number c.load)) ≡ answers_by (as_submission (load_of p.submit)) o p.unlinker)
    device = device-answers m d (number c.load) (live_of p) (ran_of c) (map ran_of (runs_in bs)) here waits-not ran-is
