-- The gateway reads an answer, a change's or another's: it ends its submit, or what a former client left.
use Rattle.std.proofs.Common.{◌≡◌, ℕ, ◌==◌, ◌||◌, not, Bool, true, false, cond, List, [], ◌∷◌, ◌++◌, map, filter, Option, is_some, refl, sym, ap, ◌∙◌, subst, append-nil, true≢false}
use Rattle.std.specs.List.{list_any, flat_map}
use Rattle.std.proofs.lemmas.Bool.{both_ways}
use Rattle.usbip_urb.specs.declared.client.ClientPacket.TheVariants.{Urb}
use Rattle.redir_data.specs.declared.packet.RedirPacket.{RedirPacket}
use Rattle.model_device.specs.Meaning.{Meaning}
use Rattle.gate_history.specs.step.Marks.{Submission, Fact, Effect, Answers, Mark}
use Rattle.gate_history.specs.client.Submits.{Pending}
use Rattle.gate_history.specs.client.Ends.{has_id, answers_by}
use Rattle.gate_history.specs.state.State.{State, submits}
use Rattle.gate_history.specs.state.Sound.{IsSound}
use Rattle.gate_history.specs.state.Ups.{stream_of}
use Rattle.gate_history.specs.step.Machine.{live_after}
use Rattle.gate_history.specs.step.Meaning.{fact_of}
use Rattle.gate_history.specs.state.Facts.{tell}
use Rattle.gate_history.proofs.lemmas.Lists.{filter-map, Each-filter}
use Rattle.gate_history.proofs.lemmas.step.NoCancel.{none-cancelled, stays-uncancelled}
use Rattle.direct_run.specs.declared.submitted.Submitted.{Submitted}
use Rattle.direct_run.specs.Moves.{World, GateReads, Made, move, gate_made}
use Rattle.direct_device.specs.Direct.{number, seen_of}
use Rattle.direct_device.specs.Acting.{Deed, Answer}
use Rattle.direct_proof.specs.Deeds.{as_deeds}
use Rattle.direct_proof.specs.Requests.{Coming, Debt, ran_of, debts_of, live_of}
use Rattle.direct_proof.specs.Shared.{Shared, view}
use Rattle.direct_proof.specs.Tagged.{Tagged, Answered, on_wire, runs_in}
use Rattle.direct_proof.specs.Related.{Related}
use Rattle.direct_proof.specs.Ids.{Ids}
use Rattle.direct_proof.specs.Loads.{IsComing}
use Rattle.direct_proof.specs.Meets.{is_plug}
use Rattle.direct_proof.proofs.shared.Owed.{ids-answer}
use Rattle.direct_proof.proofs.answers.Answering.{pending_has, live-left, answers-sent, answers-done}
use Rattle.direct_proof.proofs.answers.Answered.{IsDeed, reads-answer, reads-moved, answer_mark, with_back, way-read}
use Rattle.direct_proof.proofs.shared.Found.{none-named}
use Rattle.direct_proof.proofs.shared.Backs.{early-greets, farewell-read, session-read}
use Rattle.direct_proof.proofs.shared.Streaming.{controls-read, fenced-read}
use Rattle.direct_proof.proofs.shared.Sending.{TellsLittle, answer-tells}
use Rattle.direct_proof.proofs.shared.Debts.{load-waits, filter-append, debts-left, IsFor, is-for, IsLiveFor, is-live-for}
use Rattle.direct_proof.proofs.shared.Keeps.{Keeps, keeps-quiet, keeps-deed}

-- what is on the wire back is of a device that isn't lost
pub still-there : {S : Type 0} (m : Meaning S) (w : World S) (j : Shared) (b : Tagged) (bs : List Tagged) → Related m w (with_back j (b ∷ bs)) → w.gate.sides.lost ≡ false
still-there m w j b bs rel = go w.gate.sides.lost refl
  where
    go : (x : Bool) → w.gate.sides.lost ≡ x → x ≡ false
    go true h = absurd (let none : b ∷ bs ≡ [] = (rel.lost h).0 in cc)
    go false h = refl

module _ {S : Type 0} (m : Meaning S) (w : World S) (j : Shared) (place : ℕ) (c : Coming) (bs : List Tagged) (rel : Related m w (with_back j (Answered c ∷ bs))) (sound : IsSound w.gate) where
  abbrev st : State
  st = w.gate

  abbrev was : Shared
  was = with_back j (Answered c ∷ bs)

  abbrev pub answered_shared : Shared
  answered_shared = record j { back = bs; debts = filter (λ (d : Debt). not (d.id == c.id)) j.debts }

  abbrev mark : Mark
  mark = answer_mark st place c

  abbrev effect : Effect
  effect = Answers c.id (seen_of c.load c.configuration c.outcome)

  abbrev fact : Option Fact
  fact = fact_of (on_wire (Answered c)).1

  there : st.sides.lost ≡ false
  there = still-there m w j (Answered c) bs rel

  came : IsComing c
  came = rel.tagged.0

  ids : Ids j.debts w.submits (j.held ++ j.coming) (c ∷ runs_in bs)
  ids = rel.ids

  for : IsFor st c
  for = is-for st j.debts w.submits (j.held ++ j.coming) c (runs_in bs) ids (rel.debts there)

  pub answer-moved : move as_deeds m w (GateReads place) ≡ gate_made as_deeds (record w { to_gate = map on_wire bs }) mark
  answer-moved = reads-moved m w place for.place c bs rel.answers rel.sides.reads came for.found

  tells : TellsLittle st.facts (tell st.facts fact)
  tells = answer-tells st.facts c

  abbrev made : Made S Deed
  made = gate_made as_deeds (record w { to_gate = map on_wire bs }) mark

  -- as it stands, with nothing sent to the host
  world : made.world ≡ record made.world { to_host = w.to_host; submits = w.submits }
  world = λ i. record made.world {
    to_host = (ap (λ (l : List (ℕ × RedirPacket)). w.to_host ++ ((l ++ []) ++ [])) (none-cancelled effect stays-uncancelled st.live) ∙ append-nil w.to_host) i;
    submits = (ap (λ (l : List Submitted). w.submits ++ l) (none-named st c.id (seen_of c.load c.configuration c.outcome) fact) ∙ append-nil w.submits) i;
  }

  submits-left : map (λ (p : Pending). p.submit) (live_after st effect) ≡ filter (λ s. not (has_id c.id s)) (submits st)
  submits-left = ap (map (λ (p : Pending). p.submit)) (live-left st c.id (seen_of c.load c.configuration c.outcome)) ∙ sym (filter-map (λ s. not (has_id c.id s)) (λ (p : Pending). p.submit) st.live)

  known : is_some (tell st.facts fact).connect ≡ is_some st.facts.connect
  known = ap is_some tells.connect

  answer-related : Related m (record made.world { to_host = w.to_host; submits = w.submits }) answered_shared
  answer-related = record {
    line = rel.line;
    answers = refl;
    tagged = rel.tagged.1;
    ids = ids-answer j.debts w.submits (j.held ++ j.coming) (runs_in bs) c ids;
    real = Each-filter (λ (d : Debt). (d.id == 0) ≡ false) (λ (d : Debt). not (d.id == c.id)) j.debts rel.real;
    runs_at_in = rel.runs_at_in;
    before = λ h. absurd (true≢false (sym (early-greets (Answered c) bs (rel.before h).back)));
    asked = rel.asked;
    meets = record {
      host = rel.meets.host;
      gate = rel.meets.gate;
      announced = λ h k. ap (λ (b : Bool). b || list_any is_plug bs) known ∙ rel.meets.announced h k;
      behind = λ h. rel.meets.behind (sym known ∙ h);
      once = rel.meets.once.1;
      plugged = rel.meets.plugged;
      no_session = λ h k. known ∙ rel.meets.no_session h k;
    };
    debts = λ h. (λ i. debts_of (submits-left i) ++ debts_of (filter (λ s. not (has_id c.id s)) st.abandoned))
        ∙ (λ i. debts-left c.id (submits st) i ++ debts-left c.id st.abandoned i)
        ∙ sym (filter-append (λ (d : Debt). not (d.id == c.id)) (debts_of (submits st)) (debts_of st.abandoned)) ∙ ap (filter (λ (d : Debt). not (d.id == c.id))) (rel.debts there);
    controls = λ h. controls-read st.stream_ids w.to_host (Answered c) bs (rel.controls there);
    fenced = λ h. fenced-read st.fence j.fenced w.to_host (Answered c) bs (rel.fenced there);
    alone = λ h. let a = rel.alone h in (ap (filter (λ s. not (has_id c.id s))) a.0, a.1);
    session = λ h a. session-read m w j (Answered c) bs (rel.session there (ap (λ (b : Bool). b || list_any is_plug bs) (sym known) ∙ a));
    ups = rel.ups;
    down = rel.down;
    lost = λ h. absurd (both_ways st.sides.lost there h);
    sides = rel.sides;
    farewell = farewell-read w.host (Answered c) bs rel.farewell;
  }

  abbrev later : Shared
  later = answered_shared

  pub keep-answer : Keeps m w (with_back j (Answered c ∷ bs)) (move as_deeds m w (GateReads place))
  keep-answer = go st.sides.imported refl
    where
      related : Related m made.world answered_shared
      related = subst (λ (x : World S). Related m x answered_shared) (sym world) answer-related

      go : (b : Bool) → st.sides.imported ≡ b → Keeps m w (with_back j (Answered c ∷ bs)) (move as_deeds m w (GateReads place))
      go true inside = keeps-deed m w (with_back j (Answered c ∷ bs)) answered_shared (move as_deeds m w (GateReads place)) (Answer (number c.load))
          (record { deeds = r.deeds; outs = r.outs; same = r.same; allowed = r.allowed })
          (subst (λ (x : Made S Deed). Related m x.world answered_shared) (sym answer-moved) related)
        where
          live : IsLiveFor st c
          live = is-live-for st j.debts w.submits (j.held ++ j.coming) c (runs_in bs) sound ids
              (sym (append-nil (debts_of (submits st))) ∙ ap (λ (l : List Submission). debts_of (submits st) ++ debts_of l) (sym (rel.alone inside).0) ∙ rel.debts there)

          r : IsDeed m w (with_back j (Answered c ∷ bs)) (move as_deeds m w (GateReads place)) (with_back j bs) (Answer (number c.load))
          r = reads-answer m w j place for.place c bs live.pending rel.answers rel.sides.reads inside came for.found live.only live.load-is live.one-is (load-waits c.load.verdict c.load.request.transfer came.load.verdict).0
      go false out = keeps-quiet m w (with_back j (Answered c ∷ bs)) answered_shared (move as_deeds m w (GateReads place)) made.world
          (answer-moved ∙ (λ i. record { world = made.world; outs = none-sent i; told = none-done i })) related
          (λ i. record (view w (with_back j (Answered c ∷ bs))) {
            live = (ap (map live_of) none ∙ sym (ap (map live_of) (live-left st c.id (seen_of c.load c.configuration c.outcome) ∙ ap (filter (λ p. not (pending_has c.id p))) none))) i;
            ran = (ap (λ (b : Bool). cond b (map ran_of (runs_in (Answered c ∷ bs))) []) out ∙ sym (ap (λ (b : Bool). cond b (map ran_of (runs_in bs)) []) out)) i;
            way = λ ep. way-read (stream_of st.streams ep) ep c bs i;
          })
        where
          none : st.live ≡ []
          none = sound.gone out

          none-sent : made.outs ≡ []
          none-sent = answers-sent st c.id (seen_of c.load c.configuration c.outcome) mark refl ∙ ap (λ (ps : List Pending). map Urb (flat_map (λ p. answers_by p.submit (seen_of c.load c.configuration c.outcome) p.unlinker) (filter (pending_has c.id) ps))) none

          none-done : made.told ≡ []
          none-done = answers-done st c.id (seen_of c.load c.configuration c.outcome) mark refl ∙ ap (λ (ps : List Pending). map (λ p. Answer p.submit.request.seqnum) (filter (pending_has c.id) ps)) none
