-- The gateway reads a fact of the device: nothing but what it knows of the device changes.
use Rattle.std.proofs.Common.{◌≡◌, ℕ, ◌||◌, true, false, cond, List, [], ◌∷◌, ◌++◌, map, Option, Some, None, is_some, refl, sym, ap, ◌∙◌, subst, inl, inr, ◌⊎◌, true≢false}
use Rattle.std.specs.List.{list_any}
use Rattle.std.proofs.lemmas.Bool.{both_ways, or_right}
use Rattle.usb_base.specs.declared.endpoint.EpTable.{EpTable}
use Rattle.redir_wire.specs.declared.packet.InterfaceInfo.{InterfaceInfo}
use Rattle.redir_wire.specs.declared.packet.Connect.{Connect}
use Rattle.redir_wire.specs.declared.packet.Caps.{Caps}
use Rattle.redir_data.specs.Sent.{sent_header}
use Rattle.model_device.specs.Meaning.{Meaning}
use Rattle.gate_history.specs.declared.item.Item.TheVariants.{Told}
use Rattle.gate_history.specs.step.Marks.{Idle, Agrees}
use Rattle.gate_history.specs.state.State.{State}
use Rattle.gate_history.specs.step.Meaning.{meaning, mark_as, fact_of}
use Rattle.gate_history.specs.state.Facts.{tell}
use Rattle.usb_base.specs.declared.endpoint.EpKind.{EpKind}
use Rattle.gate_history.specs.state.Ups.{Up, stream_of}
use Rattle.direct_run.specs.Moves.{World, GateReads, move, quiet, gate_reads, gate_made}
use Rattle.direct_run.specs.Packets.{both_caps}
use Rattle.direct_proof.specs.Deeds.{as_deeds}
use Rattle.direct_proof.specs.Requests.{Coming, ran_of}
use Rattle.direct_proof.specs.Shared.{Shared, way_of, view}
use Rattle.direct_proof.specs.Tagged.{Tagged, Greeted, Plugged, ToldTable, ToldFaces, on_wire, runs_in, ran_in, packet_in, packets_in}
use Rattle.direct_proof.specs.Related.{Related}
use Rattle.direct_proof.specs.Ids.{Ids}
use Rattle.direct_proof.specs.Meets.{is_plug, is_greeting}
use Rattle.direct_proof.proofs.answers.Answered.{with_back}
use Rattle.direct_proof.proofs.shared.Backs.{early-greets, farewell-read, session-read}
use Rattle.direct_proof.proofs.shared.Streaming.{controls-read, fenced-read}
use Rattle.direct_proof.proofs.answers.Replying.{still-there}
use Rattle.direct_proof.proofs.shared.Keeps.{Keeps, keeps-quiet}
use Rattle.direct_proof.proofs.meeting.Told.{told_world, idle-made, agrees-made}

-- ---- what is read

-- how far the two have met once it is read
pub record MeetsOn {S : Type 0} (w : World S) (j : Shared) (b : Tagged) (bs : List Tagged) (caps : Caps) : Type 0 where
  pub no_ran : ran_in b ≡ []
  pub no_packet : (kind : EpKind) (ep : ℕ) → packet_in kind ep b ≡ []
  pub gate : list_any is_greeting bs ≡ false → caps ≡ both_caps
  pub before : w.host.guest.first ≡ true → bs ≡ []
  pub behind : is_some (tell w.gate.facts (fact_of (on_wire b).1)).connect ≡ true → (list_any is_greeting bs ≡ false) × (list_any is_plug bs ≡ false) × (w.host.guest.first ≡ false)
  pub known : is_some w.gate.facts.connect ≡ true → is_some (tell w.gate.facts (fact_of (on_wire b).1)).connect ≡ true
  pub announced : (is_some (tell w.gate.facts (fact_of (on_wire b).1)).connect || list_any is_plug bs) ≡ true → (is_some w.gate.facts.connect || list_any is_plug (b ∷ bs)) ≡ true
  pub tells : (is_some w.gate.facts.connect || list_any is_plug (b ∷ bs)) ≡ true → (is_some (tell w.gate.facts (fact_of (on_wire b).1)).connect || list_any is_plug bs) ≡ true
  pub plugged : list_any is_plug bs ≡ true → w.host.guest.first ≡ false

module _ {S : Type 0} (m : Meaning S) (w : World S) (j : Shared) (place : ℕ) (b : Tagged) (bs : List Tagged) (caps : Caps) (rel : Related m w (with_back j (b ∷ bs))) (on : MeetsOn w j b bs caps)
    (moved : move as_deeds m w (GateReads place) ≡ quiet (told_world (record w { to_gate = map on_wire bs }) caps (fact_of (on_wire b).1))) where
  abbrev st : State
  st = w.gate

  abbrev pub fact_world : World S
  fact_world = told_world (record w { to_gate = map on_wire bs }) caps (fact_of (on_wire b).1)

  there : st.sides.lost ≡ false
  there = still-there m w j b bs rel

  runs-same : runs_in (b ∷ bs) ≡ runs_in bs
  runs-same = ap (λ (l : List Coming). l ++ runs_in bs) on.no_ran

  related : Related m fact_world (with_back j bs)
  related = record {
    line = rel.line;
    answers = refl;
    tagged = rel.tagged.1;
    ids = subst (λ l. Ids j.debts w.submits (j.held ++ j.coming) l) runs-same rel.ids;
    real = rel.real;
    runs_at_in = rel.runs_at_in;
    before = λ h. let e = rel.before h in record { back = inr (on.before h); wire = e.wire; held = e.held; half = e.half; running = e.running };
    asked = rel.asked;
    meets = record {
      host = rel.meets.host;
      gate = on.gate;
      announced = λ h k. on.tells (rel.meets.announced h k);
      behind = on.behind;
      once = rel.meets.once.1;
      plugged = on.plugged;
      no_session = λ h k. on.known (rel.meets.no_session h k);
    };
    debts = rel.debts;
    controls = λ h. controls-read st.stream_ids w.to_host b bs (rel.controls there);
    fenced = λ h. fenced-read st.fence j.fenced w.to_host b bs (rel.fenced there);
    alone = rel.alone;
    session = λ h a. session-read m w j b bs (rel.session there (on.announced a));
    ups = rel.ups;
    down = rel.down;
    lost = λ h. absurd (both_ways st.sides.lost there h);
    sides = rel.sides;
    farewell = farewell-read w.host b bs rel.farewell;
  }

  pub keep-told : Keeps m w (with_back j (b ∷ bs)) (move as_deeds m w (GateReads place))
  keep-told = keeps-quiet m w (with_back j (b ∷ bs)) (with_back j bs) (move as_deeds m w (GateReads place)) fact_world moved related
      (λ i. record (view w (with_back j (b ∷ bs))) {
        ran = cond w.gate.sides.imported (map ran_of (runs-same i)) [];
        way = λ ep. ways (stream_of st.streams ep) ep i;
      })
    where
      ways : (up : Option Up) (ep : ℕ) → way_of up ep (b ∷ bs) ≡ way_of up ep bs
      ways None ep = refl
      ways (Some up) ep = ap (λ l. l ++ packets_in up.row.kind ep bs) (on.no_packet up.row.kind ep)

-- the gateway reads on
fact-moved : {S : Type 0} (m : Meaning S) (w : World S) (j : Shared) (place : ℕ) (b : Tagged) (bs : List Tagged) → Related m w (with_back j (b ∷ bs)) → meaning w.gate (Told place (sent_header w.gate.sides.agreed (on_wire b)) (on_wire b).1) ≡ Idle →
    move as_deeds m w (GateReads place) ≡ quiet (told_world (record w { to_gate = map on_wire bs }) w.gate.sides.agreed (fact_of (on_wire b).1))
fact-moved m w j place b bs rel idle = ap (gate_reads as_deeds w place) rel.answers
    ∙ (λ i. cond (rel.sides.reads i) (quiet (record w { to_gate = map on_wire bs })) (gate_made as_deeds (record w { to_gate = map on_wire bs }) (mark_as w.gate (idle i) (fact_of (on_wire b).1))))
    ∙ idle-made (record w { to_gate = map on_wire bs }) (fact_of (on_wire b).1)

pub keep-table : {S : Type 0} (m : Meaning S) (w : World S) (j : Shared) (place : ℕ) (t : EpTable) (bs : List Tagged) → Related m w (with_back j (ToldTable t ∷ bs)) → Keeps m w (with_back j (ToldTable t ∷ bs)) (move as_deeds m w (GateReads place))
keep-table m w j place t bs rel = keep-told m w j place (ToldTable t) bs w.gate.sides.agreed rel
    (record { no_ran = refl; no_packet = λ kind ep. refl; gate = rel.meets.gate; before = λ h. absurd (true≢false (sym (early-greets (ToldTable t) bs (rel.before h).back))); behind = rel.meets.behind; known = λ h. h; announced = λ a. a; tells = λ a. a; plugged = rel.meets.plugged })
    (fact-moved m w j place (ToldTable t) bs rel refl)

pub keep-faces : {S : Type 0} (m : Meaning S) (w : World S) (j : Shared) (place : ℕ) (t : InterfaceInfo) (bs : List Tagged) → Related m w (with_back j (ToldFaces t ∷ bs)) → Keeps m w (with_back j (ToldFaces t ∷ bs)) (move as_deeds m w (GateReads place))
keep-faces m w j place t bs rel = keep-told m w j place (ToldFaces t) bs w.gate.sides.agreed rel
    (record { no_ran = refl; no_packet = λ kind ep. refl; gate = rel.meets.gate; before = λ h. absurd (true≢false (sym (early-greets (ToldFaces t) bs (rel.before h).back))); behind = rel.meets.behind; known = λ h. h; announced = λ a. a; tells = λ a. a; plugged = rel.meets.plugged })
    (fact-moved m w j place (ToldFaces t) bs rel refl)

-- the device's coming
pub keep-plugged : {S : Type 0} (m : Meaning S) (w : World S) (j : Shared) (place : ℕ) (c : Connect) (bs : List Tagged) → Related m w (with_back j (Plugged c ∷ bs)) → Keeps m w (with_back j (Plugged c ∷ bs)) (move as_deeds m w (GateReads place))
keep-plugged m w j place c bs rel = keep-told m w j place (Plugged c) bs w.gate.sides.agreed rel
    (record {
      no_ran = refl;
      no_packet = λ kind ep. refl;
      gate = rel.meets.gate;
      before = λ h. absurd (both_ways w.host.guest.first met h);
      behind = λ h. ((rel.meets.once.0 refl).0, (rel.meets.once.0 refl).1, met);
      known = λ h. refl;
      announced = λ a. or_right (is_some w.gate.facts.connect) (true || list_any is_plug bs) refl;
      tells = λ a. refl;
      plugged = λ h. met;
    })
    (fact-moved m w j place (Plugged c) bs rel refl)
  where
    met : w.host.guest.first ≡ false
    met = rel.meets.plugged refl

-- and the host's hello
pub keep-greeted : {S : Type 0} (m : Meaning S) (w : World S) (j : Shared) (place : ℕ) (bs : List Tagged) → Related m w (with_back j (Greeted ∷ bs)) → Keeps m w (with_back j (Greeted ∷ bs)) (move as_deeds m w (GateReads place))
keep-greeted m w j place bs rel = keep-told m w j place Greeted bs both_caps rel
    (record {
      no_ran = refl;
      no_packet = λ kind ep. refl;
      gate = λ h. refl;
      before = λ h. early (rel.before h).back;
      behind = λ h. absurd (true≢false (rel.meets.behind h).0);
      known = λ h. h;
      announced = λ a. a;
      tells = λ a. a;
      plugged = rel.meets.plugged;
    })
    (ap (gate_reads as_deeds w place) rel.answers
    ∙ (λ i. cond (rel.sides.reads i) (quiet (record w { to_gate = map on_wire bs })) (gate_made as_deeds (record w { to_gate = map on_wire bs }) (mark_as w.gate (Agrees both_caps) None)))
    ∙ agrees-made (record w { to_gate = map on_wire bs }) both_caps None)
  where
    early : (Greeted ∷ bs ≡ Greeted ∷ []) ⊎ (Greeted ∷ bs ≡ []) → bs ≡ []
    early (inl e) = cc
    early (inr e) = absurd (cc)
