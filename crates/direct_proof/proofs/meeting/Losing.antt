-- The gateway reads the device's end: all that is live is answered, and nothing comes any more.
use Rattle.std.proofs.Common.{◌≡◌, ℕ, suc, ◌&&◌, not, Bool, true, false, cond, List, [], ◌∷◌, ◌++◌, map, Option, Some, None, refl, sym, ap, ◌∙◌, subst, append-nil, inl, inr, ◌⊎◌, true≢false}
use Rattle.std.specs.List.{flat_map, AllByRecursion as Each}
use Rattle.std.proofs.lemmas.Bool.{both_ways}
use Rattle.std.proofs.Math.Bool.{and-true}
use Rattle.usbip_urb.specs.declared.packet.UrbPacket.{UrbPacket}
use Rattle.usbip_urb.specs.declared.client.ClientPacket.TheVariants.{Urb}
use Rattle.redir_wire.specs.declared.packet.TheConstants.Caps.{DISCONNECT_ACK}
use Rattle.redir_wire.specs.Capability.{has}
use Rattle.redir_wire.specs.declared.packet.RedirControl.TheVariants as plain
use Rattle.redir_data.specs.declared.packet.RedirPacket.{RedirPacket}
use Rattle.redir_data.specs.declared.packet.RedirPacket.TheVariants.{Plain}
use Rattle.model_device.specs.Meaning.{Meaning}
use Rattle.redir_host.specs.guest.Line.{Waiting as InLine}
use Rattle.gate_history.specs.step.Marks.{Submission, Effect, Disconnects}
use Rattle.gate_history.specs.client.Submits.{Pending}
use Rattle.gate_history.specs.client.Ends.{ends, answers_at, lost_answer}
use Rattle.gate_history.specs.write.Output.{present, acknowledgements}
use Rattle.gate_history.specs.write.Notes as notes
use Rattle.gate_history.specs.state.Facts.{no_facts}
use Rattle.gate_history.specs.state.State.{State}
use Rattle.gate_history.specs.state.Sound.{IsSound}
use Rattle.gate_history.specs.step.Machine.{ask}
use Rattle.gate_history.specs.step.Meaning.{mark_as}
use Rattle.gate_history.specs.state.Ups.{no_streams, stream_of}
use Rattle.gate_history.specs.declared.note.Note.TheVariants as note
use Rattle.gate_history.proofs.lemmas.Lists.{filter-none, Each-append}
use Rattle.gate_history.proofs.lemmas.step.NoCancel.{none-cancelled, stays-uncancelled}
use Rattle.direct_run.specs.Noted.{named}
use Rattle.direct_run.specs.Moves.{World, GateReads, Made, move, quiet, gate_reads, gate_made}
use Rattle.direct_device.specs.Direct.{Live}
use Rattle.direct_device.specs.Acting.{Deed, Gone, Answer}
use Rattle.direct_proof.specs.Deeds.{as_deeds, when}
use Rattle.direct_proof.specs.Shared.{Shared, lines, half_line, way_of, view}
use Rattle.direct_proof.specs.Tagged.{Greeted, Bye}
use Rattle.direct_proof.specs.Requests.{live_of, load_of}
use Rattle.direct_proof.specs.Related.{Related}
use Rattle.direct_proof.specs.Cancels.{IsAsking, CancelsFit}
use Rattle.direct_proof.specs.Kinds.{StreamIsIn}
use Rattle.direct_proof.specs.Running.{stream_endpoint}
use Rattle.direct_proof.proofs.answers.Answered.{with_back}
use Rattle.direct_proof.proofs.shared.Folds.{lines-append}
use Rattle.direct_proof.proofs.shared.Fits.{fits-nil}
use Rattle.direct_proof.proofs.answers.Replying.{still-there}
use Rattle.direct_proof.proofs.meeting.First.{none-ups, all-down}
use Rattle.direct_proof.proofs.shared.Keeps.{Keeps, keeps-quiet, keeps-deed, not-gone}

module _ {S : Type 0} (m : Meaning S) (w : World S) (j : Shared) (place : ℕ) (rel : Related m w (with_back j (Bye ∷ []))) (sound : IsSound w.gate) where
  abbrev st : State
  st = w.gate

  abbrev effect : Effect
  effect = Disconnects 0

  abbrev acks : List (ℕ × RedirPacket)
  acks = acknowledgements st.sides.agreed effect

  abbrev lost_world : World S
  lost_world = record w {
    gate = record st { items = suc st.items; facts = no_facts; sides = record st.sides { lost = true }; live = []; abandoned = []; streams = no_streams; fence = None };
    to_host = w.to_host ++ acks;
    to_gate = [];
  }

  there : st.sides.lost ≡ false
  there = still-there m w j Bye [] rel

  off : w.host.unplugged ≡ true
  off = go w.host.unplugged refl
    where
      go : (b : Bool) → w.host.unplugged ≡ b → b ≡ true
      go true h = refl
      go false h = absurd (true≢false (rel.farewell.bye h))

  met : w.host.guest.first ≡ false
  met = go w.host.guest.first refl
    where
      early : (Bye ∷ [] ≡ Greeted ∷ []) ⊎ (Bye ∷ [] ≡ []) → ⊥
      early (inl e) = cc
      early (inr e) = cc

      go : (b : Bool) → w.host.guest.first ≡ b → b ≡ false
      go true h = absurd (early (rel.before h).back)
      go false h = refl

  made-is : move as_deeds m w (GateReads place) ≡ record { world = lost_world; outs = map Urb (map (λ (p : Pending). lost_answer p.submit.request p.unlinker) st.live); told = when st.sides.imported Gone }
  made-is = ap (gate_reads as_deeds w place) rel.answers
      ∙ (λ i. cond (rel.sides.reads i) (quiet (record w { to_gate = [] })) (gate_made as_deeds (record w { to_gate = [] }) (mark_as st effect None)))
      ∙ (λ i. record {
        world = record w {
          gate = record st { items = suc st.items; facts = no_facts; sides = record st.sides { lost = true }; live = map (ask effect) (filter-none (present st effect) i); abandoned = []; streams = no_streams; fence = None };
          to_host = w.to_host ++ ((none-cancelled effect stays-uncancelled st.live i ++ []) ++ acks);
          to_gate = [];
          submits = (ap (λ (ps : List Pending). w.submits ++ flat_map named (((map (λ (p : Pending). note.Answered p.submit.request.seqnum) ps ++ notes.when (st.sides.imported && not st.sides.lost) note.DeviceGone) ++ []) ++ [])) (filter-none (present st effect)) ∙ unnamed (st.sides.imported && not st.sides.lost)) i;
        };
        outs = map Urb (told (st.live ++ []) i);
        told = (ap (λ (ps : List Pending). (map (λ (p : Pending). Answer p.submit.request.seqnum) ps ++ when (st.sides.imported && not st.sides.lost) Gone) ++ []) (filter-none (present st effect)) ∙ append-nil (when (st.sides.imported && not st.sides.lost) Gone)) i;
      })
      ∙ (λ i. record { world = lost_world; outs = map Urb (map (λ (p : Pending). lost_answer p.submit.request p.unlinker) (append-nil st.live i)); told = when ((ap (λ (b : Bool). st.sides.imported && not b) there ∙ and-true st.sides.imported) i) Gone })
    where
      unnamed : (b : Bool) → w.submits ++ flat_map named ((notes.when b note.DeviceGone ++ []) ++ []) ≡ w.submits
      unnamed true = append-nil w.submits
      unnamed false = append-nil w.submits

      told : (ps : List Pending) → flat_map (λ p. answers_at p.submit p.unlinker (ends effect p.submit)) ps ≡ map (λ (p : Pending). lost_answer p.submit.request p.unlinker) ps
      told [] = refl
      told (p ∷ ps) = ap (λ (l : List UrbPacket). lost_answer p.submit.request p.unlinker ∷ l) (told ps)

  -- the acknowledgement is nothing that the host does
  acked : (b : Bool) → (lines (cond b ((0, Plain plain.DisconnectAck) ∷ []) []) ≡ []) × (Each (λ (p : ℕ × RedirPacket). IsAsking p.1) (cond b ((0, Plain plain.DisconnectAck) ∷ []) [])) × CancelsFit (j.held ++ j.coming) (cond b ((0, Plain plain.DisconnectAck) ∷ []) []) []
  acked true = (refl, (tt, tt), ((λ h. absurd (true≢false (sym h))), tt))
  acked false = (refl, tt, tt)

  stream_ids_stay : (b : Bool) → Each (λ (p : ℕ × RedirPacket). StreamIsIn (stream_endpoint p.1)) (cond b ((0, Plain plain.DisconnectAck) ∷ []) [])
  stream_ids_stay true = (tt, tt)
  stream_ids_stay false = tt

  abbrev lost_shared : Bool → Shared
  lost_shared gone = record j { back = []; gone = gone }

  related : (gone : Bool) → (st.sides.imported ≡ true → gone ≡ true) → Related m lost_world (lost_shared gone)
  related gone is = record {
    line = record {
      held = rel.line.held;
      half = rel.line.half;
      coming = ap (λ (l : List InLine). half_line j.half ++ l) (lines-append w.to_host acks ∙ ap (λ (l : List InLine). lines w.to_host ++ l) (acked (has st.sides.agreed DISCONNECT_ACK)).0 ∙ append-nil (lines w.to_host)) ∙ rel.line.coming;
      loads = rel.line.loads;
      streams_in = Each-append (λ (p : ℕ × RedirPacket). StreamIsIn (stream_endpoint p.1)) w.to_host acks rel.line.streams_in (stream_ids_stay (has st.sides.agreed DISCONNECT_ACK));
      cancels = fits-nil j.half j.held w.to_host acks j.coming rel.line.coming rel.line.cancels (acked (has st.sides.agreed DISCONNECT_ACK)).2;
      behind = rel.line.behind;
    };
    answers = refl;
    tagged = tt;
    ids = rel.ids;
    real = rel.real;
    runs_at_in = rel.runs_at_in;
    before = λ h. absurd (both_ways w.host.guest.first met h);
    asked = λ h. Each-append (λ (p : ℕ × RedirPacket). IsAsking p.1) w.to_host acks (rel.asked h) (acked (has st.sides.agreed DISCONNECT_ACK)).1;
    meets = record {
      host = rel.meets.host;
      gate = rel.meets.gate;
      announced = λ h k. absurd (both_ways w.host.unplugged k off);
      behind = λ h. absurd (true≢false (sym h));
      once = tt;
      plugged = λ h. met;
      no_session = λ h k. absurd (true≢false k);
    };
    debts = λ h. absurd (true≢false h);
    controls = λ h. absurd (true≢false h);
    fenced = λ h. absurd (true≢false h);
    alone = λ h. (refl, refl);
    session = λ h a. absurd (true≢false h);
    ups = none-ups;
    down = λ h. refl;
    lost = λ h. (refl, off, refl, refl, all-down);
    sides = record {
      reads = rel.sides.reads;
      refused = rel.sides.refused;
      gone = λ h. refl;
      seen = λ h. sym (is h);
    };
    farewell = record {
      still = rel.farewell.still;
      bye = λ h. refl;
      bye_last = tt;
    };
  }

  pub keep-bye : Keeps m w (with_back j (Bye ∷ [])) (move as_deeds m w (GateReads place))
  keep-bye = go st.sides.imported refl
    where
      no-ways : (ep : ℕ) → way_of (stream_of no_streams ep) ep [] ≡ []
      no-ways ep = ap (λ o. way_of o ep []) (all-down ep)

      go : (b : Bool) → st.sides.imported ≡ b → Keeps m w (with_back j (Bye ∷ [])) (move as_deeds m w (GateReads place))
      go true inside = keeps-deed m w (with_back j (Bye ∷ [])) (lost_shared true) (move as_deeds m w (GateReads place)) Gone (record {
        deeds = ap (λ (x : Made S Deed). x.told) made-is ∙ ap (λ (b : Bool). when b Gone) inside;
        outs = ap (λ (x : Made S Deed). x.outs) made-is ∙ ap (map Urb) (same-answers st.live);
        same = (λ i. record (view w (with_back j (Bye ∷ []))) {
          live = [];
          ran = cond st.sides.imported [] [];
          streams = no_streams;
          way = λ ep. sym (no-ways ep) i;
          gone = true;
        }) ∙ ap (λ (x : Made S Deed). view x.world (lost_shared true)) (sym made-is);
        allowed = (inside, not-gone m w (with_back j (Bye ∷ [])) rel there, ap (λ (b : Bool). cond b [] []) inside);
      })
          (subst (λ (x : Made S Deed). Related m x.world (lost_shared true)) (sym made-is) (related true (λ h. refl)))
        where
          same-answers : (ps : List Pending) → map (λ (p : Pending). lost_answer p.submit.request p.unlinker) ps ≡ map (λ (l : Live). lost_answer l.load.request l.unlinker) (map live_of ps)
          same-answers [] = refl
          same-answers (p ∷ ps) = λ i. one p.submit p.unlinker i ∷ same-answers ps i
            where
              one : (s : Submission) (by : Option ℕ) → lost_answer s.request by ≡ lost_answer (load_of s).request by
              one s None = refl
              one s (Some x) = refl
      go false out = keeps-quiet m w (with_back j (Bye ∷ [])) (lost_shared j.gone) (move as_deeds m w (GateReads place)) lost_world
          (made-is ∙ (λ i. record { world = lost_world; outs = map Urb (map (λ (p : Pending). lost_answer p.submit.request p.unlinker) (sound.gone out i)); told = when (out i) Gone }))
          (related j.gone (λ h. absurd (both_ways st.sides.imported out h)))
          (λ i. record (view w (with_back j (Bye ∷ []))) {
            live = ap (map live_of) (sound.gone out) i;
            streams = rel.down out i;
            way = λ ep. (ap (λ ups. way_of (stream_of ups ep) ep (Bye ∷ [])) (rel.down out) ∙ ap (λ o. way_of o ep (Bye ∷ [])) (all-down ep) ∙ sym (no-ways ep)) i;
          })
