-- The host reads a start or a stop of a stream, and what is shared is kept.
use Rattle.std.proofs.Common.{◌≡◌, ℕ, ◌||◌, Bool, true, false, List, [], ◌∷◌, ◌++◌, Option, Some, None, refl, sym, ap, ◌∙◌, subst, ◌+◌, ◌⊎◌, inl, inr, cond, map, arith, true≢false}
use Rattle.redir_data.specs.declared.packet.RedirPacket.{RedirPacket}
use Rattle.model_device.specs.Meaning.{Meaning}
use Rattle.redir_host.specs.guest.Line.{Waiting as InLine}
use Rattle.gate_history.proofs.lemmas.Lists.{Each-append}
use Rattle.gate_history.specs.write.Bytes.{gateway_hello}
use Rattle.direct_run.specs.Moves.{World, HostReads, move}
use Rattle.direct_proof.specs.Shared.{Shared, lines, half_line, at_hosts, in_line, view}
use Rattle.direct_proof.specs.Related.{Queued, Related}
use Rattle.direct_proof.specs.Session.{Session, down_in, runs}
use Rattle.direct_proof.specs.StreamIds.{Controls, Fenced, StatusIsKept, StreamIdIsKept, stream_id, statuses_on, stream_ids_on}
use Rattle.direct_proof.specs.Kinds.{StreamIsIn, StartOfKind, TaggedOfKind}
use Rattle.direct_proof.specs.Meets.{is_announced}
use Rattle.direct_proof.specs.Cancels.{any_change, CancelsFit, moved, left, IsAsking}
use Rattle.direct_proof.specs.Running.{stream_endpoint, started_kind, StartsFit, passes, Quits, Trails, runs_after}
use Rattle.direct_proof.proofs.streams.wires.Sorts.{IsSwitch, Switches_or, is-switch, asks-parts, line_changes}
use Rattle.direct_proof.proofs.streams.hears.Switching.{HostSwitches, host-switches}
use Rattle.direct_proof.proofs.streams.hears.SwitchedFence.{switched_world, switched-moved, unheard-moved, unfenced, stays-clean, fenced-switched}
use Rattle.std.specs.List.{list_any, AllByRecursion as Each}
use Rattle.std.proofs.lemmas.Bool.{both_ways, or_left, or_right, or_cases}
use Rattle.std.proofs.Math.Bool.{or-false}
use Rattle.std.proofs.lemmas.List.{map-append}
use Rattle.redir_data.specs.Streams.{advanced}
use Rattle.redir_host.specs.declared.state.running.Running.{Running}
use Rattle.redir_host.specs.guest.Packets.{runs_at}
use Rattle.gate_history.specs.state.Ids.{times}
use Rattle.gate_history.specs.state.Ups.{stream_of}
use Rattle.gate_history.specs.declared.facts.Facts.{Facts}
use Rattle.gate_history.proofs.lemmas.state.StreamIds.{times-append}
use Rattle.direct_proof.specs.Deeds.{as_deeds}
use Rattle.direct_proof.specs.Tagged.{Tagged, Stated, on_wire, told}
use Rattle.direct_proof.specs.Requests.{ran_of}
use Rattle.direct_proof.specs.Ids.{Ids}
use Rattle.direct_proof.specs.Stale.{asks, is_fence}
use Rattle.direct_proof.proofs.shared.Keeps.{Keeps, keeps-quiet}
use Rattle.direct_proof.proofs.streams.wires.SortsMore.{switch-stays}
use Rattle.direct_proof.proofs.streams.wires.Folds.{quits-off}
use Rattle.direct_proof.proofs.shared.Backs.{clean-append}
use Rattle.direct_proof.proofs.shared.Streaming.{statuses-append}
use Rattle.direct_proof.proofs.streams.wires.Growing.{runs-last, told-last, no-fact-told, way-stated}
use Rattle.direct_proof.proofs.shared.Sending.{meets-sent, farewell-sent}
use Rattle.direct_proof.proofs.streams.wires.Pending.{asked-pending}

-- ---- what is kept

module _ {S : Type 0} (m : Meaning S) (w : World S) (j : Shared) (rel : Related m w j) (q : ℕ × RedirPacket) (ps : List (ℕ × RedirPacket)) (wire : w.to_host ≡ q ∷ ps) (x : ℕ) (at-x : stream_endpoint q.1 ≡ Some x) where
  is_switch : IsSwitch q
  is_switch = subst (λ (o : Option ℕ). Switches_or o q) at-x (is-switch q)

  not-first : w.host.guest.first ≡ false
  not-first = go w.host.guest.first refl
    where
      heads : q ∷ ps ≡ (0, gateway_hello) ∷ [] → q ≡ (0, gateway_hello)
      heads e = cc

      none : None ≡ Some x → ⊥
      none e = cc

      go : (b : Bool) → w.host.guest.first ≡ b → b ≡ false
      go true h = absurd (none (sym (ap (λ (p : ℕ × RedirPacket). stream_endpoint p.1) (heads (sym wire ∙ (rel.before h).wire))) ∙ at-x))
      go false h = refl

  line : half_line j.half ++ lines ps ≡ at_hosts j.coming
  line = ap (λ (l : List InLine). half_line j.half ++ (l ++ lines ps)) (sym is_switch.line) ∙ ap (λ (l : List (ℕ × RedirPacket)). half_line j.half ++ lines l) (sym wire) ∙ rel.line.coming

  in-tail : Each (λ (p : ℕ × RedirPacket). StreamIsIn (stream_endpoint p.1)) (q ∷ ps)
  in-tail = subst (Each (λ (p : ℕ × RedirPacket). StreamIsIn (stream_endpoint p.1))) wire rel.line.streams_in

  asked-tail : Each (λ (p : ℕ × RedirPacket). IsAsking p.1) ps
  asked-tail = (subst (Each (λ (p : ℕ × RedirPacket). IsAsking p.1)) wire (rel.asked not-first)).1

  cancels : CancelsFit j.held ps j.coming
  cancels = subst (λ (b : Bool). CancelsFit (moved b j.held j.coming) ps (left b j.coming)) is_switch.first (subst (λ (l : List (ℕ × RedirPacket)). CancelsFit j.held l j.coming) wire rel.line.cancels).1

  -- what is in line stays so
  queued : Queued (record w { to_host = ps }) j
  queued = record {
    held = rel.line.held;
    half = rel.line.half;
    coming = line;
    loads = rel.line.loads;
    streams_in = in-tail.1;
    cancels = cancels;
    behind = rel.line.behind;
  }

  starts-tail : (changing : Bool) → StartsFit (m.table w.host.gadget) changing w.to_host → StartsFit (m.table w.host.gadget) changing ps
  starts-tail changing h = subst (λ (b : Bool). StartsFit (m.table w.host.gadget) b ps) (ap (λ (b : Bool). changing || b) is_switch.no_change ∙ or-false changing) (subst (StartsFit (m.table w.host.gadget) changing) wire h).1

  controls-at : w.gate.sides.lost ≡ false → Controls w.gate.stream_ids (q ∷ ps) j.back
  controls-at h = subst (λ (l : List (ℕ × RedirPacket)). Controls w.gate.stream_ids l j.back) wire (rel.controls h)

  here : w.host.unplugged ≡ false → w.gate.sides.lost ≡ false
  here plugged = go w.gate.sides.lost refl
    where
      go : (b : Bool) → w.gate.sides.lost ≡ b → b ≡ false
      go true h = absurd (both_ways w.host.unplugged plugged (rel.lost h).1)
      go false h = refl

  known : w.host.unplugged ≡ false → is_announced w j ≡ true
  known plugged = rel.meets.announced not-first plugged

  switch-of : Session m w j → HostSwitches m w.host w.gate.streams q
  switch-of session = host-switches m w.host w.gate.streams session.kinds rel.runs_at_in q x at-x in-tail.0 (any_change j.held || j.half)
      (subst (StartsFit (m.table w.host.gadget) (any_change j.held || j.half)) wire session.starts).0
      (subst (Each (λ (p : ℕ × RedirPacket). StartOfKind w.gate.streams (started_kind p.1))) wire session.start_kinds).0

  module _ (plugged : w.host.unplugged ≡ false) (there : w.gate.sides.lost ≡ false) (session : Session m w j) (c : HostSwitches m w.host w.gate.streams q) where
    abbrev b : Tagged
    b = Stated c.kind q.0 c.ep 0

    abbrev fenced' : Bool
    fenced' = unfenced w.gate.fence q.0 j.fenced

    abbrev later : Shared
    later = record j { back = j.back ++ b ∷ []; fenced = fenced' }

    abbrev new : World S
    new = switched_world w ps c.running (on_wire b)

    controls : Controls w.gate.stream_ids (q ∷ ps) j.back
    controls = controls-at there

    statuses : statuses_on (j.back ++ b ∷ []) ≡ statuses_on j.back ++ q.0 ∷ []
    statuses = statuses-append j.back (b ∷ [])

    new-fenced : Fenced w.gate.fence fenced' ps (j.back ++ b ∷ [])
    new-fenced = fenced-switched w.gate.fence j.fenced q ps j.back b is_switch.id statuses controls.once (subst (λ (l : List (ℕ × RedirPacket)). Fenced w.gate.fence j.fenced l j.back) wire (rel.fenced there))

    trails : Trails w.gate.fence (down_in w.gate.streams) (q ∷ ps)
    trails = subst (Trails w.gate.fence (down_in w.gate.streams)) wire session.trails

    -- a status of a stream that is down has an end behind it, or is one
    covered : down_in w.gate.streams c.ep ≡ true → ((any_change (j.held ++ j.coming) || fenced') || (is_fence w.gate.fence q.0 || false)) ≡ true
    covered down = go (or_cases (asks w.gate.fence q) (list_any (asks w.gate.fence) ps) (trails.0 (ap (passes (down_in w.gate.streams)) c.at ∙ down)))
      where
        stop : (list_any line_changes (in_line q) ≡ true) ⊎ ((is_fence w.gate.fence q.0 ≡ true) × (stream_id q ≡ q.0 ∷ [])) → is_fence w.gate.fence q.0 ≡ true
        stop (inl k) = absurd (true≢false (sym k ∙ ap (list_any line_changes) is_switch.line))
        stop (inr k) = k.0

        go : (asks w.gate.fence q ≡ true) ⊎ (list_any (asks w.gate.fence) ps ≡ true) → ((any_change (j.held ++ j.coming) || fenced') || (is_fence w.gate.fence q.0 || false)) ≡ true
        go (inl k) = or_right (any_change (j.held ++ j.coming) || fenced') (is_fence w.gate.fence q.0 || false) (or_left (is_fence w.gate.fence q.0) false (stop (asks-parts w.gate.fence q k)))
        go (inr k) = or_left (any_change (j.held ++ j.coming) || fenced') (is_fence w.gate.fence q.0 || false) (asked-pending w.gate.fence fenced' j.half ps (j.back ++ b ∷ []) j.held j.coming line new-fenced k)

    same-told : told w.gate.facts (j.back ++ b ∷ []) ≡ told w.gate.facts j.back
    same-told = told-last w.gate.facts j.back b (no-fact-told c.kind q.0 c.ep 0)

    new-session : Session m new later
    new-session = record {
      table = ap (λ (f : Facts). f.table) same-told ∙ session.table;
      faces = ap (λ (f : Facts). f.interfaces) same-told ∙ session.faces;
      clean = clean-append w.gate.fence (down_in w.gate.streams) (any_change (j.held ++ j.coming) || j.fenced) (any_change (j.held ++ j.coming) || fenced') j.back (b ∷ [])
          (stays-clean (any_change (j.held ++ j.coming)) j.fenced (is_fence w.gate.fence q.0)) session.clean (covered, tt);
      quits = λ e down. subst (λ (r : Bool). Quits w.gate.fence e r ps) (sym (c.runs-are e)) (subst (Quits w.gate.fence e (runs w.host e)) wire (session.quits e down)).1;
      trails = trails.1;
      starts = starts-tail (any_change j.held || j.half) session.starts;
      kinds = c.kinds;
      start_kinds = (subst (Each (λ (p : ℕ × RedirPacket). StartOfKind w.gate.streams (started_kind p.1))) wire session.start_kinds).1;
    }

    related : Related m new later
    related = record {
      line = queued;
      answers = ap (λ (l : List (ℕ × RedirPacket)). l ++ on_wire b ∷ []) rel.answers ∙ sym (map-append on_wire j.back (b ∷ []));
      tagged = Each-append (TaggedOfKind w.gate.streams) j.back (b ∷ []) rel.tagged ((c.is_in.low, c.is_in.high, refl), tt);
      ids = subst (Ids j.debts w.submits (j.held ++ j.coming)) (sym (runs-last j.back b refl)) rel.ids;
      real = rel.real;
      runs_at_in = c.ins;
      before = λ h. absurd (both_ways w.host.guest.first not-first h);
      asked = λ h. asked-tail;
      meets = meets-sent w j (b ∷ []) refl refl rel.meets;
      debts = rel.debts;
      controls = λ h. record {
        once = λ id. let o = controls.once id in let a = times-append id (stream_id q) (stream_ids_on ps) ∙ ap (λ (l : List ℕ). times id l + times id (stream_ids_on ps)) is_switch.id in let z = ap (times id) statuses ∙ times-append id (statuses_on j.back) (q.0 ∷ []) in omega (arith, o, a, z);
        stream_ids_kept = controls.stream_ids_kept.1;
        statuses_kept = Each-append (StatusIsKept w.gate.stream_ids) j.back (b ∷ []) controls.statuses_kept (subst (StreamIdIsKept w.gate.stream_ids q.0) c.at controls.stream_ids_kept.0, tt);
      };
      fenced = λ h. new-fenced;
      alone = rel.alone;
      session = λ h k. new-session;
      ups = rel.ups;
      down = rel.down;
      lost = λ h. absurd (both_ways w.gate.sides.lost there h);
      sides = rel.sides;
      farewell = farewell-sent new.host j.back (b ∷ []) plugged (rel.farewell.bye plugged) refl;
    }

    keep-heard : Keeps m w j (move as_deeds m w HostReads)
    keep-heard = keeps-quiet m w j later (move as_deeds m w HostReads) new (switched-moved m w q ps c wire plugged) related
        (λ i. record (view w j) { ran = cond w.gate.sides.imported (map ran_of (sym (runs-last j.back b refl) i)) []; way = λ e. sym (way-stated (stream_of w.gate.streams e) e j.back c.kind q.0 c.ep 0) i })

  -- ---- a host that is unplugged reads on

  unheard : w.host.unplugged ≡ true → Related m (record w { to_host = ps }) j
  unheard gone = record {
    line = queued;
    answers = rel.answers;
    tagged = rel.tagged;
    ids = rel.ids;
    real = rel.real;
    runs_at_in = rel.runs_at_in;
    before = λ h. absurd (both_ways w.host.guest.first not-first h);
    asked = λ h. asked-tail;
    meets = record {
      host = rel.meets.host;
      gate = rel.meets.gate;
      announced = λ h k. absurd (both_ways w.host.unplugged k gone);
      behind = rel.meets.behind;
      once = rel.meets.once;
      plugged = rel.meets.plugged;
      no_session = rel.meets.no_session;
    };
    debts = rel.debts;
    controls = λ h. let c = controls-at h in record {
      once = λ id. let o = c.once id in let a = times-append id (stream_id q) (stream_ids_on ps) in omega (arith, o, a);
      stream_ids_kept = c.stream_ids_kept.1;
      statuses_kept = c.statuses_kept;
    };
    fenced = λ h. fewer w.gate.fence j.fenced (subst (λ (l : List (ℕ × RedirPacket)). Fenced w.gate.fence j.fenced l j.back) wire (rel.fenced h));
    alone = rel.alone;
    session = λ h k. let s = rel.session h k in record {
      table = s.table;
      faces = s.faces;
      clean = s.clean;
      quits = λ e down. quits-still e (subst (Quits w.gate.fence e (runs w.host e)) wire (s.quits e down)).1;
      trails = (subst (Trails w.gate.fence (down_in w.gate.streams)) wire s.trails).1;
      starts = starts-tail (any_change j.held || j.half) s.starts;
      kinds = s.kinds;
      start_kinds = (subst (Each (λ (p : ℕ × RedirPacket). StartOfKind w.gate.streams (started_kind p.1))) wire s.start_kinds).1;
    };
    ups = rel.ups;
    down = rel.down;
    lost = rel.lost;
    sides = rel.sides;
    farewell = rel.farewell;
  }
    where
      fewer : (fence : Option ℕ) (fenced : Bool) → Fenced fence fenced (q ∷ ps) j.back → Fenced fence fenced ps j.back
      fewer None fenced h = h
      fewer (Some f) fenced h = ((λ k. let a = times-append f (stream_id q) (stream_ids_on ps) in h.0 (omega (arith, k, a))), h.1)

      quits-still : (e : ℕ) → Quits w.gate.fence e (runs_after e q.1 (runs w.host e)) ps → Quits w.gate.fence e (runs w.host e) ps
      quits-still e h = subst (λ (rs : List Running). Quits w.gate.fence e (list_any (runs_at e) rs) ps) (sym (rel.farewell.still gone)) (quits-off w.gate.fence e (runs_after e q.1 (runs w.host e)) ps h)

  keep-unheard : advanced w.host.guest q.1 ≡ w.host.guest → w.host.unplugged ≡ true → Keeps m w j (move as_deeds m w HostReads)
  keep-unheard same gone = keeps-quiet m w j j (move as_deeds m w HostReads) (record w { to_host = ps }) (unheard-moved m w q ps same wire gone) (unheard gone) refl

  pub keep-switches : Keeps m w j (move as_deeds m w HostReads)
  keep-switches = by w.host.unplugged refl
    where
      by : (b : Bool) → w.host.unplugged ≡ b → Keeps m w j (move as_deeds m w HostReads)
      by true gone = keep-unheard (switch-stays w.host.guest q x at-x) gone
      by false plugged = let s = rel.session (here plugged) (known plugged) in keep-heard plugged (here plugged) s (switch-of s)
