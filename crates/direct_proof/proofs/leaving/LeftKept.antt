-- A client that has imported leaves: its cancels and stops go behind what is on the wire. What is shared is kept, and
-- the device attached directly does as its item says.
use Rattle.std.proofs.Common.{◌≡◌, ℕ, ◌||◌, Bool, true, false, List, [], ◌++◌, length, map, filter, refl, sym, ap, ◌∙◌, subst, append-nil, append_assoc, not, cond, ◌∷◌, Option, Some, None, is_none, true≢false}
use Rattle.std.specs.Prelude.{zip}
use Rattle.redir_data.specs.declared.packet.RedirPacket.{RedirPacket}
use Rattle.model_device.specs.Meaning.{Meaning}
use Rattle.redir_host.specs.guest.Line.{Waiting as InLine}
use Rattle.gate_history.specs.write.Output.{cancel}
use Rattle.gate_history.specs.state.State.{next_ids, submits, flying}
use Rattle.gate_history.specs.client.Submits.{Pending}
use Rattle.direct_run.specs.Moves.{World}
use Rattle.direct_proof.specs.Cancels.{CancelsFit, IsAsking, any_change, Behind}
use Rattle.direct_proof.specs.Kinds.{StreamIsIn}
use Rattle.direct_proof.specs.Meets.{Early}
use Rattle.direct_proof.specs.Related.{Related}
use Rattle.direct_proof.specs.Requests.{Entry, at_device, at_queue, debts_of}
use Rattle.direct_proof.specs.Running.{StartsFit, stream_endpoint, Quits, Trails}
use Rattle.direct_proof.specs.Session.{Session, down_in, runs}
use Rattle.direct_proof.specs.Shared.{Shared, at_hosts, half_line, lines, view, way_of}
use Rattle.direct_proof.proofs.shared.Asked.{cancels-asking, cancels-line, cancels-quiet, changes-ask, line-ask, behind-ask, ids-ask}
use Rattle.direct_proof.proofs.shared.Folds.{lines-append}
use Rattle.direct_proof.proofs.shared.Fits.{fits-map, fits-nil}
use Rattle.direct_proof.proofs.shared.Streaming.{IsQuiet, streams-quiet-in, starts-append, starts-more, controls-more, quits-more, trails-more}
use Rattle.direct_proof.proofs.streams.changes.ChangeFree.{stops-asking}
use Rattle.direct_proof.proofs.streams.changes.ChangeTail.{starts-none}
use Rattle.direct_proof.proofs.streams.changes.Stops.{StopsOne, stops-in, stops-lines}
use Rattle.direct_proof.proofs.leaving.Left.{leave_ids, leave_stops, left_world, left_made}
use Rattle.direct_proof.proofs.leaving.LeftWire.{IsStopping, each-stop, every_up, none-stopped, last-stop, left-controls, left-fenced, left-quits, left-trails, none-up}
use Rattle.direct_proof.proofs.leaving.LeftLists.{asked_all, asked-fits, no-starts, by_id, debts-again, kinds-none, starts-down, tagged-none}
use Rattle.redir_host.specs.declared.state.request.Request.{Request as HostRequest}
use Rattle.std.specs.List.{last_or, AllByRecursion as Each}
use Rattle.std.proofs.lemmas.Bool.{both_ways, or_right}
use Rattle.std.proofs.lemmas.List.{map-append}
use Rattle.gate_history.specs.state.StreamIds.{stream_ids_after}
use Rattle.gate_history.specs.step.Marks.{Submission}
use Rattle.gate_history.specs.state.Ids.{holds}
use Rattle.gate_history.specs.state.Ups.{Up, no_streams}
use Rattle.gate_history.proofs.lemmas.Lists.{map-map, Each-append}
use Rattle.direct_device.specs.Acting.{ClientGone}
use Rattle.direct_device.specs.Direct.{Direct, Waiting}
use Rattle.direct_proof.specs.StreamIds.{Controls, Fenced}
use Rattle.direct_proof.specs.Ids.{Ids}
use Rattle.direct_proof.specs.Loads.{IsLoad}
use Rattle.direct_proof.specs.Deeds.{when}
use Rattle.direct_proof.specs.Stale.{Clean}
use Rattle.direct_proof.specs.Tagged.{runs_in}
use Rattle.direct_proof.proofs.lists.Counts.{Each-map}
use Rattle.direct_proof.proofs.meeting.First.{all-down, none-ups}
use Rattle.direct_proof.proofs.shared.Backs.{clean-true}
use Rattle.direct_proof.proofs.shared.Sending.{meets-client}
use Rattle.direct_proof.proofs.shared.Keeps.{Keeps}
use Rattle.direct_proof.proofs.submits.Verdicts.{live-debts}
use Rattle.direct_proof.proofs.streams.Keeping.{Does, keeps-made}
use Rattle.direct_proof.proofs.leaving.Last.{IsLast, NoneIs, LastIs}

module _ {S : Type 0} (m : Meaning S) (w : World S) (j : Shared) (rel : Related m w j) (gate : IsStopping w.gate) (inside : w.gate.sides.imported ≡ true) (test : Pending → Bool) (over : Bool) where
  abbrev cs : List (ℕ × RedirPacket)
  cs = map cancel (filter test w.gate.live)

  abbrev zs : List (ℕ × RedirPacket)
  zs = leave_stops w.gate

  abbrev ps : List (ℕ × RedirPacket)
  ps = w.to_host ++ map cancel (filter test w.gate.live)

  -- the fence's stop is to come where a stream was stopped
  abbrev later : Bool → Shared
  later fenced = record j { held = map asked_all j.held; coming = map asked_all j.coming; fenced = fenced }

  quiet-cs : Each IsQuiet cs
  quiet-cs = cancels-quiet (filter test w.gate.live)

  stopped : Each (StopsOne every_up) zs
  stopped = each-stop w.gate rel.ups gate ps j.back

  joined : map asked_all (j.held ++ j.coming) ≡ map asked_all j.held ++ map asked_all j.coming
  joined = map-append asked_all j.held j.coming

  wire : w.to_host ++ (cs ++ zs) ≡ ps ++ zs
  wire = sym (append_assoc w.to_host cs zs)

  -- ---- the line, and cancels

  new-line : half_line j.half ++ lines (w.to_host ++ (cs ++ zs)) ≡ at_hosts (map asked_all j.coming)
  new-line =
      ap (λ (l : List InLine). half_line j.half ++ l)
      (lines-append w.to_host (cs ++ zs) ∙ ap (λ (l : List InLine). lines w.to_host ++ l) (lines-append cs zs ∙ (λ i. cancels-line (filter test w.gate.live) i ++ stops-lines every_up zs stopped i)) ∙ append-nil (lines w.to_host))
      ∙ rel.line.coming ∙ sym (line-ask asked_all (λ e. refl) (λ e. refl) j.coming)

  new-cancels : CancelsFit (map asked_all j.held) (w.to_host ++ (cs ++ zs)) (map asked_all j.coming)
  new-cancels = fits-nil j.half (map asked_all j.held) w.to_host (cs ++ zs) (map asked_all j.coming) (rel.line.coming ∙ sym (line-ask asked_all (λ e. refl) (λ e. refl) j.coming))
      (fits-map asked_all (λ id e h k. refl) j.held w.to_host j.coming rel.line.cancels)
      (subst (λ (l : List Entry). CancelsFit l (cs ++ zs) []) joined (asked-fits (j.held ++ j.coming) (cs ++ zs)))

  new-streams-in : Each (λ (p : ℕ × RedirPacket). StreamIsIn (stream_endpoint p.1)) (w.to_host ++ (cs ++ zs))
  new-streams-in = Each-append (λ (p : ℕ × RedirPacket). StreamIsIn (stream_endpoint p.1)) w.to_host (cs ++ zs) rel.line.streams_in
      (Each-append (λ (p : ℕ × RedirPacket). StreamIsIn (stream_endpoint p.1)) cs zs (streams-quiet-in cs quiet-cs) (stops-in every_up zs stopped))

  new-asked : w.host.guest.first ≡ false → Each (λ (p : ℕ × RedirPacket). IsAsking p.1) (w.to_host ++ (cs ++ zs))
  new-asked h = Each-append (λ (p : ℕ × RedirPacket). IsAsking p.1) w.to_host (cs ++ zs) (rel.asked h)
      (Each-append (λ (p : ℕ × RedirPacket). IsAsking p.1) cs zs (cancels-asking (filter test w.gate.live)) (stops-asking every_up (leave_ids w.gate) w.gate.streams))

  -- nothing is sent for one that lost its device
  none-sent : w.gate.sides.lost ≡ true → cs ++ zs ≡ []
  none-sent h =
      let l = rel.lost h in
      (λ i. ap (λ (xs : List Pending). map cancel (filter test xs)) l.3 i
      ++ ap (λ (qs : List RedirPacket). zip (next_ids w.gate (length qs)) qs) (none-stopped w.gate.streams rel.ups l.4) i)

  new-before : (fenced : Bool) → w.host.guest.first ≡ true → Early (left_world w test over) (later fenced)
  new-before fenced h = go w.gate.sides.lost refl
    where
      early : Early w j
      early = rel.before h

      go : (b : Bool) → w.gate.sides.lost ≡ b → Early (left_world w test over) (later fenced)
      go true off = record { back = early.back; wire = ap (λ (l : List (ℕ × RedirPacket)). w.to_host ++ l) (none-sent off) ∙ append-nil w.to_host ∙ early.wire; held = ap (map asked_all) early.held; half = early.half; running = early.running }
      go false on = absurd (both_ways w.host.guest.first (rel.meets.behind (rel.meets.no_session inside on)).2 h)

  -- ---- the session

  same-changes : (es : List Entry) → any_change (map asked_all es) ≡ any_change es
  same-changes = changes-ask asked_all (λ e. refl) (λ e. refl)

  new-starts : Session m w j → StartsFit (m.table w.host.gadget) (any_change (map asked_all j.held) || j.half) (w.to_host ++ (cs ++ zs))
  new-starts s = subst (StartsFit (m.table w.host.gadget) (any_change (map asked_all j.held) || j.half)) (sym wire)
      (starts-append (m.table w.host.gadget) (any_change (map asked_all j.held) || j.half) ps zs
      (starts-more (m.table w.host.gadget) (any_change (map asked_all j.held) || j.half) w.to_host cs quiet-cs (subst (λ (b : Bool). StartsFit (m.table w.host.gadget) (b || j.half) w.to_host) (sym (same-changes j.held)) s.starts))
      (starts-none (m.table w.host.gadget) _ zs (no-starts zs stopped)))

  -- how the fence is, and what is kept of streams with it
  record Fences (fenced : Bool) : Type 0 where
    fence-is : w.gate.sides.lost ≡ false → Fenced (last_or w.gate.fence (leave_ids w.gate)) fenced (w.to_host ++ (cs ++ zs)) j.back
    clean-is : Session m w j → Clean (last_or w.gate.fence (leave_ids w.gate)) (down_in no_streams) (any_change (map asked_all j.held ++ map asked_all j.coming) || fenced) j.back
    quits-is : Session m w j → (ep : ℕ) → Quits (last_or w.gate.fence (leave_ids w.gate)) ep (runs w.host ep) (w.to_host ++ (cs ++ zs))
    trails-is : Session m w j → Trails (last_or w.gate.fence (leave_ids w.gate)) (down_in no_streams) (w.to_host ++ (cs ++ zs))

  related : (fenced : Bool) → Fences fenced → Related m (left_world w test over) (later fenced)
  related fenced f = record {
    line = record {
      held = rel.line.held ∙ ap (λ (l : List HostRequest). cond w.host.unplugged [] l) (sym (map-map at_queue asked_all j.held));
      half = rel.line.half;
      coming = new-line;
      loads = subst (Each (λ (e : Entry). IsLoad e.load)) joined (Each-map (λ (e : Entry). IsLoad e.load) asked_all (j.held ++ j.coming) rel.line.loads);
      streams_in = new-streams-in;
      cancels = new-cancels;
      behind = subst Behind joined (behind-ask asked_all (λ e. refl) (λ e. refl) (j.held ++ j.coming) rel.line.behind);
    };
    answers = rel.answers;
    tagged = tagged-none j.back w.gate.streams rel.tagged;
    ids = subst (λ (l : List Entry). Ids j.debts w.submits l (runs_in j.back)) joined (ids-ask asked_all (λ e. refl) (λ e. refl) j.debts w.submits (j.held ++ j.coming) (runs_in j.back) rel.ids);
    real = rel.real;
    runs_at_in = rel.runs_at_in;
    before = new-before fenced;
    asked = new-asked;
    meets = meets-client w j false w.gate.sides.lost (λ h. absurd (true≢false (sym h))) rel.meets;
    debts = λ h. ap (λ (l : List Submission). debts_of (l ++ filter by_id (submits w.gate))) (rel.alone inside).0 ∙ debts-again (submits w.gate) ∙ live-debts m w j rel inside h;
    controls = λ h. subst (λ (l : List (ℕ × RedirPacket)). Controls (stream_ids_after (leave_stops w.gate) w.gate.stream_ids) l j.back) (sym wire) (left-controls w.gate rel.ups gate ps j.back (controls-more w.gate.stream_ids w.to_host cs j.back quiet-cs (rel.controls h)));
    fenced = f.fence-is;
    alone = λ h. absurd (true≢false (sym h));
    session = λ h k. let s = rel.session h k in record {
      table = s.table;
      faces = s.faces;
      clean = f.clean-is s;
      quits = λ ep d. f.quits-is s ep;
      trails = f.trails-is s;
      starts = new-starts s;
      kinds = kinds-none w.host.running;
      start_kinds = starts-down (w.to_host ++ (cs ++ zs));
    };
    ups = none-ups;
    down = λ h. refl;
    lost = λ h. let l = rel.lost h in (l.0, l.1, l.2, refl, all-down);
    sides = record {
      reads = rel.sides.reads;
      refused = λ h. refl;
      gone = rel.sides.gone;
      seen = λ h. absurd (true≢false (sym h));
    };
    farewell = rel.farewell;
  }

  -- ---- the device

  gone : w.gate.sides.client_over ≡ false → (fenced : Bool) → Does m (view w j) (when (not w.gate.sides.client_over) ClientGone) (view (left_world w test over) (later fenced)) []
  gone there fenced = subst (λ (b : Bool). Does m (view w j) (when (not b) ClientGone) (view (left_world w test over) (later fenced)) []) (sym there) (record {
    same = (λ i. cond (inside i) went (view w j)) ∙ (λ i. record went {
      queue = (map-map asked_waiting at_device (j.held ++ j.coming) ∙ sym (map-map at_device asked_all (j.held ++ j.coming)) ∙ ap (map at_device) joined) i;
      way = λ e. sym (ap (λ (o : Option Up). way_of o e j.back) (all-down e)) i;
    });
    legal = (tt, tt);
    outs-are = refl;
  })
    where
      asked_waiting : Waiting → Waiting
      asked_waiting q = record q { asked = true }

      went : Direct S
      went = record (view w j) {
        live = [];
        queue = map (λ (q : Waiting). record q { asked = true }) (map at_device (j.held ++ j.coming));
        ran = [];
        streams = no_streams;
        way = λ e. [];
        imported = false;
      }

  -- ---- the fence

  no_fence : w.gate.fence ≡ None
  no_fence = (rel.alone inside).1

  same-down : leave_stops w.gate ≡ [] → down_in w.gate.streams ≡ down_in no_streams
  same-down none = λ i e. (ap is_none (none-up w.gate rel.ups gate ps j.back none e) ∙ sym (ap is_none (all-down e))) i

  -- no stream was up: the wire has no stop, and there is no fence
  unfenced : leave_stops w.gate ≡ [] → last_or None (leave_ids w.gate) ≡ None → Fences j.fenced
  unfenced none same = record {
    fence-is = λ h. subst (λ (f : Option ℕ). Fenced f j.fenced (w.to_host ++ (cs ++ zs)) j.back) (sym fence) (subst (λ (f : Option ℕ). Fenced f j.fenced w.to_host j.back) no_fence (rel.fenced h));
    clean-is = λ s. subst (λ (f : Option ℕ). Clean f (down_in no_streams) (any_change (map asked_all j.held ++ map asked_all j.coming) || j.fenced) j.back) (no_fence ∙ sym fence)
        (subst (λ (d : ℕ → Bool). Clean w.gate.fence d (any_change (map asked_all j.held ++ map asked_all j.coming) || j.fenced) j.back) (same-down none)
        (subst (λ (b : Bool). Clean w.gate.fence (down_in w.gate.streams) (b || j.fenced) j.back) (sym (same-changes (j.held ++ j.coming)) ∙ ap any_change joined) s.clean));
    quits-is = λ s e. subst (λ (f : Option ℕ). Quits f e (runs w.host e) (w.to_host ++ (cs ++ zs))) (no_fence ∙ sym fence)
        (subst (Quits w.gate.fence e (runs w.host e)) (sym short) (quits-more w.gate.fence e (runs w.host e) w.to_host cs quiet-cs (s.quits e (ap is_none (none-up w.gate rel.ups gate ps j.back none e)))));
    trails-is = λ s. subst (λ (f : Option ℕ). Trails f (down_in no_streams) (w.to_host ++ (cs ++ zs))) (no_fence ∙ sym fence)
        (subst (λ (d : ℕ → Bool). Trails w.gate.fence d (w.to_host ++ (cs ++ zs))) (same-down none)
        (subst (Trails w.gate.fence (down_in w.gate.streams)) (sym short) (trails-more w.gate.fence (down_in w.gate.streams) w.to_host cs quiet-cs s.trails)));
  }
    where
      fence : last_or w.gate.fence (leave_ids w.gate) ≡ None
      fence = ap (λ (f : Option ℕ). last_or f (leave_ids w.gate)) no_fence ∙ same

      short : w.to_host ++ (cs ++ zs) ≡ w.to_host ++ cs
      short = ap (λ (l : List (ℕ × RedirPacket)). w.to_host ++ (cs ++ l)) none ∙ ap (λ (l : List (ℕ × RedirPacket)). w.to_host ++ l) (append-nil cs)

  -- the last stop is the fence
  is-fenced : (front : List (ℕ × RedirPacket)) (z : ℕ × RedirPacket) → leave_stops w.gate ≡ front ++ z ∷ [] → last_or None (leave_ids w.gate) ≡ Some z.0 → holds (flying w.gate) z.0 ≡ false → Fences true
  is-fenced front z is same free = record {
    fence-is = λ h. subst (λ (f : Option ℕ). Fenced f true (w.to_host ++ (cs ++ zs)) j.back) (sym fence)
        (subst (λ (l : List (ℕ × RedirPacket)). Fenced (Some z.0) true l j.back) (sym wire)
        (left-fenced w.gate rel.ups gate ps j.back front z is free (controls-more w.gate.stream_ids w.to_host cs j.back quiet-cs (rel.controls h))));
    clean-is = λ s. subst (λ (b : Bool). Clean (last_or w.gate.fence (leave_ids w.gate)) (down_in no_streams) b j.back) (sym (or_right (any_change (map asked_all j.held ++ map asked_all j.coming)) true refl))
        (clean-true (last_or w.gate.fence (leave_ids w.gate)) (down_in no_streams) j.back);
    quits-is = λ s e. subst (λ (f : Option ℕ). Quits f e (runs w.host e) (w.to_host ++ (cs ++ zs))) (sym fence)
        (subst (Quits (Some z.0) e (runs w.host e)) (sym wire)
        (left-quits w.gate rel.ups gate ps j.back front z is e (runs w.host e)
        (λ down. quits-more None e (runs w.host e) w.to_host cs quiet-cs (subst (λ (f : Option ℕ). Quits f e (runs w.host e) w.to_host) no_fence (s.quits e (ap is_none down))))));
    trails-is = λ s. subst (λ (f : Option ℕ). Trails f (down_in no_streams) (w.to_host ++ (cs ++ zs))) (sym fence)
        (subst (Trails (Some z.0) (down_in no_streams)) (sym wire) (left-trails w.gate rel.ups gate ps j.back front z is (down_in no_streams)));
  }
    where
      fence : last_or w.gate.fence (leave_ids w.gate) ≡ Some z.0
      fence = ap (λ (f : Option ℕ). last_or f (leave_ids w.gate)) no_fence ∙ same

  keep-by : w.gate.sides.client_over ≡ false → (fenced : Bool) → Fences fenced → Keeps m w j (left_made w test over)
  keep-by there fenced f = keeps-made m w j (later fenced) (left_made w test over) (left_world w test over) [] (when (not w.gate.sides.client_over) ClientGone) refl (related fenced f) (gone there fenced)

  pub keep-left : w.gate.sides.client_over ≡ false → Keeps m w j (left_made w test over)
  keep-left there = go (last-stop w.gate rel.ups gate ps j.back)
    where
      go : IsLast (λ id. holds (flying w.gate) id ≡ false) None (leave_stops w.gate) (last_or None (leave_ids w.gate)) → Keeps m w j (left_made w test over)
      go (NoneIs none same) = keep-by there j.fenced (unfenced none same)
      go (LastIs front z is same free) = keep-by there true (is-fenced front z is same free)
