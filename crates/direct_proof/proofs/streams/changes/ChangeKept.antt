-- A change that the gateway accepts keeps what is shared.
use Rattle.direct_proof.proofs.streams.changes.ChangeLists.{past, setup-alone, debts-changer, new-debts, new-numbers, holds-front, zero-route, behind-more, clean-true, before-all, by_id}
use Rattle.std.proofs.Common.{◌≡◌, ℕ, ◌==◌, ◌||◌, not, true, false, cond, List, [], ◌∷◌, ◌++◌, map, filter, Option, Some, None, is_some, refl, sym, ap, ◌∙◌, subst, append-nil, append_assoc}
use Rattle.std.specs.List.{list_any, AllByRecursion as Each}
use Rattle.std.proofs.lemmas.List.{length-map, map-append}
use Rattle.std.proofs.lemmas.Bool.{both_ways, or_left, or_right}
use Rattle.std.proofs.lemmas.List.Folds.{list_any-append}
use Rattle.usb_base.specs.declared.setup.Setup.{Setup}
use Rattle.usbip_urb.specs.declared.packet.Submit.{Submit as UrbSubmit}
use Rattle.usbip_urb.specs.declared.packet.UrbPacket.TheVariants as urb
use Rattle.usbip_urb.specs.declared.client.ClientPacket.TheVariants.{Urb}
use Rattle.redir_data.specs.declared.packet.RedirPacket.{RedirPacket}
use Rattle.control_route.specs.declared.route.Route.{Route}
use Rattle.control_route.specs.Changes.{is_change}
use Rattle.model_device.specs.Meaning.{Meaning}
use Rattle.usb_base.specs.Endpoint.{row_of}
use Rattle.gate_history.specs.declared.request.Request.{Request}
use Rattle.gate_history.specs.client.Requests.{request_of}
use Rattle.gate_history.specs.declared.item.Item.TheVariants.{Asked}
use Rattle.gate_history.specs.declared.verdict.Verdict.TheVariants.{Routed}
use Rattle.gate_history.specs.client.Verdict.{verdict, changes}
use Rattle.usb_base.specs.declared.errno.TheConstants.{ESHUTDOWN}
use Rattle.gate_history.specs.state.Flight.{wide_bulk, ids_of}
use Rattle.gate_history.specs.state.StreamIds.{ids_of_streams}
use Rattle.gate_history.specs.state.Ids.{last_of}
use Rattle.gate_history.specs.step.Marks.{Submission}
use Rattle.gate_history.specs.client.Submits.{Pending}
use Rattle.gate_history.specs.client.Ends.{is_touched}
use Rattle.gate_history.specs.write.Output.{fresh}
use Rattle.gate_history.specs.state.State.{submits, has_number, is_number as has_seq}
use Rattle.gate_history.specs.step.Meaning.{mark_as, by_stream, verdict_of, situation}
use Rattle.gate_history.specs.write.Answers.{without_packets}
use Rattle.gate_history.specs.state.Ups.{stream_at, lower, is_ended}
use Rattle.gate_history.proofs.lemmas.Lists.{list_any-map, filter-map, map-map, Each-append}
use Rattle.direct_device.specs.Direct.{Live, Direct, is_number}
use Rattle.direct_device.specs.Acting.{Submit, made_of}
use Rattle.direct_run.specs.Moves.{World, ByClient, move, gate_made, quiet}
use Rattle.direct_proof.specs.Deeds.{as_deeds}
use Rattle.direct_proof.proofs.shared.New.{IsNew}
use Rattle.direct_proof.specs.Requests.{Entry, Debt, at_device, live_of, debts_of}
use Rattle.direct_proof.specs.Shared.{Shared, view}
use Rattle.direct_proof.specs.Tagged.{runs_in}
use Rattle.direct_proof.specs.Related.{Related}
use Rattle.direct_proof.specs.Session.{Session, down_in}
use Rattle.direct_proof.specs.Ids.{Ids}
use Rattle.direct_proof.specs.Loads.{IsLoad, FitsRoute}
use Rattle.direct_proof.specs.Cancels.{Behind, is_change as is_changing, any_change, IsAsking}
use Rattle.direct_proof.specs.StreamIds.{Fenced}
use Rattle.direct_proof.specs.Kinds.{StartOfKind}
use Rattle.direct_proof.specs.Running.{started_kind}
use Rattle.direct_proof.proofs.shared.Owed.{IsNewNumber, ids-submit}
use Rattle.direct_proof.proofs.shared.Fits.{fits-append}
use Rattle.direct_proof.proofs.shared.Keeps.{Keeps}
use Rattle.direct_proof.proofs.streams.Keeping.{Does, keeps-made}
use Rattle.direct_proof.proofs.submits.Submitting.{by-routed}
use Rattle.direct_proof.proofs.streams.wires.Lowered.{tagged-lower, kinds-lower, starts-lower, fits-lower, way-lower}
use Rattle.direct_proof.proofs.streams.changes.Changing.{change_ids, change_sent, changer, touched, staying, ending, change_world, change-means, change-made, changed, device-changes}
use Rattle.direct_proof.proofs.streams.changes.ChangeTail.{entry_of, starts-none}
use Rattle.direct_proof.proofs.streams.changes.Changed.{new-controls, change-id}
use Rattle.direct_proof.proofs.streams.changes.ChangeWire.{IsChanging, new-quits, new-trails, none-started, new-line, new-streams-in}
use Rattle.direct_proof.proofs.streams.changes.ChangeFree.{asks-free, change-free, uncancelled-free}
use Rattle.direct_proof.proofs.shared.Streaming.{starts-append}

-- ---- what is kept

module _ {S : Type 0} (m : Meaning S) (w : World S) (j : Shared) (place : ℕ) (s : UrbSubmit) (x : Route) (change : is_change x ≡ true) (rel : Related m w j) (gate : IsChanging w.gate x) (imported : w.gate.sides.imported ≡ true) (present : w.gate.sides.client_over ≡ false)
    (new : has_number w.gate s.head.seqnum ≡ false) (v : verdict_of w.gate (request_of s) ≡ Routed x) (load : IsLoad (record { request = request_of s; verdict = Routed x })) where
  abbrev r : Request
  r = request_of s

  abbrev d : Direct S
  d = view w j

  abbrev id : ℕ
  id = last_of 0 (change_ids w.gate x)

  abbrev entry : Entry
  entry = entry_of (last_of 0 (change_ids w.gate x)) (request_of s) x

  abbrev debt : Debt
  debt = record { id = last_of 0 (change_ids w.gate x); load = record { request = request_of s; verdict = Routed x } }

  abbrev later : Shared
  later = record j { coming = j.coming ++ entry_of (last_of 0 (change_ids w.gate x)) (request_of s) x ∷ []; debts = j.debts ++ record { id = last_of 0 (change_ids w.gate x); load = record { request = request_of s; verdict = Routed x } } ∷ [] }

  there : w.gate.sides.lost ≡ false
  there = (past w.gate.sides.lost ESHUTDOWN _ x v).0

  connect : is_some w.gate.facts.connect ≡ true
  connect = rel.meets.no_session imported there

  session : Session m w j
  session = rel.session there (or_left (is_some w.gate.facts.connect) _ connect)

  owed : debts_of (submits w.gate) ≡ j.debts
  owed = sym (append-nil (debts_of (submits w.gate))) ∙ ap (λ (l : List Submission). debts_of (submits w.gate) ++ debts_of l) (sym (rel.alone imported).0) ∙ rel.debts there

  new-id : IsNew id j.debts
  new-id = subst (IsNew id) owed (new-debts id (filter by_id (submits w.gate)) (holds-front (ids_of (submits w.gate)) (ids_of w.gate.abandoned) id (holds-front (ids_of (submits w.gate) ++ ids_of w.gate.abandoned) (ids_of_streams w.gate.stream_ids) id (change-id m w j r x change rel gate).0)))

  joined : (j.held ++ j.coming) ++ entry ∷ [] ≡ j.held ++ (j.coming ++ entry ∷ [])
  joined = append_assoc j.held j.coming (entry ∷ [])

  pending : (any_change (j.held ++ (j.coming ++ entry ∷ [])) || j.fenced) ≡ true
  pending = or_left (any_change (j.held ++ (j.coming ++ entry ∷ []))) j.fenced (sym (ap any_change joined) ∙ list_any-append is_changing (j.held ++ j.coming) (entry ∷ []) ∙ or_right (any_change (j.held ++ j.coming)) (is_change x || false) (or_left (is_change x) false change))

  new-session : Session m (change_world w r x) later
  new-session = record {
    table = session.table;
    faces = session.faces;
    clean = clean-true w.gate.fence (down_in (lower (is_ended (Some x)) w.gate.streams)) (any_change (j.held ++ (j.coming ++ entry ∷ [])) || j.fenced) pending j.back;
    quits = λ e down. new-quits m w j r x change rel gate session e down;
    trails = new-trails m w j r x change rel gate;
    starts = starts-append (m.table w.host.gadget) (any_change j.held || j.half) w.to_host (change_sent w.gate x) session.starts (starts-none (m.table w.host.gadget) _ (change_sent w.gate x) (none-started m w j r x change rel gate));
    kinds = kinds-lower (is_ended (Some x)) w.gate.streams w.host.running session.kinds;
    start_kinds = Each-append (λ (p : ℕ × RedirPacket). StartOfKind (lower (is_ended (Some x)) w.gate.streams) (started_kind p.1)) w.to_host (change_sent w.gate x) (starts-lower (is_ended (Some x)) w.gate.streams w.to_host session.start_kinds)
        (silents (change_sent w.gate x) (none-started m w j r x change rel gate));
  }
    where
      silents : (ps : List (ℕ × RedirPacket)) → Each (λ (p : ℕ × RedirPacket). started_kind p.1 ≡ None) ps → Each (λ (p : ℕ × RedirPacket). StartOfKind (lower (is_ended (Some x)) w.gate.streams) (started_kind p.1)) ps
      silents [] h = tt
      silents (p ∷ ps) h = (subst (StartOfKind (lower (is_ended (Some x)) w.gate.streams)) (sym h.0) tt, silents ps h.1)

  related : Related m (change_world w r x) later
  related = record {
    line = record {
      held = rel.line.held;
      half = rel.line.half;
      coming = new-line m w j r x change rel gate;
      loads = subst (Each (λ (e : Entry). IsLoad e.load)) joined (Each-append (λ (e : Entry). IsLoad e.load) (j.held ++ j.coming) (entry ∷ []) rel.line.loads (load, tt));
      streams_in = new-streams-in m w j r x change rel gate;
      cancels = fits-append j.half j.held w.to_host (change_sent w.gate x) j.coming (entry ∷ []) rel.line.coming rel.line.cancels
          (uncancelled-free (j.held ++ j.coming) (change_sent w.gate x) (entry ∷ []) (change-free w.gate x));
      behind = subst Behind joined (behind-more (j.held ++ j.coming) entry (zero-route r x change) rel.line.behind);
    };
    answers = rel.answers;
    tagged = tagged-lower (is_ended (Some x)) w.gate.streams j.back rel.tagged;
    ids = subst (λ (es : List Entry). Ids later.debts (w.submits ++ record { seqnum = r.seqnum; id = id } ∷ []) es (runs_in j.back)) joined
        (ids-submit j.debts w.submits (j.held ++ j.coming) (runs_in j.back) id (record { request = r; verdict = Routed x }) false rel.ids new-id (subst (IsNewNumber r.seqnum) owed (new-numbers r.seqnum (submits w.gate) new)));
    real = Each-append (λ (y : Debt). (y.id == 0) ≡ false) j.debts (debt ∷ []) rel.real ((change-id m w j r x change rel gate).1, tt);
    runs_at_in = rel.runs_at_in;
    before = λ h. absurd (both_ways w.host.guest.first (rel.meets.behind connect).2 h);
    asked = λ h. Each-append (λ (p : ℕ × RedirPacket). IsAsking p.1) w.to_host (change_sent w.gate x) (rel.asked h) (asks-free (change_sent w.gate x) (change-free w.gate x));
    meets = rel.meets;
    debts = λ h. ap (λ (l : List Submission). debts_of (map (λ (p : Pending). p.submit) (staying x w.gate.live ++ fresh (changer w.gate r x) ∷ [])) ++ debts_of l) (rel.alone imported).0 ∙ append-nil _ ∙ debts-changer w.gate r x w.gate.live ∙ ap (λ (l : List Debt). l ++ debt ∷ []) owed;
    controls = λ h. new-controls m w j r x change rel gate there;
    fenced = λ h. subst (λ (f : Option ℕ). Fenced f j.fenced (w.to_host ++ change_sent w.gate x) j.back) (sym (rel.alone imported).1) (subst (λ (f : Option ℕ). Fenced f j.fenced w.to_host j.back) (rel.alone imported).1 (rel.fenced there));
    alone = rel.alone;
    session = λ h k. new-session;
    ups = fits-lower (is_ended (Some x)) w.gate.streams rel.ups;
    down = λ h. absurd (both_ways w.gate.sides.imported h imported);
    lost = λ h. absurd (both_ways w.gate.sides.lost there h);
    sides = rel.sides;
    farewell = rel.farewell;
  }

  made : made_of m d r ≡ Routed x
  made = go r.transfer.setup refl load.verdict
    where
      wide : true ≡ wide_bulk w.gate.sides.agreed
      wide = sym (ap wide_bulk (rel.meets.gate (rel.meets.behind connect).0))

      go : (setup : Option Setup) → r.transfer.setup ≡ setup → FitsRoute x r.transfer setup → made_of m d r ≡ Routed x
      go None e f = absurd f
      go (Some y) e f =
          ap (by_stream (stream_at d.streams r.transfer.ep)) (
          (λ i. verdict (record {
            lost = sym (rel.sides.seen imported) i;
            live = length-map w.gate.live live_of i;
            changing = (list_any-map (λ (l : Live). changes l.load.verdict) live_of w.gate.live ∙ sym (list_any-map (λ (z : Submission). changes z.verdict) (λ (p : Pending). p.submit) w.gate.live)) i;
            row = row_of (m.table w.host.gadget) r.transfer.ep;
            wide = wide i;
          }) r)
          ∙ setup-alone (situation w.gate r) (row_of (m.table w.host.gadget) r.transfer.ep) r y e ∙ v)
          ∙ by-routed (stream_at d.streams r.transfer.ep) x

  new-live : list_any (λ (l : Live). is_number r.seqnum l.load) d.live ≡ false
  new-live = list_any-map (λ (l : Live). is_number r.seqnum l.load) live_of w.gate.live ∙ sym (list_any-map (has_seq r.seqnum) (λ (p : Pending). p.submit) w.gate.live) ∙ new

  outs-same : map (λ (y : Live). without_packets y.load.request ESHUTDOWN) (filter (λ (l : Live). is_touched (Routed x) l.load.verdict) d.live) ≡ ending x w.gate.live
  outs-same = ap (map (λ (y : Live). without_packets y.load.request ESHUTDOWN)) (filter-map (λ (l : Live). is_touched (Routed x) l.load.verdict) live_of w.gate.live) ∙ map-map (λ (y : Live). without_packets y.load.request ESHUTDOWN) live_of (filter (touched x) w.gate.live)

  does : Does m d (Submit r ∷ []) (view (change_world w r x) later) (map Urb (ending x w.gate.live))
  does = subst (Does m d (Submit r ∷ []) (view (change_world w r x) later)) (ap (map Urb) outs-same)
      (subst (λ (y : Direct S). Does m d (Submit r ∷ []) y (map Urb (map (λ (z : Live). without_packets z.load.request ESHUTDOWN) (filter (λ (l : Live). is_touched (Routed x) l.load.verdict) d.live))))
      (λ i. record (changed d r x) {
        live = (ap (λ (l : List Live). l ++ record { load = record { request = r; verdict = Routed x }; unlinker = None } ∷ []) (filter-map (λ (l : Live). not (is_touched (Routed x) l.load.verdict)) live_of w.gate.live) ∙ sym (map-append live_of (staying x w.gate.live) (fresh (changer w.gate r x) ∷ []))) i;
        queue = (sym (map-append at_device (j.held ++ j.coming) (entry ∷ [])) ∙ ap (map at_device) joined) i;
        way = λ e. way-lower (is_ended (Some x)) w.gate.streams e j.back i;
      })
      (device-changes m d r x made imported new-live))

  pub keep-change : Keeps m w j (move as_deeds m w (ByClient (Asked place (Urb (urb.Submit s)))))
  keep-change = keeps-made m w j later (move as_deeds m w (ByClient (Asked place (Urb (urb.Submit s))))) (change_world w r x) (map Urb (ending x w.gate.live)) (Submit r ∷ [])
      ((λ i. cond (present i) (quiet w) (gate_made as_deeds w (mark_as w.gate (change-means w.gate place s x imported new v i) None)))
      ∙ change-made w r x (before-all w.gate.items w.gate.live gate.sound.places))
      related does
