-- The device performs a change, with success or refusing it, also a reset: what it flushes, and the facts that it
-- tells.
use Rattle.std.proofs.Common.{◌≡◌, ℕ, ◌||◌, ◌&&◌, not, Bool, true, false, cond, List, [], ◌∷◌, ◌++◌, map, filter, Option, Some, None, refl, sym, ap, ◌∙◌, subst, arith, append-nil, ◌==◌, true≢false}
use Rattle.std.specs.Prelude.{IfSome}
use Rattle.std.specs.List.{find, list_any, AllByRecursion as Each}
use Rattle.std.proofs.lemmas.Bool.{or_left, or_right}
use Rattle.std.proofs.lemmas.List.Folds.{list_any-append}
use Rattle.std.proofs.lemmas.List.{map-append}
use Rattle.std.proofs.Math.Bool.{and-false}
use Rattle.usb_base.specs.Endpoint.{is_control}
use Rattle.usb_base.specs.Status.{is_success}
use Rattle.usb_base.specs.declared.transfer.Outcome.{Outcome}
use Rattle.usb_base.specs.declared.endpoint.EpTable.{EpTable}
use Rattle.control_route.specs.declared.route.Route.{Route}
use Rattle.control_route.specs.Changes.{is_change as is_route_change}
use Rattle.model_device.specs.Meaning.{Meaning}
use Rattle.model_device.specs.Gadget.{IsGadget, IsNamed}
use Rattle.model_device.specs.Transfer.{IsOutcome}
use Rattle.redir_host.specs.declared.state.host.Host.{Host}
use Rattle.redir_host.specs.declared.state.request.Request.{Request as HostRequest}
use Rattle.redir_host.specs.declared.state.running.Running.{Running}
use Rattle.usb_base.specs.Firsts.{without_first}
use Rattle.redir_host.specs.state.Queues.{queue_of, is_at}
use Rattle.redir_host.specs.device.Performing.{performs_any, does, with_id}
use Rattle.redir_host.proofs.lemmas.state.Each.{each_front, each_behind}
use Rattle.gate_history.specs.declared.verdict.Verdict.{Verdict}
use Rattle.gate_history.specs.declared.verdict.Verdict.TheVariants.{Now, Wire, Routed, IsoOut, Stream}
use Rattle.gate_history.specs.client.Verdict.{changes}
use Rattle.gate_history.specs.state.Ups.{stream_of, Up}
use Rattle.gate_history.specs.state.Facts.{tell}
use Rattle.gate_history.specs.step.Meaning.{fact_of}
use Rattle.gate_history.specs.declared.facts.Facts.{Facts}
use Rattle.direct_run.specs.Noted.{queue_byte, number_in}
use Rattle.direct_run.specs.Moves.{World, Performs, move, Made}
use Rattle.direct_device.specs.Direct.{number, normal_of, change_in, Waiting, Ran, Direct, cancelled, is_at as is_first_at, without_first as without}
use Rattle.direct_device.specs.Acting.{Deed, Perform, act, performed_first, performed_by, joins_ran, is_flushed}
use Rattle.direct_proof.specs.Deeds.{as_deeds}
use Rattle.direct_proof.specs.Requests.{Entry, Coming, at_queue, at_device, ran_of}
use Rattle.direct_proof.specs.Shared.{Shared, way_of, view}
use Rattle.direct_proof.specs.Tagged.{Tagged, ToldTable, ToldFaces, Answered, on_wire, runs_in, told, packets_in}
use Rattle.direct_proof.specs.Related.{Related}
use Rattle.direct_proof.specs.Session.{Session, down_in}
use Rattle.direct_proof.specs.Loads.{IsLoad, IsComing}
use Rattle.direct_proof.specs.Ids.{Ids}
use Rattle.direct_proof.specs.Cancels.{Behind, is_change, any_change}
use Rattle.direct_proof.specs.Stale.{ends}
use Rattle.direct_proof.specs.Running.{StartsFit}
use Rattle.direct_proof.specs.Kinds.{TaggedOfKind, OfKind, IsIn}
use Rattle.direct_proof.proofs.answers.Loads.{performed-as}
use Rattle.direct_proof.proofs.performs.Performs.{performed_made, First, answered, perform-allowed, same-byte}
use Rattle.direct_proof.proofs.shared.Owed.{each-parts, ids-perform}
use Rattle.direct_proof.proofs.shared.Streaming.{starts-none}
use Rattle.direct_proof.proofs.shared.Backs.{told-append, clean-append}
use Rattle.direct_proof.proofs.shared.Debts.{filter-append}
use Rattle.direct_proof.proofs.shared.Sending.{IsNews, after-host, sent_world, sent_shared, answer-tells}
use Rattle.direct_proof.proofs.shared.Ran.{Held, held-parts, greeted-held, behind-drop}
use Rattle.direct_proof.proofs.performs.Flushes.{control-untouched, flushed_tag, behind-filter, behind-zeros, filter-kept, ids-flush, runs-flushed, clean-flushed, touched-wire, flushed_of, packets-flushed}
use Rattle.direct_proof.proofs.performs.Performing.{queue-held, performed-first}
use Rattle.direct_proof.proofs.performs.Flushing.{flushes, still_running, change_news, host-change}
use Rattle.direct_proof.proofs.performs.StillRunning.{quits-still, each-still}
use Rattle.usb_base.specs.declared.status.UsbStatus.TheVariants.{Cancelled}
use Rattle.redir_host.specs.device.Changes.{is_touched}
use Rattle.chapter9.specs.Standard.{ended}
use Rattle.gate_history.proofs.lemmas.Lists.{filter-map, Each-append, Each-filter}
use Rattle.direct_proof.proofs.shared.WireBack.{packets_in-append, runs_in-append}
use Rattle.direct_proof.proofs.heard.Taken.{wire-seen}
use Rattle.direct_proof.proofs.shared.Keeps.{Keeps, keeps-deed, not-lost, not-gone}

changes-in : (v : Verdict) (r : Route) → change_in v ≡ Some r → changes v ≡ true
changes-in (Now status) r h = absurd (cc)
changes-in (Wire pipe) r h = absurd (cc)
changes-in (IsoOut row) r h = absurd (cc)
changes-in (Stream row) r h = absurd (cc)
changes-in (Routed x) r h = go (is_route_change x) h
  where
    go : (b : Bool) → cond b (Some x) None ≡ Some r → b ≡ true
    go true z = refl
    go false z = absurd (cc)

-- ---- the move

module _ {S : Type 0} (m : Meaning S) (laws : IsGadget m) (w : World S) (j : Shared) (ep : ℕ) (q : HostRequest) (rel : Related m w j) (there : w.host.unplugged ≡ false) (here : find (is_at ep) w.host.queue ≡ Some q) (f : First (queue_of ep) j.held j.coming q)
    (r : Route) (change : change_in f.entry.load.verdict ≡ Some r) (done : S × Outcome) (ready : m.perform w.host.gadget (normal_of f.entry.load) ≡ Some done) where
  abbrev e : Entry
  e = f.entry

  abbrev table : EpTable
  table = m.table w.host.gadget

  abbrev success : Bool
  success = is_success done.1.status

  abbrev out : Entry → Bool
  out = flushes success r table

  abbrev c : Coming
  c = answered m e done

  abbrev left : List Entry
  left = filter (λ x. not (out x)) f.rest

  abbrev gone : List Entry
  gone = filter out f.rest

  abbrev cs : List Tagged
  cs = change_news m done.0 gone c

  abbrev running : List Running
  running = still_running success r table w.host.running

  held : Held j f.front e f.back
  held = held-parts j f.front e f.back f.es-is

  first : w.host.guest.first ≡ false
  first = greeted-held m w j f.front e f.back rel held.is w.host.guest.first refl

  -- the move
  moved : move as_deeds m w (Performs ep) ≡ record { world = sent_world w done.0 left running cs; outs = []; told = Perform (queue_byte ep) (number_in e.id w.submits) ∷ [] }
  moved = ap (performed_made w ep) (
      performed-first m w ep (Some q) there here
      ∙ (λ i. with_id (f.is i) (performs_any m (record w.host { queue = (ap (without_first (is_at ep)) (queue-held m w j rel there) ∙ f.host_rest) i }) (f.is i)))
      ∙ ap (with_id (at_queue e)) (performed-as m rested e ∙ (λ i. does m rested (at_queue e) (change i) (ready i))
      ∙ ap Some (host-change m (record rested { gadget = done.0 }) table r success f.rest e (m.configuration done.0) done.1 (rel.meets.host first) refl)))
    where
      rested : Host S
      rested = record w.host { queue = map at_queue f.rest }

  load : IsLoad e.load
  load = (each-parts (λ (x : Entry). IsLoad x.load) f.front e (f.back ++ j.coming) (subst (Each (λ (x : Entry). IsLoad x.load)) held.inside rel.line.loads)).0

  named : number_in e.id w.submits ≡ number e.load
  named = (each-parts (λ (x : Entry). number_in x.id w.submits ≡ number x.load) f.front e (f.back ++ j.coming) (subst (Each (λ (x : Entry). number_in x.id w.submits ≡ number x.load)) held.inside rel.ids.named)).0

  is-it : is_change e ≡ true
  is-it = changes-in e.load.verdict r change

  came : IsComing c
  came = record {
    load = load;
    outcome = subst (λ (o : Option (S × Outcome)). IfSome o (λ x. IsOutcome (normal_of e.load) x.1)) ready (laws.outcomes w.host.gadget (normal_of e.load) load.transfer);
    status = subst (λ (o : Option (S × Outcome)). IfSome o (λ x. IsNamed x.1.status)) ready (laws.named w.host.gadget (normal_of e.load) load.transfer);
  }

  -- those behind it are of endpoint 0, and stay
  untouched : Each (λ (x : Entry). out x ≡ false) j.coming
  untouched = go j.coming (each_behind (λ (y : Entry). is_control (normal_of y.load).ep ≡ true) f.back j.coming (behind-zeros f.front e (f.back ++ j.coming) (subst Behind held.inside rel.line.behind) is-it))
    where
      go : (es : List Entry) → Each (λ (y : Entry). is_control (normal_of y.load).ep ≡ true) es → Each (λ (x : Entry). out x ≡ false) es
      go [] h = tt
      go (x ∷ es) h = (ap (λ (b : Bool). success && b) (control-untouched r table (normal_of x.load).ep h.0) ∙ and-false success, go es h.1)

  rested : f.front ++ (f.back ++ j.coming) ≡ f.rest ++ j.coming
  rested = held.outside ∙ ap (λ (l : List Entry). l ++ j.coming) (sym f.rest-is)

  rest-loads : Each (λ (x : Entry). IsLoad x.load) (f.rest ++ j.coming)
  rest-loads = subst (Each (λ (x : Entry). IsLoad x.load)) rested (each-parts (λ (x : Entry). IsLoad x.load) f.front e (f.back ++ j.coming) (subst (Each (λ (x : Entry). IsLoad x.load)) held.inside rel.line.loads)).1

  all-left : filter (λ x. not (out x)) (f.rest ++ j.coming) ≡ left ++ j.coming
  all-left = filter-append (λ x. not (out x)) f.rest j.coming ∙ ap (λ (l : List Entry). left ++ l) (filter-kept out j.coming untouched).1

  all-gone : filter out (f.rest ++ j.coming) ≡ gone
  all-gone = filter-append out f.rest j.coming ∙ ap (λ (l : List Entry). gone ++ l) (filter-kept out j.coming untouched).0 ∙ append-nil gone

  ids : Ids j.debts w.submits (left ++ j.coming) (runs_in j.back ++ runs_in cs)
  ids = subst (λ (l : List Coming). Ids j.debts w.submits (left ++ j.coming) (runs_in j.back ++ l)) (sym (runs-flushed gone (ToldTable (m.table done.0) ∷ ToldFaces (m.interfaces done.0) ∷ Answered c ∷ [])))
      (ids-flush j.debts w.submits f.rest j.coming (runs_in j.back) c out (subst (λ (l : List Entry). Ids j.debts w.submits l (runs_in j.back ++ c ∷ [])) rested
      (ids-perform j.debts w.submits f.front (f.back ++ j.coming) e (runs_in j.back) (m.configuration done.0) done.1 (subst (λ (l : List Entry). Ids j.debts w.submits l (runs_in j.back)) held.inside rel.ids))))

  news : Each IsNews cs
  news = Each-append IsNews (map flushed_tag gone) (ToldTable (m.table done.0) ∷ ToldFaces (m.interfaces done.0) ∷ Answered c ∷ []) (all gone) (tt, (tt, (tt, tt)))
    where
      all : (es : List Entry) → Each IsNews (map flushed_tag es)
      all [] = tt
      all (x ∷ es) = (tt, all es)

  tagged : Each (TaggedOfKind w.gate.streams) cs
  tagged = Each-append (TaggedOfKind w.gate.streams) (map flushed_tag gone) (ToldTable (m.table done.0) ∷ ToldFaces (m.interfaces done.0) ∷ Answered c ∷ []) (all gone (Each-filter (λ (x : Entry). IsLoad x.load) out f.rest (each_front (λ (x : Entry). IsLoad x.load) f.rest j.coming rest-loads))) (tt, (tt, (came, tt)))
    where
      all : (es : List Entry) → Each (λ (x : Entry). IsLoad x.load) es → Each (TaggedOfKind w.gate.streams) (map flushed_tag es)
      all [] h = tt
      all (x ∷ es) h = (record { load = h.0; outcome = record { done = omega arith; from_device = λ z. refl; to_device = λ z. refl }; status = refl }, all es h.1)

  ends-in : (fence : Option ℕ) → list_any (ends fence) cs ≡ true
  ends-in fence = list_any-append (ends fence) (map flushed_tag gone) (ToldTable (m.table done.0) ∷ ToldFaces (m.interfaces done.0) ∷ Answered c ∷ [])
      ∙ or_right (list_any (ends fence) (map flushed_tag gone)) (changes e.load.verdict || false) (or_left (changes e.load.verdict) false is-it)

  session : Session m w j → Session m (sent_world w done.0 left running cs) (sent_shared j left cs)
  session s = record {
    table = ap (λ (f : Facts). f.table) facts ∙ (answer-tells (tell (tell before (fact_of (on_wire (ToldTable (m.table done.0))).1)) (fact_of (on_wire (ToldFaces (m.interfaces done.0))).1)) c).table;
    faces = ap (λ (f : Facts). f.interfaces) facts ∙ (answer-tells (tell (tell before (fact_of (on_wire (ToldTable (m.table done.0))).1)) (fact_of (on_wire (ToldFaces (m.interfaces done.0))).1)) c).interfaces;
    clean = clean-append w.gate.fence (down_in w.gate.streams) (any_change (j.held ++ j.coming) || j.fenced) (any_change (left ++ j.coming) || j.fenced) j.back cs
        (λ z. or_right (any_change (left ++ j.coming) || j.fenced) (list_any (ends w.gate.fence) cs) (ends-in w.gate.fence)) s.clean
        (clean-flushed w.gate.fence (down_in w.gate.streams) (any_change (left ++ j.coming) || j.fenced) gone (ToldTable (m.table done.0) ∷ ToldFaces (m.interfaces done.0) ∷ Answered c ∷ [])
        ((λ z. ended-soon), ((λ z. ended-soon), ((λ z. absurd (true≢false (sym z))), tt))));
    quits = λ k d. quits-still success r table w.gate.fence k w.host.running w.to_host (s.quits k d);
    trails = s.trails;
    starts = starts-none table (m.table done.0) (any_change left || j.half) w.to_host (subst (λ (b : Bool). StartsFit table b w.to_host) (or_left (any_change j.held) j.half some-change) s.starts);
    kinds = each-still (λ (x : Running). OfKind (stream_of w.gate.streams x.ep) x.kind) success r table w.host.running s.kinds;
    start_kinds = s.start_kinds;
  }
    where
      before : Facts
      before = told (told w.gate.facts j.back) (map flushed_tag gone)

      facts : told w.gate.facts (j.back ++ cs) ≡ tell (tell (tell before (fact_of (on_wire (ToldTable (m.table done.0))).1)) (fact_of (on_wire (ToldFaces (m.interfaces done.0))).1)) (fact_of (on_wire (Answered c)).1)
      facts = told-append w.gate.facts j.back cs ∙ told-append (told w.gate.facts j.back) (map flushed_tag gone) (ToldTable (m.table done.0) ∷ ToldFaces (m.interfaces done.0) ∷ Answered c ∷ [])

      ended-soon : ((any_change (left ++ j.coming) || j.fenced) || (changes e.load.verdict || false)) ≡ true
      ended-soon = or_right (any_change (left ++ j.coming) || j.fenced) (changes e.load.verdict || false) (or_left (changes e.load.verdict) false is-it)

      some-change : any_change j.held ≡ true
      some-change = ap any_change held.is ∙ list_any-append is_change f.front (e ∷ f.back) ∙ or_right (any_change f.front) (is_change e || any_change f.back) (or_left (is_change e) (any_change f.back) is-it)

  related : Related m (sent_world w done.0 left running cs) (sent_shared j left cs)
  related = after-host m w j done.0 left running cs rel there first news
      (Each-append (λ (x : Entry). IsLoad x.load) left j.coming (Each-filter (λ (x : Entry). IsLoad x.load) (λ x. not (out x)) f.rest (each_front (λ (x : Entry). IsLoad x.load) f.rest j.coming rest-loads)) (each_behind (λ (x : Entry). IsLoad x.load) f.rest j.coming rest-loads))
      tagged ids
      (λ P h. Each-filter P (λ x. not (out x)) f.rest (subst (Each P) (sym f.rest-is) (each-parts P f.front e f.back (subst (Each P) held.is h)).1))
      (subst Behind all-left (behind-filter (λ x. not (out x)) (f.rest ++ j.coming) (subst Behind rested (behind-drop f.front e (f.back ++ j.coming) (subst Behind held.inside rel.line.behind)))))
      session (each-still (λ (x : Running). IsIn x.ep) success r table w.host.running rel.runs_at_in)

  abbrev d : Direct S
  d = view w j

  flushed-ran : (es : List Entry) → Each (λ (x : Entry). IsLoad x.load) es → map (λ (y : Waiting). cancelled y.load) (map at_device (filter out es)) ≡ map ran_of (map flushed_of (filter out es))
  flushed-ran [] h = refl
  flushed-ran (x ∷ es) h = go success (is_touched r table (normal_of x.load).ep) refl (flushed-ran es h.1)
    where
      one : is_touched r table (normal_of x.load).ep ≡ true → cancelled x.load ≡ ran_of (flushed_of x)
      one z = ap (λ (o : Outcome). record { load = x.load; outcome = o }) (sym (wire-seen x.load.request x.load.verdict 0 (ended Cancelled) (touched-wire r table x.load h.0.verdict z)))

      go : (a b : Bool) → is_touched r table (normal_of x.load).ep ≡ b → map (λ (y : Waiting). cancelled y.load) (map at_device (filter out es)) ≡ map ran_of (map flushed_of (filter out es)) →
          map (λ (y : Waiting). cancelled y.load) (map at_device (cond (a && b) (x ∷ filter out es) (filter out es))) ≡ map ran_of (map flushed_of (cond (a && b) (x ∷ filter out es) (filter out es)))
      go true true z rest = λ i. one z i ∷ rest i
      go true false z rest = rest
      go false b z rest = rest

  device : act m d (Perform (queue_byte ep) (number e.load)) ≡ view (sent_world w done.0 left running cs) (sent_shared j left cs)
  device =
      ap (performed_first m d (queue_byte ep)) found
      ∙ (λ i. performed_by m d (at_device e) (rest i) (ready i))
      ∙ (λ i. record d {
        gadget = done.0;
        queue = filter (λ y. not (is_flushed (change i) success table y)) (map at_device (f.rest ++ j.coming));
        ran = joins_ran d (map (λ (y : Waiting). cancelled y.load) (filter (is_flushed (change i) success table) (map at_device (f.rest ++ j.coming))) ++ ran_of c ∷ []);
      })
      ∙ (λ i. record d {
        gadget = done.0;
        queue = (filter-map (λ (y : Waiting). not (is_flushed (Some r) success table y)) at_device (f.rest ++ j.coming) ∙ ap (map at_device) all-left) i;
        ran = (ap (λ (l : List Ran). joins_ran d (l ++ ran_of c ∷ [])) (ap (map (λ (y : Waiting). cancelled y.load)) (filter-map (is_flushed (Some r) success table) at_device (f.rest ++ j.coming)) ∙ ap (λ (l : List Entry). map (λ (y : Waiting). cancelled y.load) (map at_device l)) all-gone
            ∙ flushed-ran f.rest (each_front (λ (x : Entry). IsLoad x.load) f.rest j.coming rest-loads)) ∙ more w.gate.sides.imported) i;
        way = λ k. sym (ways (stream_of w.gate.streams k) k) i;
      })
    where
      found : find (is_first_at (queue_byte ep)) d.queue ≡ Some (at_device e)
      found = ap (λ (n : ℕ). find (λ (y : Waiting). queue_of (normal_of y.load).ep == n) d.queue) (same-byte ep) ∙ f.device

      rest : without (is_first_at (queue_byte ep)) d.queue ≡ map at_device (f.rest ++ j.coming)
      rest = ap (λ (n : ℕ). without (λ (y : Waiting). queue_of (normal_of y.load).ep == n) d.queue) (same-byte ep) ∙ f.device_rest

      all : runs_in (j.back ++ cs) ≡ runs_in j.back ++ (map flushed_of gone ++ c ∷ [])
      all = runs_in-append j.back cs ∙ ap (λ (l : List Coming). runs_in j.back ++ l) (runs-flushed gone (ToldTable (m.table done.0) ∷ ToldFaces (m.interfaces done.0) ∷ Answered c ∷ []))

      more : (b : Bool) → cond b (cond b (map ran_of (runs_in j.back)) [] ++ (map ran_of (map flushed_of gone) ++ ran_of c ∷ [])) (cond b (map ran_of (runs_in j.back)) []) ≡ cond b (map ran_of (runs_in (j.back ++ cs))) []
      more true = ap (λ (l : List Ran). map ran_of (runs_in j.back) ++ l) (sym (map-append ran_of (map flushed_of gone) (c ∷ []))) ∙ sym (map-append ran_of (runs_in j.back) (map flushed_of gone ++ c ∷ [])) ∙ ap (map ran_of) (sym all)
      more false = refl

      ways : (up : Option Up) (k : ℕ) → way_of up k (j.back ++ cs) ≡ way_of up k j.back
      ways None k = refl
      ways (Some up) k = packets_in-append up.row.kind k j.back cs ∙ ap (λ l. packets_in up.row.kind k j.back ++ l) (packets-flushed up.row.kind k gone (ToldTable (m.table done.0) ∷ ToldFaces (m.interfaces done.0) ∷ Answered c ∷ [])) ∙ append-nil (packets_in up.row.kind k j.back)

  pub keep-changed : Keeps m w j (move as_deeds m w (Performs ep))
  keep-changed = keeps-deed m w j (sent_shared j left cs) (move as_deeds m w (Performs ep)) (Perform (queue_byte ep) (number e.load)) (record {
    deeds = ap (λ (x : Made S Deed). x.told) moved ∙ ap (λ (n : ℕ). Perform (queue_byte ep) n ∷ []) named;
    outs = ap (λ (x : Made S Deed). x.outs) moved;
    same = device ∙ ap (λ (x : Made S Deed). view x.world (sent_shared j left cs)) (sym moved);
    allowed = perform-allowed m w j ep q f done (not-gone m w j rel (not-lost m w j rel there)) ready;
  })
      (subst (λ (x : Made S Deed). Related m x.world (sent_shared j left cs)) (sym moved) related)
