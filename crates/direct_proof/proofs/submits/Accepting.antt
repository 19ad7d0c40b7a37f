-- A submit that goes to the host and ends no stream is the same item at the device attached directly, and keeps what is
-- shared.
use Rattle.std.proofs.Common.{◌≡◌, ℕ, ◌<◌, ◌==◌, ◌||◌, Bool, true, false, cond, List, [], ◌∷◌, ◌++◌, map, filter, None, refl, sym, ap, ◌∙◌, subst, append-nil, append_assoc, inl, inr, ◌⊎◌}
use Rattle.std.specs.List.{AllByRecursion as Each}
use Rattle.std.proofs.lemmas.Bool.{both_ways}
use Rattle.std.proofs.lemmas.List.Folds.{list_any-append}
use Rattle.std.proofs.lemmas.List.{map-append}
use Rattle.usb_base.specs.Endpoint.{is_control}
use Rattle.usbip_urb.specs.declared.packet.Submit.{Submit as UrbSubmit}
use Rattle.redir_data.specs.declared.packet.RedirPacket.{RedirPacket}
use Rattle.model_device.specs.Meaning.{Meaning}
use Rattle.redir_host.specs.guest.Line.{Waiting as InLine}
use Rattle.gate_history.specs.declared.request.Request.{Request}
use Rattle.gate_history.specs.client.Requests.{request_of}
use Rattle.gate_history.specs.declared.verdict.Verdict.{Verdict}
use Rattle.gate_history.specs.client.Verdict.{goes_by_id}
use Rattle.gate_history.specs.step.Marks.{Submission, Effect, Opens, Mark}
use Rattle.gate_history.specs.client.Submits.{Pending}
use Rattle.gate_history.specs.client.Ends.{is_touched}
use Rattle.gate_history.specs.state.StreamIds.{stream_ids_after}
use Rattle.gate_history.specs.state.State.{State, submits, is_number as is_numbered, change_waits}
use Rattle.gate_history.specs.state.Sound.{IsSound}
use Rattle.gate_history.specs.step.Machine.{with_mark}
use Rattle.gate_history.specs.step.Meaning.{mark_as, mark_of, by_stream}
use Rattle.gate_history.specs.write.Output.{fresh}
use Rattle.gate_history.proofs.lemmas.Lists.{filter-all, list_any-map, Each-append, Each-filter}
use Rattle.direct_run.specs.Moves.{World, ByClient, gate_made, Made, move, quiet}
use Rattle.direct_device.specs.Direct.{Load, number, normal_of, Live, Direct, is_number}
use Rattle.direct_proof.specs.Deeds.{as_deeds}
use Rattle.direct_proof.specs.Requests.{Entry, Debt, at_host, debts_of, at_device, live_of}
use Rattle.direct_proof.specs.Shared.{Shared, lines, half_line, at_hosts, view}
use Rattle.direct_proof.specs.Tagged.{runs_in}
use Rattle.direct_proof.specs.Related.{Related}
use Rattle.direct_proof.specs.Cancels.{moved as moved_on, left, begins, IsAsking, CancelsFit, Behind, is_change, any_change, is_cancel}
use Rattle.direct_proof.specs.Loads.{IsLoad}
use Rattle.direct_proof.specs.Ids.{Ids}
use Rattle.direct_proof.specs.Session.{down_in, runs}
use Rattle.direct_proof.specs.Kinds.{StartOfKind, StreamIsIn}
use Rattle.direct_proof.specs.Running.{started_kind, stream_endpoint}
use Rattle.direct_proof.proofs.lists.Counts.{any-none}
use Rattle.direct_proof.proofs.shared.Owed.{ids-submit, IsNewNumber}
use Rattle.direct_proof.proofs.shared.Folds.{lines-append, at_hosts-append}
use Rattle.direct_proof.proofs.shared.Fits.{fits-append}
use Rattle.direct_proof.proofs.shared.Streaming.{IsQuiet, quits-more, trails-more, starts-more, controls-more, fenced-more, streams-quiet-in}
use Rattle.direct_proof.proofs.shared.Backs.{clean-more}
use Rattle.direct_proof.proofs.shared.Found.{before, unmap-each, way-again}
use Rattle.direct_proof.proofs.submits.Submitting.{AreBefore}
use Rattle.direct_proof.proofs.shared.Debts.{debts-append}
use Rattle.direct_proof.proofs.shared.Asked.{debt_from}
use Rattle.direct_proof.proofs.submits.Opening.{opened_as, simple-live, simple-named, simple-asks, simple-sent, simple-means, simple-outs, simple-done, device-simple}
use Rattle.direct_proof.proofs.submits.Verdicts.{live-debts, calm-entries, same-verdict}
use Rattle.direct_proof.proofs.submits.Fresh.{is-new, IsSimpleSubmit, behind-none, behind-zero}
use Rattle.usbip_urb.specs.declared.packet.UrbPacket.TheVariants as urb
use Rattle.usbip_urb.specs.declared.client.ClientPacket.TheVariants.{Urb}
use Rattle.gate_history.specs.declared.item.Item.TheVariants.{Asked}
use Rattle.gate_history.specs.state.Ups.{stream_at, stream_of}
use Rattle.direct_device.specs.Acting.{Deed, Submit, act, answers, made_of}
use Rattle.direct_proof.proofs.shared.Keeps.{Keeps, keeps-quiet, keeps-deed}

module _ {S : Type 0} (m : Meaning S) (w : World S) (j : Shared) (rel : Related m w j) (sound : IsSound w.gate) (inside : w.gate.sides.imported ≡ true) (there : w.gate.sides.lost ≡ false) (place : ℕ) (s : UrbSubmit) (v : Verdict) (is : IsSimpleSubmit w.gate s v) where
  abbrev st : State
  st = w.gate

  abbrev r : Request
  r = request_of s

  abbrev load : Load
  load = record { request = r; verdict = v }

  abbrev entry : Entry
  entry = record { id = is.simple.id; load = load; asked = false }

  abbrev debt : Debt
  debt = record { id = is.simple.id; load = load }

  abbrev qs : List (ℕ × RedirPacket)
  qs = is.simple.qs

  abbrev later : Shared
  later = record j { coming = j.coming ++ entry ∷ []; debts = j.debts ++ debt ∷ [] }

  abbrev what : Effect
  what = Opens (record { place = st.items; request = r; verdict = v; id = is.simple.id })

  abbrev mark : Mark
  mark = mark_as st what None

  first : AreBefore st.items st.live
  first = before st.items st.live (unmap-each (λ (x : Submission). x.place < st.items) (λ (p : Pending). p.submit) st.live sound.places)

  joined : (j.held ++ j.coming) ++ entry ∷ [] ≡ j.held ++ (j.coming ++ entry ∷ [])
  joined = append_assoc j.held j.coming (entry ∷ [])

  owed : debts_of (submits st) ≡ j.debts
  owed = live-debts m w j rel inside there

  abbrev opened_world : World S
  opened_world = record w {
    gate = record (with_mark st mark) { live = st.live ++ fresh (record { place = st.items; request = r; verdict = v; id = is.simple.id }) ∷ []; abandoned = st.abandoned; streams = st.streams; stream_ids = st.stream_ids };
    to_host = w.to_host ++ qs;
    submits = w.submits ++ record { seqnum = r.seqnum; id = is.simple.id } ∷ [];
  }

  world : (gate_made as_deeds w mark).world ≡ opened_world
  world = λ i. record w {
    gate = record (with_mark st mark) {
      live = simple-live st r v is.simple first i;
      abandoned = filter-all st.abandoned i;
      streams = is.simple.streams i;
      stream_ids = (ap (λ l. stream_ids_after l st.stream_ids) (simple-asks st r v is.simple first) ∙ is.simple.stream_ids_stay st.stream_ids) i;
    };
    to_host = w.to_host ++ simple-sent st r v is.simple first i;
    submits = w.submits ++ simple-named st r v is.simple first i;
  }

  coming : half_line j.half ++ lines (w.to_host ++ qs) ≡ at_hosts (j.coming ++ entry ∷ [])
  coming = ap (λ (l : List InLine). half_line j.half ++ l) (lines-append w.to_host qs) ∙ sym (append_assoc (half_line j.half) (lines w.to_host) (lines qs))
      ∙ (λ i. rel.line.coming i ++ is.simple.line i) ∙ ap (λ (l : List InLine). at_hosts j.coming ++ l) (sym (append-nil (at_host entry))) ∙ sym (at_hosts-append j.coming (entry ∷ []))

  quiet-qs : Each IsQuiet qs
  quiet-qs = is.simple.quiet

  met : w.host.guest.first ≡ false
  met = (rel.meets.behind (rel.meets.no_session inside there)).2

  more-changes : (any_change (j.held ++ j.coming) || j.fenced) ≡ true → (any_change (j.held ++ (j.coming ++ entry ∷ [])) || j.fenced) ≡ true
  more-changes h = ap (λ (b : Bool). b || j.fenced) (ap any_change (sym joined) ∙ list_any-append is_change (j.held ++ j.coming) (entry ∷ [])) ∙ wider (any_change (j.held ++ j.coming)) (is_change entry || false) j.fenced h
    where
      wider : (a x f : Bool) → (a || f) ≡ true → ((a || x) || f) ≡ true
      wider true x f k = refl
      wider false true f k = refl
      wider false false f k = k

  unstarted : (ps : List (ℕ × RedirPacket)) → Each IsQuiet ps → Each (λ (p : ℕ × RedirPacket). StartOfKind st.streams (started_kind p.1)) ps
  unstarted [] h = tt
  unstarted (p ∷ ps) h = (subst (StartOfKind st.streams) (sym h.0.1) tt, unstarted ps h.1)

  uncancelled : (ahead : List Entry) (ps : List (ℕ × RedirPacket)) (es : List Entry) → Each (λ (p : ℕ × RedirPacket). is_cancel p.1 ≡ false) ps → CancelsFit ahead ps es
  uncancelled ahead [] es h = tt
  uncancelled ahead (p ∷ ps) es h = ((λ c. absurd (both_ways (is_cancel p.1) h.0 c)), uncancelled (moved_on (begins p.1) ahead es) ps (left (begins p.1) es) h.1)

  new-number : IsNewNumber (number load) j.debts
  new-number = subst (IsNewNumber r.seqnum) owed (mapped (filter (λ (x : Submission). goes_by_id x.verdict) (submits st)) (Each-filter (λ (x : Submission). is_numbered r.seqnum x ≡ false) (λ (x : Submission). goes_by_id x.verdict) (submits st) (any-none (is_numbered r.seqnum) (submits st) is.new)))
    where
      mapped : (ss : List Submission) → Each (λ (x : Submission). is_numbered r.seqnum x ≡ false) ss → Each (λ (d : Debt). (number d.load == r.seqnum) ≡ false) (map debt_from ss)
      mapped [] h = tt
      mapped (x ∷ xs) h = (h.0, mapped xs h.1)

  behind : Behind ((j.held ++ j.coming) ++ entry ∷ [])
  behind = go is.behind
    where
      go : (change_waits st ≡ false) ⊎ (is_control (normal_of load).ep ≡ true) → Behind ((j.held ++ j.coming) ++ entry ∷ [])
      go (inl none) = behind-none (j.held ++ j.coming) entry rel.line.behind (calm-entries m w j rel inside there none)
      go (inr zero) = behind-zero (j.held ++ j.coming) entry rel.line.behind zero

  related : Related m opened_world later
  related = record {
    line = record {
      held = rel.line.held;
      half = rel.line.half;
      coming = coming;
      loads = subst (Each (λ (e : Entry). IsLoad e.load)) joined (Each-append (λ (e : Entry). IsLoad e.load) (j.held ++ j.coming) (entry ∷ []) rel.line.loads (is.load, tt));
      streams_in = Each-append (λ (p : ℕ × RedirPacket). StreamIsIn (stream_endpoint p.1)) w.to_host qs rel.line.streams_in (streams-quiet-in qs quiet-qs);
      cancels = fits-append j.half j.held w.to_host qs j.coming (entry ∷ []) rel.line.coming rel.line.cancels (uncancelled (j.held ++ j.coming) qs (entry ∷ []) is.simple.no_cancel);
      behind = subst Behind joined behind;
    };
    answers = rel.answers;
    tagged = rel.tagged;
    ids = subst (λ (es : List Entry). Ids later.debts (w.submits ++ record { seqnum = r.seqnum; id = is.simple.id } ∷ []) es (runs_in j.back)) joined
        (ids-submit j.debts w.submits (j.held ++ j.coming) (runs_in j.back) (is.simple.id) load false rel.ids (is-new st (is.simple.id) j.debts is.fresh.1 (rel.debts there)) new-number);
    real = Each-append (λ (d : Debt). (d.id == 0) ≡ false) j.debts (debt ∷ []) rel.real (is.fresh.0, tt);
    runs_at_in = rel.runs_at_in;
    before = λ h. absurd (both_ways w.host.guest.first met h);
    asked = λ h. Each-append (λ (p : ℕ × RedirPacket). IsAsking p.1) w.to_host qs (rel.asked h) is.simple.asking;
    meets = rel.meets;
    debts = λ h. (λ i. (ap debts_of (map-append (λ (p : Pending). p.submit) st.live (fresh (opened_as st r v is.simple first) ∷ [])) ∙ debts-append (submits st) (opened_as st r v is.simple first ∷ []) ∙ (λ k. owed k ++ map debt_from (cond (is.simple.goes k) (opened_as st r v is.simple first ∷ []) []))) i ++ debts_of ((rel.alone inside).0 i))
        ∙ append-nil (j.debts ++ debt ∷ []);
    controls = λ h. controls-more st.stream_ids w.to_host qs j.back quiet-qs (rel.controls h);
    fenced = λ h. fenced-more st.fence j.fenced w.to_host qs j.back quiet-qs (rel.fenced h);
    alone = rel.alone;
    session = λ h a. let k = rel.session h a in record {
      table = k.table;
      faces = k.faces;
      clean = clean-more st.fence (down_in st.streams) (any_change (j.held ++ j.coming) || j.fenced) (any_change (j.held ++ (j.coming ++ entry ∷ [])) || j.fenced) more-changes j.back k.clean;
      quits = λ ep z. quits-more st.fence ep (runs w.host ep) w.to_host qs quiet-qs (k.quits ep z);
      trails = trails-more st.fence (down_in st.streams) w.to_host qs quiet-qs k.trails;
      starts = starts-more (m.table w.host.gadget) (any_change j.held || j.half) w.to_host qs quiet-qs k.starts;
      kinds = k.kinds;
      start_kinds = Each-append (λ (p : ℕ × RedirPacket). StartOfKind st.streams (started_kind p.1)) w.to_host qs k.start_kinds (unstarted qs is.simple.quiet);
    };
    ups = rel.ups;
    down = rel.down;
    lost = λ h. absurd (both_ways st.sides.lost there h);
    sides = rel.sides;
    farewell = rel.farewell;
  }

  pub keep-simple : Keeps m w j (move as_deeds m w (ByClient (Asked place (Urb (urb.Submit s)))))
  keep-simple = go st.sides.client_over refl
    where
      d : Direct S
      d = view w j

      live-untouched : (ps : List Pending) → Each (λ (p : Pending). is_touched v p.submit.verdict ≡ false) ps → Each (λ (y : Live). is_touched v y.load.verdict ≡ false) (map live_of ps)
      live-untouched [] h = tt
      live-untouched (p ∷ ps) h = (h.0, live-untouched ps h.1)

      made-is : made_of m d r ≡ v
      made-is = same-verdict m w j rel inside there r is.address ∙ ap (λ (u : Verdict). by_stream (stream_at st.streams r.transfer.ep) u) is.verdict-is ∙ is.simple.kept (stream_at st.streams r.transfer.ep)

      device : (act m d (Submit r) ≡ record d { live = d.live ++ record { load = load; unlinker = None } ∷ []; queue = d.queue ++ record { load = load; asked = false } ∷ []; streams = st.streams }) × (answers m d (Submit r) ≡ [])
      device = device-simple m st d r v is.simple refl (live-untouched st.live is.simple.untouched) made-is (λ ep. way-again (stream_of st.streams ep) ep j.back)

      go : (b : Bool) → st.sides.client_over ≡ b → Keeps m w j (move as_deeds m w (ByClient (Asked place (Urb (urb.Submit s)))))
      go true over = keeps-quiet m w j j (move as_deeds m w (ByClient (Asked place (Urb (urb.Submit s))))) w (ap (λ (b : Bool). cond b (quiet w) (gate_made as_deeds w (mark_of st (Asked place (Urb (urb.Submit s)))))) over) rel refl
      go false on = keeps-deed m w j later (move as_deeds m w (ByClient (Asked place (Urb (urb.Submit s))))) (Submit r) (record {
        deeds = ap (λ (x : Made S Deed). x.told) moved ∙ simple-done st r v is.simple first;
        outs = ap (λ (x : Made S Deed). x.outs) moved ∙ simple-outs st r v is.simple first ∙ ap (map Urb) (sym device.1);
        same = device.0
            ∙ (λ i. record d {
              live = sym (map-append live_of st.live (fresh (opened_as st r v is.simple first) ∷ [])) i;
              queue = (sym (map-append at_device (j.held ++ j.coming) (entry ∷ [])) ∙ ap (map at_device) joined) i;
            })
            ∙ ap (λ (x : World S). view x later) (sym world) ∙ ap (λ (x : Made S Deed). view x.world later) (sym moved);
        allowed = (inside, list_any-map (λ (l : Live). is_number r.seqnum l.load) live_of st.live ∙ sym (list_any-map (is_numbered r.seqnum) (λ (p : Pending). p.submit) st.live) ∙ is.new);
      })
          (subst (λ (x : Made S Deed). Related m x.world later) (sym moved) (subst (λ (x : World S). Related m x later) (sym world) related))
        where
          moved : move as_deeds m w (ByClient (Asked place (Urb (urb.Submit s)))) ≡ gate_made as_deeds w mark
          moved = λ i. cond (on i) (quiet w) (gate_made as_deeds w (mark_as st (simple-means st r v is.simple first place s refl inside is.new is.verdict-is i) None))
