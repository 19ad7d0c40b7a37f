-- An unlink keeps what is shared: it takes back one that waits for a stream, or asks for one at the host.
use Rattle.std.proofs.Common.{◌≡◌, ℕ, ◌≤◌, ◌==◌, ◌||◌, ◌&&◌, not, Bool, true, false, cond, suc, List, [], ◌∷◌, ◌++◌, map, filter, length, None, refl, sym, ap, ◌∙◌, subst, arith, append-nil}
use Rattle.std.specs.List.{AllByRecursion as Each}
use Rattle.std.proofs.lemmas.Bool.{both_ways}
use Rattle.std.proofs.lemmas.List.{map-append}
use Rattle.usb_base.specs.declared.side.Side.TheVariants.{Client}
use Rattle.usb_base.specs.declared.reason.Reason.TheVariants.{NotImported}
use Rattle.usbip_urb.specs.declared.packet.Unlink.{Unlink as UrbUnlink}
use Rattle.usbip_urb.specs.declared.packet.UrbPacket.TheVariants as urb
use Rattle.usbip_urb.specs.declared.client.ClientPacket.TheVariants.{Urb}
use Rattle.redir_data.specs.declared.packet.RedirPacket.{RedirPacket}
use Rattle.model_device.specs.Meaning.{Meaning}
use Rattle.redir_host.specs.declared.state.request.Request.{Request as HostRequest}
use Rattle.redir_host.specs.guest.Line.{Waiting as InLine}
use Rattle.gate_history.specs.declared.item.Item.TheVariants.{Asked}
use Rattle.gate_history.specs.step.Marks.{Submission, Mark}
use Rattle.gate_history.specs.client.Submits.{Pending}
use Rattle.gate_history.specs.client.Ends.{is_waiting}
use Rattle.gate_history.specs.write.Output.{cancels, cancel, is_taken as gate_taken}
use Rattle.gate_history.specs.state.State.{State, submits, is_number as is_numbered}
use Rattle.gate_history.specs.state.Sound.{IsSound}
use Rattle.gate_history.specs.step.Machine.{live_after}
use Rattle.gate_history.specs.step.Meaning.{mark_as, mark_of, refused}
use Rattle.gate_history.proofs.lemmas.Lists.{filter-all, filter-map, map-map, Each-append}
use Rattle.direct_run.specs.declared.submitted.Submitted.{Submitted}
use Rattle.direct_run.specs.Moves.{World, ByClient, Made, move, quiet, gate_made}
use Rattle.direct_device.specs.Direct.{Direct}
use Rattle.direct_device.specs.Acting.{Deed, Unlink, marked}
use Rattle.direct_proof.specs.Deeds.{as_deeds}
use Rattle.direct_proof.specs.Requests.{Entry, at_queue, at_device, debts_of}
use Rattle.direct_proof.specs.Shared.{Shared, lines, half_line, at_hosts, view}
use Rattle.direct_proof.specs.Tagged.{runs_in}
use Rattle.direct_proof.specs.Related.{Related}
use Rattle.direct_proof.specs.Meets.{Early}
use Rattle.direct_proof.specs.Loads.{IsLoad}
use Rattle.direct_proof.specs.Cancels.{IsAsking, CancelsFit, any_change, Behind}
use Rattle.direct_proof.specs.Ids.{Ids}
use Rattle.direct_proof.specs.Stale.{Clean}
use Rattle.direct_proof.specs.Session.{down_in}
use Rattle.direct_proof.specs.Running.{StartsFit, started_kind, stream_endpoint}
use Rattle.direct_proof.specs.Kinds.{StartOfKind, StreamIsIn}
use Rattle.direct_proof.proofs.lists.Counts.{Each-map}
use Rattle.direct_proof.proofs.shared.Folds.{lines-append}
use Rattle.direct_proof.proofs.shared.Fits.{fits-nil, fits-map}
use Rattle.direct_proof.proofs.shared.Streaming.{IsQuiet, quits-more, trails-more, starts-more, controls-more, fenced-more, streams-quiet-in}
use Rattle.direct_proof.proofs.shared.Asked.{ask_entry, ids-ask, changes-ask, behind-ask, line-ask, cancels-line, cancels-quiet, cancels-asking, cancels-fit, entries-of}
use Rattle.direct_proof.proofs.unlinks.Unlinks.{live-same, debts-unlinked, unlink-done, unlink-named, unlink-sent, unlink-answers}
use Rattle.direct_proof.proofs.shared.Keeps.{Keeps, keeps-quiet, keeps-deed}
use Rattle.direct_proof.proofs.unlinks.AskedBack.{what, still-asked, asked-of}

-- ---- the move

pub keep-unlink : {S : Type 0} (m : Meaning S) (w : World S) (j : Shared) (place : ℕ) (u : UrbUnlink) → Related m w j → IsSound w.gate → w.gate.sides.imported ≡ true → Keeps m w j (move as_deeds m w (ByClient (Asked place (Urb (urb.Unlink u)))))
keep-unlink {S = S} m w j place u rel sound inside = go w.gate.sides.client_over refl
  where
    st : State
    st = w.gate

    by : ℕ
    by = u.head.seqnum

    target : ℕ
    target = u.target

    f : Entry → Entry
    f = ask_entry target

    d : Direct S
    d = view w j

    mark : Mark
    mark = mark_as st (what by target) None

    qs : List (ℕ × RedirPacket)
    qs = map cancel (filter (cancels (what by target)) st.live)

    es : List Entry
    es = j.held ++ j.coming

    later : Shared
    later = record j { held = map f j.held; coming = map f j.coming }

    split : map f es ≡ map f j.held ++ map f j.coming
    split = map-append f j.held j.coming

    -- nothing is sent for one that lost its device
    none-lost : st.sides.lost ≡ true → qs ≡ []
    none-lost h = ap (λ (l : List Pending). map cancel (filter (cancels (what by target)) l)) (rel.lost h).3

    quiet-qs : Each IsQuiet qs
    quiet-qs = cancels-quiet (filter (cancels (what by target)) st.live)

    asked : CancelsFit (map f j.held ++ map f j.coming) qs []
    asked = subst (λ (l : List Entry). CancelsFit l qs []) split (known st.sides.lost refl)
      where
        known : (b : Bool) → st.sides.lost ≡ b → CancelsFit (map f es) qs []
        known true h = subst (λ (l : List (ℕ × RedirPacket)). CancelsFit (map f es) l []) (sym (none-lost h)) tt
        known false h = cancels-fit (map f es) (filter (cancels (what by target)) st.live) (asked-of by target es st.live (entries-of j.debts w.submits es (runs_in j.back) (submits st) st.abandoned rel.ids (rel.debts h)))

    coming : half_line j.half ++ lines (w.to_host ++ qs) ≡ at_hosts (map f j.coming)
    coming = ap (λ (l : List InLine). half_line j.half ++ l) (lines-append w.to_host qs ∙ ap (λ (l : List InLine). lines w.to_host ++ l) (cancels-line (filter (cancels (what by target)) st.live)) ∙ append-nil (lines w.to_host))
        ∙ rel.line.coming ∙ sym (line-ask f (λ e. refl) (λ e. refl) j.coming)

    before : w.host.guest.first ≡ true → Early (record w { to_host = w.to_host ++ qs }) later
    before h = by_lost st.sides.lost refl
      where
        early : Early w j
        early = rel.before h

        by_lost : (b : Bool) → st.sides.lost ≡ b → Early (record w { to_host = w.to_host ++ qs }) later
        by_lost true off = record { back = early.back; wire = ap (λ (l : List (ℕ × RedirPacket)). w.to_host ++ l) (none-lost off) ∙ append-nil w.to_host ∙ early.wire; held = ap (map f) early.held; half = early.half; running = early.running }
        by_lost false on = absurd (both_ways w.host.guest.first (rel.meets.behind (rel.meets.no_session inside on)).2 h)

    related : Related m (record (gate_made as_deeds w mark).world { to_host = w.to_host ++ qs; submits = w.submits }) later
    related = record {
      line = record {
        held = rel.line.held ∙ ap (λ (l : List HostRequest). cond w.host.unplugged [] l) (sym (map-map at_queue f j.held));
        half = rel.line.half;
        coming = coming;
        loads = subst (Each (λ (e : Entry). IsLoad e.load)) split (Each-map (λ (e : Entry). IsLoad e.load) f es rel.line.loads);
        streams_in = Each-append (λ (p : ℕ × RedirPacket). StreamIsIn (stream_endpoint p.1)) w.to_host qs rel.line.streams_in (streams-quiet-in qs quiet-qs);
        cancels = fits-nil j.half (map f j.held) w.to_host qs (map f j.coming) (rel.line.coming ∙ sym (line-ask f (λ e. refl) (λ e. refl) j.coming)) (fits-map f (still-asked target) j.held w.to_host j.coming rel.line.cancels) asked;
        behind = subst Behind split (behind-ask f (λ e. refl) (λ e. refl) es rel.line.behind);
      };
      answers = rel.answers;
      tagged = rel.tagged;
      ids = subst (λ (l : List Entry). Ids j.debts w.submits l (runs_in j.back)) split (ids-ask f (λ e. refl) (λ e. refl) j.debts w.submits es (runs_in j.back) rel.ids);
      real = rel.real;
      runs_at_in = rel.runs_at_in;
      before = λ h. let e = before h in record { back = e.back; wire = e.wire; held = e.held; half = e.half; running = e.running };
      asked = λ h. Each-append (λ (p : ℕ × RedirPacket). IsAsking p.1) w.to_host qs (rel.asked h) (cancels-asking (filter (cancels (what by target)) st.live));
      meets = rel.meets;
      debts = λ h. (λ i. debts-unlinked st by target i ++ debts_of (filter-all st.abandoned i)) ∙ rel.debts h;
      controls = λ h. controls-more st.stream_ids w.to_host qs j.back quiet-qs (rel.controls h);
      fenced = λ h. fenced-more st.fence j.fenced w.to_host qs j.back quiet-qs (rel.fenced h);
      alone = λ h. let a = rel.alone h in (filter-all st.abandoned ∙ a.0, a.1);
      session = λ h a. let s = rel.session h a in record {
        table = s.table;
        faces = s.faces;
        clean = subst (λ (l : List Entry). Clean st.fence (down_in st.streams) (any_change l || j.fenced) j.back) split (subst (λ (b : Bool). Clean st.fence (down_in st.streams) (b || j.fenced) j.back) (sym (changes-ask f (λ e. refl) (λ e. refl) es)) s.clean);
        quits = λ ep z. quits-more st.fence ep _ w.to_host qs quiet-qs (s.quits ep z);
        trails = trails-more st.fence (down_in st.streams) w.to_host qs quiet-qs s.trails;
        starts = starts-more (m.table w.host.gadget) (any_change (map f j.held) || j.half) w.to_host qs quiet-qs (subst (λ (b : Bool). StartsFit (m.table w.host.gadget) (b || j.half) w.to_host) (sym (changes-ask f (λ e. refl) (λ e. refl) j.held)) s.starts);
        kinds = s.kinds;
        start_kinds = Each-append (λ (p : ℕ × RedirPacket). StartOfKind st.streams (started_kind p.1)) w.to_host qs s.start_kinds (no-starts qs quiet-qs);
      };
      ups = rel.ups;
      down = rel.down;
      lost = λ h. let l = rel.lost h in (l.0, l.1, l.2, (ap (λ (ps : List Pending). live_after (record st { live = ps }) (what by target)) l.3), l.4);
      sides = rel.sides;
      farewell = rel.farewell;
    }
      where
        no-starts : (ps : List (ℕ × RedirPacket)) → Each IsQuiet ps → Each (λ (p : ℕ × RedirPacket). StartOfKind st.streams (started_kind p.1)) ps
        no-starts [] h = tt
        no-starts (p ∷ ps) h = (subst (StartOfKind st.streams) (sym h.0.1) tt, no-starts ps h.1)

    world : (gate_made as_deeds w mark).world ≡ record (gate_made as_deeds w mark).world { to_host = w.to_host ++ qs; submits = w.submits }
    world = λ i. record (gate_made as_deeds w mark).world { to_host = w.to_host ++ unlink-sent st by target i; submits = (ap (λ (l : List Submitted). w.submits ++ l) (unlink-named st by target) ∙ append-nil w.submits) i }

    few : length (filter (gate_taken target) st.live) ≤ 1
    few = let one = sound.numbers target in let a = ap (λ (l : List Submission). length l) (filter-map (is_numbered target) (λ (p : Pending). p.submit) st.live) in omega (arith, one, a, shorter st.live, length-of (filter (λ (p : Pending). is_numbered target p.submit) st.live))
      where
        length-of : (ps : List Pending) → length (map (λ (p : Pending). p.submit) ps) ≡ length ps
        length-of [] = refl
        length-of (p ∷ ps) = ap suc (length-of ps)

        shorter : (ps : List Pending) → length (filter (gate_taken target) ps) ≤ length (filter (λ (p : Pending). is_numbered target p.submit) ps)
        shorter [] = omega arith
        shorter (p ∷ ps) = on (is_waiting p.submit.verdict) (p.submit.request.seqnum == target) (shorter ps)
          where
            on : (a b : Bool) → length (filter (gate_taken target) ps) ≤ length (filter (λ (x : Pending). is_numbered target x.submit) ps) →
                length (cond (a && b) (p ∷ filter (gate_taken target) ps) (filter (gate_taken target) ps)) ≤ length (cond b (p ∷ filter (λ (x : Pending). is_numbered target x.submit) ps) (filter (λ (x : Pending). is_numbered target x.submit) ps))
            on true true k = omega (arith, k)
            on true false k = k
            on false true k = omega (arith, k)
            on false false k = k

    go : (b : Bool) → st.sides.client_over ≡ b → Keeps m w j (move as_deeds m w (ByClient (Asked place (Urb (urb.Unlink u)))))
    go true over = keeps-quiet m w j j (move as_deeds m w (ByClient (Asked place (Urb (urb.Unlink u))))) w (ap (λ (b : Bool). cond b (quiet w) (gate_made as_deeds w (mark_of st (Asked place (Urb (urb.Unlink u)))))) over) rel refl
    go false on = keeps-deed m w j later (move as_deeds m w (ByClient (Asked place (Urb (urb.Unlink u))))) (Unlink by target) (record {
      deeds = ap (λ (x : Made S Deed). x.told) moved ∙ unlink-done st by target;
      outs = ap (λ (x : Made S Deed). x.outs) moved ∙ unlink-answers st by target few d refl;
      same = (λ i. record d {
        live = sym (live-same st by target) i;
        queue = (map-map (marked target) at_device es ∙ sym (map-map at_device f es) ∙ ap (map at_device) split) i;
      })
          ∙ ap (λ (x : Made S Deed). view x.world later) (sym moved);
      allowed = inside;
    })
        (subst (λ (x : Made S Deed). Related m x.world later) (sym moved) (subst (λ (x : World S). Related m x later) (sym world) related))
      where
        moved : move as_deeds m w (ByClient (Asked place (Urb (urb.Unlink u)))) ≡ gate_made as_deeds w mark
        moved = (λ i. cond (on i) (quiet w) (gate_made as_deeds w (mark_of st (Asked place (Urb (urb.Unlink u))))))
            ∙ ap (λ (b : Bool). gate_made as_deeds w (mark_as st (cond (not b) (refused Client place NotImported) (what by target)) None)) inside
