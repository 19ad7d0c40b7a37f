-- A stream that is down goes up: nothing of it is under way, and its start is.
use Rattle.direct_proof.proofs.streams.submits.RaisedLists.{packets-none, none-runs}
use Rattle.std.proofs.Common.{◌≡◌, ℕ, ◌+◌, ◌≤◌, ◌==◌, ◌||◌, ◌⊎◌, Bool, true, false, cond, List, [], ◌∷◌, ◌++◌, Option, Some, None, is_none, refl, sym, ap, ◌∙◌, subst, arith, append-nil}
use Rattle.std.specs.List.{list_any, AllByRecursion as Each}
use Rattle.std.proofs.lemmas.Bool.{both_ways, or_parts}
use Rattle.std.proofs.lemmas.List.Folds.{list_any-append}
use Rattle.usb_base.specs.Endpoint.{row_of, is_iso}
use Rattle.usb_base.specs.declared.endpoint.EpKind.TheVariants as kind
use Rattle.usb_base.specs.declared.endpoint.EpRow.{EpRow}
use Rattle.redir_wire.specs.declared.packet.RedirControl.TheVariants as plain
use Rattle.redir_data.specs.declared.packet.RedirPacket.{RedirPacket}
use Rattle.redir_host.specs.guest.Line.{Waiting as InLine}
use Rattle.model_device.specs.Meaning.{Meaning}
use Rattle.gate_history.proofs.lemmas.Lists.{Each-append}
use Rattle.gate_history.specs.state.StreamIds.{ids_of_streams, started}
use Rattle.gate_history.specs.state.Ids.{times, holds}
use Rattle.gate_history.specs.write.Packets.{start_packet}
use Rattle.gate_history.specs.state.Ups.{Up, stream_of}
use Rattle.gate_history.proofs.lemmas.state.StreamIds.{AreLong, times-append}
use Rattle.direct_device.specs.Direct.{way_if}
use Rattle.direct_run.specs.Moves.{World}
use Rattle.direct_proof.specs.Tagged.{Tagged, Stated}
use Rattle.direct_proof.specs.Shared.{Shared, lines, half_line, way_of}
use Rattle.direct_proof.specs.Related.{Related}
use Rattle.direct_proof.specs.Session.{Session, down_in, runs}
use Rattle.direct_proof.specs.StreamIds.{Controls, Fenced, StreamIdIsKept, StatusIsKept, stream_id, stream_ids_on, statuses_on}
use Rattle.direct_proof.specs.Kinds.{IsIn, OfKind, TaggedOfKind, StartOfKind, StreamIsIn}
use Rattle.direct_proof.specs.Running.{CanStart, stream_endpoint, started_kind, passes}
use Rattle.direct_proof.specs.Cancels.{IsAsking, any_change, is_change}
use Rattle.direct_proof.specs.Stale.{is_stale, asks}
use Rattle.direct_proof.proofs.streams.fills.FillLists.{weight}
use Rattle.direct_proof.proofs.streams.submits.Still.{IsStill}
use Rattle.direct_proof.proofs.shared.Folds.{lines-append}
use Rattle.direct_proof.proofs.shared.Streaming.{stream_ids-append, trails-append, starts-append}
use Rattle.direct_proof.proofs.streams.wires.Folds.{clean-weaker, quits-more, trails-weaker, cancels-more}
use Rattle.direct_proof.proofs.streams.wires.Sorts.{is_for_endpoint as is_at}
use Rattle.direct_proof.proofs.streams.wires.UpRows.{fits-set}
use Rattle.direct_proof.proofs.streams.submits.Starting.{can-start, kept-new, kept-other, no-stream_id, no-statuses}
use Rattle.direct_proof.proofs.streams.submits.Waited.{AfterWait, streams_world}
use Rattle.redir_data.specs.declared.packet.RedirPacket.TheVariants.{Plain}
use Rattle.direct_proof.proofs.streams.submits.RaisedKinds.{switch, down-less, down-other, fresh-other, none-switched, ps, q, running-kinds, runs-not, stale-less, start, start-kinds, tagged, up, up-here, up-other, ups, was-down}

module _ {S : Type 0} (m : Meaning S) (w : World S) (j : Shared) (ep id : ℕ) (row : EpRow) (rel : Related m w j) (s : IsStill m w j) (h : IsIn ep) (kinds : (row.kind ≡ kind.Iso) ⊎ (row.kind ≡ kind.Interrupt))
    (same-row : row ≡ row_of (m.table w.host.gadget) ep) (down : stream_of w.gate.streams ep ≡ None) (long : AreLong w.gate.stream_ids) (free : holds (ids_of_streams w.gate.stream_ids) id ≡ false) where
  -- ---- ids

  stream_ids-kept : (xs : List (ℕ × RedirPacket)) → Each (λ (p : ℕ × RedirPacket). passes (down_in w.gate.streams) (stream_endpoint p.1) ≡ false) xs → Each (λ (p : ℕ × RedirPacket). StreamIsIn (stream_endpoint p.1)) xs →
      Each (λ (p : ℕ × RedirPacket). StreamIdIsKept w.gate.stream_ids p.0 (stream_endpoint p.1)) xs → Each (λ (p : ℕ × RedirPacket). StreamIdIsKept (started ep id w.gate.stream_ids) p.0 (stream_endpoint p.1)) xs
  stream_ids-kept [] n i k = tt
  stream_ids-kept (p ∷ xs) n i k = (go (stream_endpoint p.1) n.0 i.0 k.0, stream_ids-kept xs n.1 i.1 k.1)
    where
      go : (o : Option ℕ) → passes (down_in w.gate.streams) o ≡ false → StreamIsIn o → StreamIdIsKept w.gate.stream_ids p.0 o → StreamIdIsKept (started ep id w.gate.stream_ids) p.0 o
      go None a b c = tt
      go (Some e) a b c = kept-other w.gate.stream_ids id ep p.0 e h b ((fresh-other m w j ep id row rel s h kinds same-row down long free) e a) c

  statuses-kept : (bs : List Tagged) → Each (λ b. is_stale (down_in w.gate.streams) b ≡ false) bs → Each (TaggedOfKind w.gate.streams) bs → Each (StatusIsKept w.gate.stream_ids) bs → Each (StatusIsKept (started ep id w.gate.stream_ids)) bs
  statuses-kept [] f t k = tt
  statuses-kept (b ∷ bs) f t k = (go b f.0 t.0 k.0, statuses-kept bs f.1 t.1 k.1)
    where
      go : (b : Tagged) → is_stale (down_in w.gate.streams) b ≡ false → TaggedOfKind w.gate.streams b → StatusIsKept w.gate.stream_ids b → StatusIsKept (started ep id w.gate.stream_ids) b
      go (Stated i n e status) x y z = kept-other w.gate.stream_ids id ep n e h (record { low = y.0; high = y.1 }) ((fresh-other m w j ep id row rel s h kinds same-row down long free) e x) z
      go _ x y z = tt

  controls : Controls (started ep id w.gate.stream_ids) (ps m w j ep id row rel s h kinds same-row down long free) j.back
  controls = let c = rel.controls s.there in record {
    once = λ n. go n (n == id) refl c;
    stream_ids_kept = Each-append (λ (p : ℕ × RedirPacket). StreamIdIsKept (started ep id w.gate.stream_ids) p.0 (stream_endpoint p.1)) w.to_host ((q m w j ep id row rel s h kinds same-row down long free) ∷ []) (stream_ids-kept w.to_host (none-switched m w j ep id row rel s h kinds same-row down long free) rel.line.streams_in c.stream_ids_kept)
        (subst (StreamIdIsKept (started ep id w.gate.stream_ids) id) (sym (start m w j ep id row rel s h kinds same-row down long free).stream) (kept-new w.gate.stream_ids id ep long h), tt);
    statuses_kept = statuses-kept j.back s.fresh rel.tagged c.statuses_kept;
  }
    where
      more : (n : ℕ) → times n (stream_ids_on (ps m w j ep id row rel s h kinds same-row down long free)) ≡ times n (stream_ids_on w.to_host) + (cond (n == id) 1 0 + 0)
      more n = ap (times n) (stream_ids-append w.to_host ((q m w j ep id row rel s h kinds same-row down long free) ∷ [])) ∙ times-append n (stream_ids_on w.to_host) (stream_ids_on ((q m w j ep id row rel s h kinds same-row down long free) ∷ [])) ∙ ap (λ (l : List ℕ). times n (stream_ids_on w.to_host) + times n l) (append-nil (stream_id (q m w j ep id row rel s h kinds same-row down long free)) ∙ (switch m w j ep id row rel s h kinds same-row down long free).id)

      go : (n : ℕ) (b : Bool) → (n == id) ≡ b → Controls w.gate.stream_ids w.to_host j.back → times n (stream_ids_on (ps m w j ep id row rel s h kinds same-row down long free)) + times n (statuses_on j.back) ≤ 1
      go n false e c = let o = c.once n in let a = more n in let z : weight (n == id) ≡ weight false = ap weight e in omega (arith, o, a, z)
      go n true e c =
          let same : id ≡ n = grind (arith, e) in
          let a = more n in
          let z : weight (n == id) ≡ weight true = ap weight e in
          let x : times n (stream_ids_on w.to_host) ≡ 0 = subst (λ (y : ℕ). times y (stream_ids_on w.to_host) ≡ 0) same (no-stream_id w.gate.stream_ids id free w.to_host c.stream_ids_kept) in
          let y : times n (statuses_on j.back) ≡ 0 = subst (λ (k : ℕ). times k (statuses_on j.back) ≡ 0) same (no-statuses w.gate.stream_ids id free j.back c.statuses_kept) in
          omega (arith, a, z, x, y)

  -- ---- all

  asks-start : (b : Bool) → IsAsking (Plain (cond b (plain.StartIso ep 8 4) (plain.StartInterrupt ep)))
  asks-start true = tt
  asks-start false = tt

  no-change : ((any_change j.held || j.half) || list_any (asks None) w.to_host) ≡ false
  no-change = λ i. ((or_parts (any_change j.held) (any_change j.coming) (sym (list_any-append is_change j.held j.coming) ∙ s.entries)).0 i || s.half-is i) || (ap (λ (f : Option ℕ). list_any (asks f) w.to_host) (sym s.no_fence) ∙ s.none_asks) i

  can : CanStart (m.table w.host.gadget) ((any_change j.held || j.half) || list_any (asks None) w.to_host) (started_kind (start_packet ep row))
  can = subst (CanStart (m.table w.host.gadget) ((any_change j.held || j.half) || list_any (asks None) w.to_host)) (sym (start m w j ep id row rel s h kinds same-row down long free).started-is) (no-change, can-start (m.table w.host.gadget) (start m w j ep id row rel s h kinds same-row down long free).kind ep row h same-row (start m w j ep id row rel s h kinds same-row down long free).right)

  new-session : Session m (streams_world w (ps m w j ep id row rel s h kinds same-row down long free) (ups m w j ep id row rel s h kinds same-row down long free)) j
  new-session = record {
    table = s.session.table;
    faces = s.session.faces;
    clean = clean-weaker w.gate.fence (down_in w.gate.streams) (down_in (ups m w j ep id row rel s h kinds same-row down long free)) (any_change (j.held ++ j.coming) || j.fenced) (stale-less m w j ep id row rel s h kinds same-row down long free) j.back s.session.clean;
    quits = λ e d. quits-more w.gate.fence e (runs w.host e) w.to_host (q m w j ep id row rel s h kinds same-row down long free) (ap (is_at e) (start m w j ep id row rel s h kinds same-row down long free).stream ∙ swap e ep ((down-other m w j ep id row rel s h kinds same-row down long free) e d)) (s.session.quits e ((down-less m w j ep id row rel s h kinds same-row down long free) e d));
    trails = trails-append w.gate.fence (down_in (ups m w j ep id row rel s h kinds same-row down long free)) w.to_host ((q m w j ep id row rel s h kinds same-row down long free) ∷ []) (trails-weaker w.gate.fence (down_in w.gate.streams) (down_in (ups m w j ep id row rel s h kinds same-row down long free)) (down-less m w j ep id row rel s h kinds same-row down long free) w.to_host s.session.trails)
        ((λ d. absurd (both_ways (down_in (ups m w j ep id row rel s h kinds same-row down long free) ep) (ap is_none (up-here m w j ep id row rel s h kinds same-row down long free)) (sym (ap (passes (down_in (ups m w j ep id row rel s h kinds same-row down long free))) (start m w j ep id row rel s h kinds same-row down long free).stream) ∙ d))), tt);
    starts = starts-append (m.table w.host.gadget) (any_change j.held || j.half) w.to_host ((q m w j ep id row rel s h kinds same-row down long free) ∷ []) s.session.starts (can, tt);
    kinds = (running-kinds m w j ep id row rel s h kinds same-row down long free) w.host.running (none-runs ep w.host.running (runs-not m w j ep id row rel s h kinds same-row down long free)) s.session.kinds;
    start_kinds = Each-append (λ (p : ℕ × RedirPacket). StartOfKind (ups m w j ep id row rel s h kinds same-row down long free) (started_kind p.1)) w.to_host ((q m w j ep id row rel s h kinds same-row down long free) ∷ []) ((start-kinds m w j ep id row rel s h kinds same-row down long free) w.to_host (none-switched m w j ep id row rel s h kinds same-row down long free) s.session.start_kinds)
        (subst (StartOfKind (ups m w j ep id row rel s h kinds same-row down long free)) (sym (start m w j ep id row rel s h kinds same-row down long free).started-is) (subst (λ (o : Option Up). OfKind o (start m w j ep id row rel s h kinds same-row down long free).kind) (sym (up-here m w j ep id row rel s h kinds same-row down long free)) (start m w j ep id row rel s h kinds same-row down long free).right), tt);
  }
    where
      swap : (a b : ℕ) → (a == b) ≡ false → (b == a) ≡ false
      swap a b e = grind (arith, e)

  pub after-raised : AfterWait m w j (ps m w j ep id row rel s h kinds same-row down long free) (started ep id w.gate.stream_ids) (ups m w j ep id row rel s h kinds same-row down long free)
  after-raised = record {
    tagged = (tagged m w j ep id row rel s h kinds same-row down long free) j.back s.fresh rel.tagged;
    streams_in = Each-append (λ (p : ℕ × RedirPacket). StreamIsIn (stream_endpoint p.1)) w.to_host ((q m w j ep id row rel s h kinds same-row down long free) ∷ []) rel.line.streams_in (subst StreamIsIn (sym (start m w j ep id row rel s h kinds same-row down long free).stream) h, tt);
    line = ap (λ (l : List InLine). half_line j.half ++ l) (lines-append w.to_host ((q m w j ep id row rel s h kinds same-row down long free) ∷ []) ∙ ap (λ (l : List InLine). lines w.to_host ++ (l ++ [])) (switch m w j ep id row rel s h kinds same-row down long free).line ∙ append-nil (lines w.to_host)) ∙ rel.line.coming;
    controls = controls;
    fenced-is = subst (λ (f : Option ℕ). Fenced f j.fenced (ps m w j ep id row rel s h kinds same-row down long free) j.back) (sym s.no_fence) s.fenced-is;
    asked = λ first. Each-append (λ (p : ℕ × RedirPacket). IsAsking p.1) w.to_host ((q m w j ep id row rel s h kinds same-row down long free) ∷ []) (rel.asked first) (asks-start (is_iso row.kind), tt);
    cancels = cancels-more j.held w.to_host (q m w j ep id row rel s h kinds same-row down long free) j.coming (switch m w j ep id row rel s h kinds same-row down long free).no_cancel rel.line.cancels;
    session = new-session;
    fits = fits-set w.gate.streams ep (Some (up m w j ep id row rel s h kinds same-row down long free)) h (h, refl, kinds) rel.ups;
  }

  -- nothing of it was on the way
  pub way-raised : (e : ℕ) → way_if (stream_of (ups m w j ep id row rel s h kinds same-row down long free) e) (way_of (stream_of w.gate.streams e) e j.back) ≡ way_of (stream_of (ups m w j ep id row rel s h kinds same-row down long free) e) e j.back
  way-raised e = go (e == ep) refl
    where
      again : (o : Option Up) → way_if o (way_of o e j.back) ≡ way_of o e j.back
      again None = refl
      again (Some x) = refl

      go : (b : Bool) → (e == ep) ≡ b → way_if (stream_of (ups m w j ep id row rel s h kinds same-row down long free) e) (way_of (stream_of w.gate.streams e) e j.back) ≡ way_of (stream_of (ups m w j ep id row rel s h kinds same-row down long free) e) e j.back
      go false i = (λ t. way_if ((up-other m w j ep id row rel s h kinds same-row down long free) e i t) (way_of (stream_of w.gate.streams e) e j.back)) ∙ again (stream_of w.gate.streams e) ∙ sym (ap (λ (o : Option Up). way_of o e j.back) ((up-other m w j ep id row rel s h kinds same-row down long free) e i))
      go true i =
          let same : e ≡ ep = grind (arith, i) in
          (λ t. way_if ((ap (stream_of (ups m w j ep id row rel s h kinds same-row down long free)) same ∙ (up-here m w j ep id row rel s h kinds same-row down long free)) t) (way_of ((ap (stream_of w.gate.streams) same ∙ down) t) e j.back))
          ∙ sym (ap (λ (o : Option Up). way_of o e j.back) (ap (stream_of (ups m w j ep id row rel s h kinds same-row down long free)) same ∙ (up-here m w j ep id row rel s h kinds same-row down long free)) ∙ packets-none (down_in w.gate.streams) row.kind e (ap (down_in w.gate.streams) same ∙ (was-down m w j ep id row rel s h kinds same-row down long free)) j.back s.fresh)
