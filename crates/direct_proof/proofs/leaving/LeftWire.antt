-- The wire to the host behind a client that has left: the stops of all its streams stand at its end, and the last is
-- the fence.
use Rattle.std.proofs.Common.{◌≡◌, ℕ, zero, suc, ◌+◌, ◌≤◌, ◌⊎◌, inl, inr, Bool, true, false, cond, List, [], ◌∷◌, ◌++◌, length, Option, Some, None, is_none, is_some, refl, sym, ap, ◌∙◌, subst, arith, append_assoc, true≢false}
use Rattle.std.specs.Prelude.{get_or, zip}
use Rattle.redir_wire.specs.declared.packet.RedirControl.TheVariants as plain
use Rattle.redir_data.specs.declared.packet.RedirPacket.{RedirPacket}
use Rattle.redir_data.specs.declared.packet.RedirPacket.TheVariants.{Plain}
use Rattle.usb_base.specs.Endpoint.{endpoint_index, is_iso}
use Rattle.std.specs.List.{last_or, AllByRecursion as Each}
use Rattle.redir_host.proofs.lemmas.state.Each.{each_behind}
use Rattle.gate_history.proofs.lemmas.Lists.{Each-append}
use Rattle.gate_history.specs.state.StreamIds.{stream_ids_after, ids_of_streams}
use Rattle.gate_history.specs.state.Flight.{wide_ids, ids_of}
use Rattle.gate_history.specs.state.Ids.{AreFresh, greatest, holds, times}
use Rattle.gate_history.specs.write.Packets.{stops}
use Rattle.gate_history.specs.state.State.{State, submits, flying}
use Rattle.gate_history.specs.state.Ups.{Up, stream_of, lower, unless, is_ended}
use Rattle.gate_history.proofs.lemmas.state.StreamIds.{AreLong, times-append}
use Rattle.gate_history.proofs.lemmas.state.Draws.{length-draws}
use Rattle.direct_proof.specs.StreamIds.{Controls, Fenced, IdIsKept, StreamIdIsKept, StatusIsKept, stream_ids_on, statuses_on}
use Rattle.direct_proof.specs.Kinds.{UpsFit, UpFits}
use Rattle.direct_proof.specs.Running.{Quits, Trails, stream_endpoint}
use Rattle.direct_proof.specs.Session.{down_in}
use Rattle.direct_proof.specs.Stale.{asks, is_fence}
use Rattle.direct_proof.specs.Tagged.{Tagged, Stated}
use Rattle.direct_proof.proofs.lists.Counts.{itself}
use Rattle.direct_proof.proofs.shared.Streaming.{stream_ids-append}
use Rattle.direct_proof.proofs.shared.UpsFound.{lowered, by-address}
use Rattle.direct_proof.proofs.streams.wires.Lowered.{WasUp, why-down}
use Rattle.direct_proof.proofs.streams.submits.Starting.{no-stream_id, no-statuses}
use Rattle.direct_proof.proofs.streams.submits.Drawn.{any-back, times-some, times-distinct}
use Rattle.direct_proof.proofs.streams.changes.Stops.{StopsOne, each-stops, ups-in, runs_all, runs_all-append, stops-off, stops-quit, quits-ends, trails-ends, quits-end}
use Rattle.direct_proof.proofs.streams.changes.StopIds.{Stand, stops-times, stops-kept, stops-new}
use Rattle.direct_proof.proofs.leaving.Left.{leave_ids, leave_stops}
use Rattle.direct_proof.proofs.leaving.Last.{IsLast, last-is}

-- what is true of every gateway: its laws. A stream that is up keeps no stop
pub record IsStopping (st : State) : Type 0 where
  pub long : AreLong st.stream_ids
  pub fresh : AreFresh (greatest (wide_ids st.sides.agreed)) (flying st) (leave_ids st)
  pub unstopped : (i : ℕ) → is_some (get_or st.streams i None) ≡ true → get_or st.stream_ids.stopped i None ≡ None

abbrev pub every_up : Up → Bool
every_up = is_ended None

-- ---- what the stops ask

abbrev AsksAsFence : ℕ × RedirPacket → Type 0
AsksAsFence z = (fence : Option ℕ) → asks fence z ≡ is_fence fence z.0

stops-ask : (ids : List ℕ) (ups : List (Option Up)) → Each AsksAsFence (zip ids (stops every_up ups))
stops-ask [] ups = tt
stops-ask (id ∷ ids) [] = tt
stops-ask (id ∷ ids) (None ∷ ups) = stops-ask (id ∷ ids) ups
stops-ask (id ∷ ids) (Some up ∷ ups) = (one (is_iso up.row.kind), stops-ask ids ups)
  where
    one : (b : Bool) (fence : Option ℕ) → asks fence (id, Plain (cond b (plain.StopIso up.ep) (plain.StopInterrupt up.ep))) ≡ is_fence fence id
    one true fence = refl
    one false fence = refl

-- ---- all streams go down

pub all-lowered : (ups : List (Option Up)) (e : ℕ) → down_in (lower every_up ups) e ≡ true
all-lowered ups e = ap is_none (lowered every_up ups e) ∙ go (stream_of ups e)
  where
    go : (o : Option Up) → is_none (unless every_up o) ≡ true
    go None = refl
    go (Some up) = refl

-- nothing is stopped where no stream is up
pub none-stopped : (ups : List (Option Up)) → UpsFit ups → ((ep : ℕ) → stream_of ups ep ≡ None) → stops every_up ups ≡ []
none-stopped ups fits down = all ups (λ i. go i (get_or ups i None) refl (fits.each i))
  where
    not-some : (up : Up) → None ≡ Some up → ⊥
    not-some up e = cc

    go : (i : ℕ) (o : Option Up) → get_or ups i None ≡ o → UpFits i o → o ≡ None
    go i None e h = refl
    go i (Some up) e h = absurd (not-some up (sym (down up.ep) ∙ by-address ups up.ep h.0 ∙ ap (λ (k : ℕ). get_or ups k None) h.1 ∙ e))

    all : (os : List (Option Up)) → ((i : ℕ) → get_or os i None ≡ None) → stops every_up os ≡ []
    all [] h = refl
    all (None ∷ os) h = all os (λ i. h (suc i))
    all (Some up ∷ os) h = absurd (not-some up (sym (h 0)))

module _ (st : State) (fits : UpsFit st.streams) (gate : IsStopping st) (ps : List (ℕ × RedirPacket)) (back : List Tagged) where
  abbrev zs : List (ℕ × RedirPacket)
  zs = leave_stops st

  pub each-stop : Each (StopsOne every_up) (leave_stops st)
  each-stop = each-stops every_up (leave_ids st) st.streams (ups-in st.streams fits)

  same-length : length (leave_ids st) ≡ length (stops every_up st.streams)
  same-length = length-draws (greatest (wide_ids st.sides.agreed)) (flying st) st.last (length (stops every_up st.streams))

  stands : Stand 0 st.streams st.stream_ids
  stands = record {
    fits = λ i. subst (λ (n : ℕ). UpFits n (get_or st.streams i None)) (plus i) (fits.each i);
    fresh = λ i h. subst (λ (n : ℕ). get_or st.stream_ids.stopped n None ≡ None) (plus i) (gate.unstopped i h);
    long = gate.long.stopped;
  }
    where
      plus : (n : ℕ) → n ≡ 0 + n
      plus n = omega arith

  kept-on : (n e : ℕ) → IdIsKept st.stream_ids n e → IdIsKept (stream_ids_after (leave_stops st) st.stream_ids) n e
  kept-on n e h = stops-kept every_up (leave_ids st) 0 st.streams st.stream_ids stands n e h

  -- an id that is drawn is in flight nowhere
  free-stream_id : (n : ℕ) → holds (flying st) n ≡ false → holds (ids_of_streams st.stream_ids) n ≡ false
  free-stream_id n h = any-back (ids_of (submits st) ++ ids_of st.abandoned) (ids_of_streams st.stream_ids) n h

  pub left-controls : Controls st.stream_ids ps back → Controls (stream_ids_after (leave_stops st) st.stream_ids) (ps ++ leave_stops st) back
  left-controls c = record {
    once = λ n. let o = c.once n in
        let a = ap (times n) (stream_ids-append ps zs) ∙ times-append n (stream_ids_on ps) (stream_ids_on zs) in
        let b = stops-times every_up n (leave_ids st) (stops every_up st.streams) in
        few n (times n (leave_ids st)) refl o a b;
    stream_ids_kept = Each-append (λ (p : ℕ × RedirPacket). StreamIdIsKept (stream_ids_after zs st.stream_ids) p.0 (stream_endpoint p.1)) ps zs (olds ps c.stream_ids_kept) (stops-new every_up (leave_ids st) 0 st.streams st.stream_ids stands);
    statuses_kept = statuses back c.statuses_kept;
  }
    where
      olds : (qs : List (ℕ × RedirPacket)) → Each (λ (p : ℕ × RedirPacket). StreamIdIsKept st.stream_ids p.0 (stream_endpoint p.1)) qs → Each (λ (p : ℕ × RedirPacket). StreamIdIsKept (stream_ids_after zs st.stream_ids) p.0 (stream_endpoint p.1)) qs
      olds [] h = tt
      olds (p ∷ qs) h = (go (stream_endpoint p.1) h.0, olds qs h.1)
        where
          go : (o : Option ℕ) → StreamIdIsKept st.stream_ids p.0 o → StreamIdIsKept (stream_ids_after zs st.stream_ids) p.0 o
          go None k = tt
          go (Some e) k = kept-on p.0 e k

      statuses : (bs : List Tagged) → Each (StatusIsKept st.stream_ids) bs → Each (StatusIsKept (stream_ids_after zs st.stream_ids)) bs
      statuses [] h = tt
      statuses (b ∷ bs) h = (go b h.0, statuses bs h.1)
        where
          go : (b : Tagged) → StatusIsKept st.stream_ids b → StatusIsKept (stream_ids_after zs st.stream_ids) b
          go (Stated y n e status) k = kept-on n e k
          go _ k = tt

      few : (n k : ℕ) → times n (leave_ids st) ≡ k → times n (stream_ids_on ps) + times n (statuses_on back) ≤ 1 → times n (stream_ids_on (ps ++ zs)) ≡ times n (stream_ids_on ps) + times n (stream_ids_on zs) → times n (stream_ids_on zs) ≤ times n (leave_ids st) →
          times n (stream_ids_on (ps ++ zs)) + times n (statuses_on back) ≤ 1
      few n zero e o a b = omega (arith, e, o, a, b)
      few n (suc k) e o a b =
          let drawn : times n (leave_ids st) ≤ 1 = times-distinct n (leave_ids st) gate.fresh.differ in
          let free : holds (ids_of_streams st.stream_ids) n ≡ false = free-stream_id n (times-some n (leave_ids st) (flying st) gate.fresh.free (omega (arith, e))) in
          let x1 = no-stream_id st.stream_ids n free ps c.stream_ids_kept in
          let y1 = no-statuses st.stream_ids n free back c.statuses_kept in
          omega (arith, drawn, x1, y1, a, b)

  -- the stops, of which the last is the fence
  pub last-stop : IsLast (λ id. holds (flying st) id ≡ false) None (leave_stops st) (last_or None (leave_ids st))
  last-stop = last-is (λ id. holds (flying st) id ≡ false) None (leave_ids st) (stops every_up st.streams) same-length gate.fresh.free

  runs-none : (e : ℕ) (r : Bool) → (stream_of st.streams e ≡ None → runs_all e ps r ≡ false) → runs_all e (ps ++ zs) r ≡ false
  runs-none e r quits = runs_all-append e ps zs r ∙ go (why-down every_up st.streams fits e (all-lowered st.streams e))
    where
      go : (stream_of st.streams e ≡ None) ⊎ WasUp every_up st.streams e → runs_all e zs (runs_all e ps r) ≡ false
      go (inl down) = ap (runs_all e zs) (quits down) ∙ stops-off every_up e zs each-stop
      go (inr u) = ap (λ (k : ℕ). runs_all k zs (runs_all e ps r)) (sym u.same) ∙ stops-quit every_up u.up u.passes-it (leave_ids st) st.streams (ups-in st.streams fits) same-length (endpoint_index e) u.at (runs_all e ps r)

  -- none was stopped, and none is up
  pub none-up : leave_stops st ≡ [] → (e : ℕ) → stream_of st.streams e ≡ None
  none-up none e = go (why-down every_up st.streams fits e (all-lowered st.streams e))
    where
      go : (stream_of st.streams e ≡ None) ⊎ WasUp every_up st.streams e → stream_of st.streams e ≡ None
      go (inl down) = down
      go (inr u) = absurd (true≢false (ap (λ (l : List (ℕ × RedirPacket)). runs_all u.up.ep l true) (sym none) ∙ stops-quit every_up u.up u.passes-it (leave_ids st) st.streams (ups-in st.streams fits) same-length (endpoint_index e) u.at true))

  module _ (front : List (ℕ × RedirPacket)) (z : ℕ × RedirPacket) (is : leave_stops st ≡ front ++ z ∷ []) where
    asks-z : asks (Some z.0) z ≡ true
    asks-z = (each_behind AsksAsFence front (z ∷ []) (subst (Each AsksAsFence) is (stops-ask (leave_ids st) st.streams))).0 (Some z.0) ∙ itself z.0

    split : ps ++ leave_stops st ≡ (ps ++ front) ++ z ∷ []
    split = ap (λ (l : List (ℕ × RedirPacket)). ps ++ l) is ∙ sym (append_assoc ps front (z ∷ []))

    pub left-quits : (e : ℕ) (r : Bool) → (stream_of st.streams e ≡ None → Quits None e r ps) → Quits (Some z.0) e r (ps ++ leave_stops st)
    left-quits e r quits = subst (Quits (Some z.0) e r) (sym split) (quits-ends (Some z.0) e r (ps ++ front) z asks-z
        (ap (λ (l : List (ℕ × RedirPacket)). runs_all e l r) (sym split) ∙ runs-none e r (λ down. quits-end None e r ps (quits down))))

    pub left-trails : (down : ℕ → Bool) → Trails (Some z.0) down (ps ++ leave_stops st)
    left-trails down = subst (Trails (Some z.0) down) (sym split) (trails-ends (Some z.0) down (ps ++ front) z asks-z)

    pub left-fenced : holds (flying st) z.0 ≡ false → Controls st.stream_ids ps back → Fenced (Some z.0) true (ps ++ leave_stops st) back
    left-fenced free c = ((λ h. refl), (λ h. no-statuses st.stream_ids z.0 (free-stream_id z.0 free) back c.statuses_kept))
