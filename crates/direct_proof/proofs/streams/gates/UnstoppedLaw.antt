-- The law over each item that a gateway takes.
use Rattle.std.proofs.Common.{◌≡◌, ◌≢◌, ℕ, zero, suc, ◌==◌, nat_lt, ◌%◌, Bool, true, false, cond, List, [], ◌∷◌, ◌++◌, length, Option, Some, None, is_some, refl, sym, ap, ◌∙◌, subst, arith, append-nil}
use Rattle.std.specs.Prelude.{get_or, slice_set, zip, replicate}
use Rattle.std.specs.Option.{option_map}
use Rattle.std.proofs.lemmas.List.{get_or-set_other}
use Rattle.usb_base.specs.Endpoint.{endpoint_index}
use Rattle.usb_base.specs.declared.endpoint.EpRow.{EpRow}
use Rattle.usb_base.specs.declared.side.Side.{Side}
use Rattle.usb_base.specs.declared.side.Side.TheVariants.{Client, Host}
use Rattle.usb_base.specs.declared.transfer.StreamPacket.{StreamPacket}
use Rattle.usb_base.specs.Status.{is_success}
use Rattle.redir_data.specs.declared.packet.RedirPacket.{RedirPacket}
use Rattle.gate_history.specs.declared.request.Request.{Request}
use Rattle.gate_history.specs.declared.verdict.Verdict.{Verdict}
use Rattle.gate_history.specs.declared.verdict.Verdict.TheVariants.{Now, Wire, Routed, IsoOut, Stream}
use Rattle.gate_history.specs.step.Marks.{Fact, Effect, Idle, Replies, Imports, Opens, Waits, Arrives, Unlinks, Agrees, Answers, StreamTold, Disconnects, Ends, Refuses}
use Rattle.gate_history.specs.state.Ids.{draws, draw, last_of, greatest}
use Rattle.gate_history.specs.state.Flight.{wide_ids}
use Rattle.gate_history.specs.state.StreamIds.{StreamIds, stream_ids_after, started}
use Rattle.gate_history.specs.write.Packets.{stops, route_packets, starts, iso_packets, packets_of}
use Rattle.gate_history.specs.state.Ups.{Up, stream_at, raise, lower, hold, is_ended, no_streams, opened_streams}
use Rattle.gate_history.specs.state.State.{State, flying}
use Rattle.gate_history.specs.step.Meaning.{mark_as}
use Rattle.gate_history.specs.step.Machine.{with_mark}
use Rattle.gate_history.proofs.lemmas.state.StreamIds.{zip-append, stream_ids_after-append, stream_ids_after-silent, wire-silent, route-silent, iso-silent, start-stream_ids}
use Rattle.direct_proof.proofs.streams.gates.Unstopped.{Unstopped, unstopped-raised, unstopped-fewer, unstopped-lower}

none-up : (n i : ℕ) (up : Up) → get_or (replicate n None) i None ≡ Some up → ⊥
none-up zero i up h = cc
none-up (suc n) zero up h = cc
none-up (suc n) (suc i) up h = none-up n i up h

pub unstopped-none : (c : StreamIds) → Unstopped no_streams c
unstopped-none c = record { places = λ i up e. absurd (none-up 32 i up e); fresh = λ i e. go i (get_or no_streams i None) refl e }
  where
    go : (i : ℕ) (o : Option Up) → get_or no_streams i None ≡ o → is_some o ≡ true → get_or c.stopped i None ≡ None
    go i None k e = absurd (cc)
    go i (Some up) k e = absurd (none-up 32 i up k)

-- what is held doesn't matter
unstopped-hold : (ep : ℕ) (packets : List StreamPacket) (ups : List (Option Up)) (c : StreamIds) → Unstopped ups c → Unstopped (hold ep packets ups) c
unstopped-hold ep packets ups c h = unstopped-fewer (hold ep packets ups) ups c (λ i u e. go i u (i == endpoint_index ep) refl e) h
  where
    there : (xs : List (Option Up)) (i : ℕ) (o : Option Up) (u : Up) → get_or (slice_set xs i o) i None ≡ Some u → o ≡ Some u
    there [] i o u z = absurd (cc)
    there (y ∷ ys) zero o u z = z
    there (y ∷ ys) (suc i) o u z = there ys i o u z

    held : (o : Option Up) (u : Up) → option_map (λ (x : Up). record x { held = packets }) o ≡ Some u → (y : Up) × (o ≡ Some y) × (y.ep ≡ u.ep)
    held None u z = absurd (cc)
    held (Some x) u z = (x, refl, ap (λ (v : Up). v.ep) (inner (record x { held = packets }) u z))
      where
        inner : (a b : Up) → Some a ≡ Some b → a ≡ b
        inner a b q = cc

    go : (i : ℕ) (u : Up) (b : Bool) → (i == endpoint_index ep) ≡ b → get_or (hold ep packets ups) i None ≡ Some u → (y : Up) × (get_or ups i None ≡ Some y) × (y.ep ≡ u.ep)
    go i u true k e =
        let same : endpoint_index ep ≡ i = grind (arith, k) in
        let f = held (stream_at ups ep) u (there ups (endpoint_index ep) (option_map (λ (x : Up). record x { held = packets }) (stream_at ups ep)) u (ap (λ (n : ℕ). get_or (hold ep packets ups) n None) same ∙ e)) in
        (f.0, ap (λ (n : ℕ). get_or ups n None) (sym same) ∙ f.1, f.2)
    go i u false k e = (u, sym (get_or-set_other ups (endpoint_index ep) i (option_map (λ (x : Up). record x { held = packets }) (stream_at ups ep)) None (apart i (endpoint_index ep) k)) ∙ e, refl)
      where
        apart : (x y : ℕ) → (x == y) ≡ false → x ≢ y
        apart x y f g = grind (arith, f, g)

unstopped-down : (ep : ℕ) (ups : List (Option Up)) (c : StreamIds) → Unstopped ups c → Unstopped (slice_set ups (endpoint_index ep) None) c
unstopped-down ep ups c h = unstopped-fewer (slice_set ups (endpoint_index ep) None) ups c (λ i u e. go i u (i == endpoint_index ep) refl e) h
  where
    gone : (xs : List (Option Up)) (i : ℕ) (u : Up) → get_or (slice_set xs i None) i None ≡ Some u → ⊥
    gone [] i u z = cc
    gone (y ∷ ys) zero u z = cc
    gone (y ∷ ys) (suc i) u z = gone ys i u z

    go : (i : ℕ) (u : Up) (b : Bool) → (i == endpoint_index ep) ≡ b → get_or (slice_set ups (endpoint_index ep) None) i None ≡ Some u → (y : Up) × (get_or ups i None ≡ Some y) × (y.ep ≡ u.ep)
    go i u true k e = let same : endpoint_index ep ≡ i = grind (arith, k) in absurd (gone ups (endpoint_index ep) u (ap (λ (n : ℕ). get_or (slice_set ups (endpoint_index ep) None) n None) same ∙ e))
    go i u false k e = (u, sym (get_or-set_other ups (endpoint_index ep) i None None (apart i (endpoint_index ep) k)) ∙ e, refl)
      where
        apart : (x y : ℕ) → (x == y) ≡ false → x ≢ y
        apart x y f g = grind (arith, f, g)

-- ---- a submit

module _ (most : ℕ) (fly : List ℕ) (last : ℕ) (ups : List (Option Up)) (c : StreamIds) (h : Unstopped ups c) where
  abbrev numbered : List RedirPacket → List (ℕ × RedirPacket)
  numbered ps = zip (draws most fly last (length ps)) ps

  -- a start, and others that neither start nor stop
  starting : (ep : ℕ) (row : EpRow) (others : List RedirPacket) → ((ids : List ℕ) (d : StreamIds) → stream_ids_after (zip ids others) d ≡ d) → Unstopped (raise (record { ep = ep; row = row; held = [] }) ups) (stream_ids_after (numbered (starts (stream_at ups ep) ep row ++ others)) c)
  starting ep row others silent = go (stream_at ups ep)
    where
      go : (o : Option Up) → Unstopped (cond (is_some o) ups (slice_set ups (endpoint_index ep) (Some (record { ep = ep; row = row; held = [] })))) (stream_ids_after (numbered (starts o ep row ++ others)) c)
      go (Some up) = subst (Unstopped ups) (sym (silent (draws most fly last (length others)) c)) h
      go None = subst (Unstopped (slice_set ups (endpoint_index ep) (Some (record { ep = ep; row = row; held = [] }))))
          (sym (ap (stream_ids_after (zip (draws most fly (draw most fly last) (length others)) others)) (start-stream_ids (draw most fly last) ep row c) ∙ silent (draws most fly (draw most fly last) (length others)) (started ep (draw most fly last) c)))
          (unstopped-raised ups c (record { ep = ep; row = row; held = [] }) (draw most fly last) h)

  unstopped-opened : (v : Verdict) (r : Request) → Unstopped (opened_streams v r.transfer.ep ups) (stream_ids_after (numbered (packets_of ups v r)) c)
  unstopped-opened (Now status) r = h
  unstopped-opened (Wire pipe) r = subst (Unstopped ups) (sym (wire-silent pipe r.transfer (draw most fly last) c)) h
  unstopped-opened (Routed x) r = subst (Unstopped (lower (is_ended (Some x)) ups))
      (sym (ap (λ (l : List (ℕ × RedirPacket)). stream_ids_after l c) (zip-append most fly last (stops (is_ended (Some x)) ups) (route_packets x))
      ∙ stream_ids_after-append (zip (draws most fly last (length (stops (is_ended (Some x)) ups))) (stops (is_ended (Some x)) ups)) _ c
      ∙ stream_ids_after-silent (draws most fly (last_of last (draws most fly last (length (stops (is_ended (Some x)) ups)))) (length (route_packets x))) (route_packets x) _ (route-silent x)))
      (unstopped-lower (is_ended (Some x)) (draws most fly last (length (stops (is_ended (Some x)) ups))) ups c h)
  unstopped-opened (IsoOut row) r = starting r.transfer.ep row (iso_packets r) (λ ids d. stream_ids_after-silent ids (iso_packets r) d (iso-silent r))
  unstopped-opened (Stream row) r = subst (λ (l : List RedirPacket). Unstopped (raise (record { ep = r.transfer.ep; row = row; held = [] }) ups) (stream_ids_after (numbered l) c)) (append-nil (starts (stream_at ups r.transfer.ep) r.transfer.ep row)) (starting r.transfer.ep row [] (λ ids d. none ids d))
    where
      none : (ids : List ℕ) (d : StreamIds) → stream_ids_after (zip ids []) d ≡ d
      none [] d = refl
      none (i ∷ ids) d = refl

-- ---- any effect

pub unstopped-after : (st : State) (e : Effect) (told : Option Fact) → Unstopped st.streams st.stream_ids → Unstopped (with_mark st (mark_as st e told)).streams (with_mark st (mark_as st e told)).stream_ids
unstopped-after st Idle told h = h
unstopped-after st (Replies reply) told h = h
unstopped-after st (Imports reply) told h = h
unstopped-after st (Unlinks by target) told h = h
unstopped-after st (Agrees caps) told h = h
unstopped-after st (Answers id o) told h = h
unstopped-after st (Opens s) told h = unstopped-opened (greatest (wide_ids st.sides.agreed)) (flying st) st.last st.streams st.stream_ids h s.verdict s.request
unstopped-after st (Waits s fill) told h = unstopped-hold s.request.transfer.ep fill.left (opened_streams s.verdict s.request.transfer.ep st.streams) _ (unstopped-opened (greatest (wide_ids st.sides.agreed)) (flying st) st.last st.streams st.stream_ids h s.verdict s.request)
unstopped-after st (Arrives ep fill) told h = unstopped-hold ep fill.left st.streams st.stream_ids h
unstopped-after st (StreamTold id ep status) told h = by (is_success status) (nat_lt (ep % 128) 16)
  where
    by : (a b : Bool) → Unstopped (cond a st.streams (cond b (slice_set st.streams (endpoint_index ep) None) st.streams)) st.stream_ids
    by true b = h
    by false true = unstopped-down ep st.streams st.stream_ids h
    by false false = h
unstopped-after st (Disconnects id) told h = unstopped-none _
unstopped-after st (Ends Client) told h = unstopped-none _
unstopped-after st (Ends Host) told h = unstopped-none _
unstopped-after st (Refuses r) told h = go r.side
  where
    go : (s : Side) → Unstopped (with_mark st (mark_as st (Refuses (record r { side = s })) told)).streams (with_mark st (mark_as st (Refuses (record r { side = s })) told)).stream_ids
    go Client = unstopped-none _
    go Host = unstopped-none _
