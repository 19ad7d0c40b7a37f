-- A law of every gateway: a stream that is up stands at its endpoint's place, and keeps no stop.
use Rattle.std.proofs.Common.{◌≡◌, ◌≢◌, ℕ, zero, suc, ◌+◌, ◌==◌, Bool, true, false, cond, List, [], ◌∷◌, ◌++◌, Option, Some, None, is_some, refl, sym, ap, ◌∙◌, arith, true≢false}
use Rattle.std.specs.Prelude.{get_or, slice_set, zip}
use Rattle.std.proofs.Math.ListN.{get_or-map}
use Rattle.std.proofs.lemmas.List.{get_or-set_other}
use Rattle.std.proofs.lemmas.Bool.{both_ways}
use Rattle.usb_base.specs.Endpoint.{endpoint_index}
use Rattle.gate_history.specs.state.StreamIds.{StreamIds, stream_ids_after, started, stopped}
use Rattle.gate_history.specs.write.Packets.{stops, stop_packet}
use Rattle.gate_history.specs.state.Ups.{Up, lower, unless}
use Rattle.gate_history.proofs.lemmas.state.StreamIds.{stop-stream_ids}

-- a place has the stream of its endpoint, and where one is up no stop is kept
pub record Unstopped (ups : List (Option Up)) (c : StreamIds) : Type 0 where
  pub places : (i : ℕ) (up : Up) → get_or ups i None ≡ Some up → endpoint_index up.ep ≡ i
  pub fresh : (i : ℕ) → is_some (get_or ups i None) ≡ true → get_or c.stopped i None ≡ None

apart : (x y : ℕ) → (x == y) ≡ false → x ≢ y
apart x y f g = grind (arith, f, g)

equal : (x y : ℕ) → (x == y) ≡ true → x ≡ y
equal x y f = grind (arith, f)

not-some : {A : Type 0} (a : A) → None ≡ Some a → ⊥
not-some a h = cc

-- ---- one place is set

beyond : {X : Type 0} (xs : List (Option X)) (i : ℕ) (o : Option X) → (x : X) → get_or (slice_set xs i o) i None ≡ Some x → o ≡ Some x
beyond [] i o x h = absurd (not-some x h)
beyond (y ∷ ys) zero o x h = h
beyond (y ∷ ys) (suc i) o x h = beyond ys i o x h

stopped-none : (xs : List (Option ℕ)) (i : ℕ) → get_or (slice_set xs i None) i None ≡ None
stopped-none [] i = refl
stopped-none (y ∷ ys) zero = refl
stopped-none (y ∷ ys) (suc i) = stopped-none ys i

-- a stream goes up, with its start
pub unstopped-raised : (ups : List (Option Up)) (c : StreamIds) (up : Up) (id : ℕ) → Unstopped ups c → Unstopped (slice_set ups (endpoint_index up.ep) (Some up)) (started up.ep id c)
unstopped-raised ups c up id h = record { places = λ i u e. place i u (i == endpoint_index up.ep) refl e; fresh = λ i e. none i (i == endpoint_index up.ep) refl e }
  where
    place : (i : ℕ) (u : Up) (b : Bool) → (i == endpoint_index up.ep) ≡ b → get_or (slice_set ups (endpoint_index up.ep) (Some up)) i None ≡ Some u → endpoint_index u.ep ≡ i
    place i u true k e =
        let same : i ≡ endpoint_index up.ep = equal i (endpoint_index up.ep) k in
        let is : Some up ≡ Some u = beyond ups (endpoint_index up.ep) (Some up) u (ap (λ (n : ℕ). get_or (slice_set ups (endpoint_index up.ep) (Some up)) n None) (sym same) ∙ e) in
        ap (λ (y : Up). endpoint_index y.ep) (sym (inner is)) ∙ sym same
      where
        inner : Some up ≡ Some u → up ≡ u
        inner z = cc
    place i u false k e = h.places i u (sym (get_or-set_other ups (endpoint_index up.ep) i (Some up) None (apart i (endpoint_index up.ep) k)) ∙ e)

    none : (i : ℕ) (b : Bool) → (i == endpoint_index up.ep) ≡ b → is_some (get_or (slice_set ups (endpoint_index up.ep) (Some up)) i None) ≡ true → get_or (slice_set c.stopped (endpoint_index up.ep) None) i None ≡ None
    none i true k e = let same : i ≡ endpoint_index up.ep = equal i (endpoint_index up.ep) k in ap (λ (n : ℕ). get_or (slice_set c.stopped (endpoint_index up.ep) None) n None) same ∙ stopped-none c.stopped (endpoint_index up.ep)
    none i false k e =
        get_or-set_other c.stopped (endpoint_index up.ep) i None None (apart i (endpoint_index up.ep) k)
        ∙ h.fresh i (ap (λ (o : Option Up). is_some o) (sym (get_or-set_other ups (endpoint_index up.ep) i (Some up) None (apart i (endpoint_index up.ep) k))) ∙ e)

-- those of a list that are up are among those of another
pub unstopped-fewer : (ups more : List (Option Up)) (c : StreamIds) → ((i : ℕ) (u : Up) → get_or ups i None ≡ Some u → (y : Up) × (get_or more i None ≡ Some y) × (y.ep ≡ u.ep)) → Unstopped more c → Unstopped ups c
unstopped-fewer ups more c from h = record {
  places = λ i u e. let y = from i u e in ap endpoint_index (sym y.2) ∙ h.places i y.0 y.1;
  fresh = λ i e. go i (get_or ups i None) refl e;
}
  where
    go : (i : ℕ) (o : Option Up) → get_or ups i None ≡ o → is_some o ≡ true → get_or c.stopped i None ≡ None
    go i None k e = absurd (true≢false (sym e))
    go i (Some u) k e = let y = from i u k in h.fresh i (ap is_some y.1)

-- ---- streams are stopped and go down

-- of a place and those behind it, the stop of another place leaves it
stopped-elsewhere : (test : Up → Bool) (ids : List ℕ) (k : ℕ) (ups : List (Option Up)) (c : StreamIds) → ((i : ℕ) (up : Up) → get_or ups i None ≡ Some up → endpoint_index up.ep ≡ k + i) → (n : ℕ) → ((i : ℕ) (up : Up) → get_or ups i None ≡ Some up → test up ≡ true → n ≢ k + i) →
    get_or (stream_ids_after (zip ids (stops test ups)) c).stopped n None ≡ get_or c.stopped n None
stopped-elsewhere test [] k ups c places n away = refl
stopped-elsewhere test (id ∷ ids) k [] c places n away = refl
stopped-elsewhere test (id ∷ ids) k (None ∷ ups) c places n away = stopped-elsewhere test (id ∷ ids) (suc k) ups c (λ i up e. places (suc i) up e ∙ shift k i) n (λ i up e t z. away (suc i) up e t (z ∙ sym (shift k i)))
  where
    shift : (a b : ℕ) → a + suc b ≡ suc a + b
    shift a b = omega arith
stopped-elsewhere test (id ∷ ids) k (Some up ∷ ups) c places n away = go (test up) refl (stopped-elsewhere test ids (suc k) ups (stopped up.ep id c) places' n away') (stopped-elsewhere test (id ∷ ids) (suc k) ups c places' n away')
  where
    shift : (a b : ℕ) → a + suc b ≡ suc a + b
    shift a b = omega arith

    places' : (i : ℕ) (u : Up) → get_or ups i None ≡ Some u → endpoint_index u.ep ≡ suc k + i
    places' i u e = places (suc i) u e ∙ shift k i

    away' : (i : ℕ) (u : Up) → get_or ups i None ≡ Some u → test u ≡ true → n ≢ suc k + i
    away' i u e t z = away (suc i) u e t (z ∙ sym (shift k i))

    go : (b : Bool) → test up ≡ b → get_or (stream_ids_after (zip ids (stops test ups)) (stopped up.ep id c)).stopped n None ≡ get_or (slice_set c.stopped (endpoint_index up.ep) (Some id)) n None → get_or (stream_ids_after (zip (id ∷ ids) (stops test ups)) c).stopped n None ≡ get_or c.stopped n None →
        get_or (stream_ids_after (zip (id ∷ ids) (cond b (stop_packet up ∷ []) [] ++ stops test ups)) c).stopped n None ≡ get_or c.stopped n None
    go true t more skip =
        ap (λ (d : StreamIds). get_or (stream_ids_after (zip ids (stops test ups)) d).stopped n None) (stop-stream_ids id up c) ∙ more
        ∙ get_or-set_other c.stopped (endpoint_index up.ep) n (Some id) None (λ z. away 0 up refl t (z ∙ places 0 up refl))
    go false t more skip = skip

pub unstopped-lower : (test : Up → Bool) (ids : List ℕ) (ups : List (Option Up)) (c : StreamIds) → Unstopped ups c → Unstopped (lower test ups) (stream_ids_after (zip ids (stops test ups)) c)
unstopped-lower test ids ups c h = record { places = λ i u e. h.places i u (was i u e).0; fresh = λ i e. go i (get_or (lower test ups) i None) refl e }
  where
    was : (i : ℕ) (u : Up) → get_or (lower test ups) i None ≡ Some u → (get_or ups i None ≡ Some u) × (test u ≡ false)
    was i u e = at (get_or ups i None) refl (sym (get_or-map (unless test) ups i None) ∙ e)
      where
        at : (o : Option Up) → get_or ups i None ≡ o → unless test o ≡ Some u → (get_or ups i None ≡ Some u) × (test u ≡ false)
        at None k z = absurd (not-some u z)
        at (Some y) k z = by (test y) refl z
          where
            by : (b : Bool) → test y ≡ b → cond b None (Some y) ≡ Some u → (get_or ups i None ≡ Some u) × (test u ≡ false)
            by true t q = absurd (not-some u q)
            by false t q = let same : y ≡ u = cc in (k ∙ ap Some same, ap test (sym same) ∙ t)

    plain : (n : ℕ) → n ≡ 0 + n
    plain n = omega arith

    go : (i : ℕ) (o : Option Up) → get_or (lower test ups) i None ≡ o → is_some o ≡ true → get_or (stream_ids_after (zip ids (stops test ups)) c).stopped i None ≡ None
    go i None k e = absurd (true≢false (sym e))
    go i (Some u) k e =
        let w = was i u k in
        stopped-elsewhere test ids 0 ups c (λ n up z. h.places n up z ∙ plain n) i
        (λ n up z t q. (let same : n ≡ i = omega (arith, q) in both_ways (test u) w.1 (ap test (one up u (sym z ∙ ap (λ (y : ℕ). get_or ups y None) same ∙ w.0)) ∙ t)))
        ∙ h.fresh i (ap is_some w.0)
      where
        one : (a b : Up) → Some a ≡ Some b → b ≡ a
        one a b z = cc
