-- The ids of stops: each is new, its endpoint keeps it, and what was kept is kept on.
use Rattle.std.proofs.Common.{◌≡◌, ◌≢◌, ℕ, suc, ◌+◌, ◌≤◌, ◌<◌, ◌==◌, ◌||◌, Bool, true, false, cond, List, [], ◌∷◌, ◌++◌, length, Option, Some, None, is_some, refl, sym, ap, ◌∙◌, subst, arith}
use Rattle.std.specs.Prelude.{get_or, slice_set, zip}
use Rattle.std.specs.List.{AllByRecursion as Each}
use Rattle.std.proofs.lemmas.List.{get_or-set_same, get_or-set_other, length-set}
use Rattle.std.proofs.lemmas.Bool.{both_ways, or_left, or_right}
use Rattle.usb_base.specs.Endpoint.{endpoint_index}
use Rattle.redir_data.specs.declared.packet.RedirPacket.{RedirPacket}
use Rattle.gate_history.specs.state.StreamIds.{StreamIds, stream_ids_after, stopped}
use Rattle.gate_history.specs.state.Ids.{times}
use Rattle.gate_history.specs.write.Packets.{stop_packet, stops}
use Rattle.gate_history.specs.state.Ups.{Up}
use Rattle.gate_history.proofs.lemmas.state.StreamIds.{times-append, stop-stream_ids}
use Rattle.direct_proof.specs.Kinds.{IsIn, UpFits}
use Rattle.direct_proof.specs.StreamIds.{IdIsKept, StreamIdIsKept, stream_id, stream_ids_on}
use Rattle.direct_proof.specs.Running.{passes, stream_endpoint}
use Rattle.direct_proof.proofs.streams.fills.FillLists.{weight}
use Rattle.direct_proof.proofs.shared.UpsFound.{in-place}
use Rattle.direct_proof.proofs.streams.changes.Stops.{stopping, stop-is}

-- no more than the ids that were drawn
pub stops-times : (test : Up → Bool) (n : ℕ) (ids : List ℕ) (ps : List RedirPacket) → times n (stream_ids_on (zip ids ps)) ≤ times n ids
stops-times test n [] ps = omega arith
stops-times test n (id ∷ ids) [] = omega arith
stops-times test n (id ∷ ids) (p ∷ ps) = let rest = stops-times test n ids ps in let a = times-append n (stream_id (id, p)) (stream_ids_on (zip ids ps)) in let b = go (is_some (stream_endpoint p)) in omega (arith, rest, a, b)
  where
    go : (b : Bool) → times n (cond b (id ∷ []) []) ≤ weight (n == id)
    go true = omega arith
    go false = omega arith

-- the streams from a place on, of which those that are up keep no stop
pub record Stand (k : ℕ) (ups : List (Option Up)) (c : StreamIds) : Type 0 where
  pub fits : (i : ℕ) → UpFits (k + i) (get_or ups i None)
  pub fresh : (i : ℕ) → is_some (get_or ups i None) ≡ true → get_or c.stopped (k + i) None ≡ None
  pub long : length c.stopped ≡ 32

-- a stop takes no id from another endpoint, nor a start from its own
kept-stop : (up : Up) (id : ℕ) (c : StreamIds) (n e : ℕ) → get_or c.stopped (endpoint_index up.ep) None ≡ None → IdIsKept c n e → IdIsKept (stopped up.ep id c) n e
kept-stop up id c n e free kept = go (endpoint_index e == endpoint_index up.ep) refl
  where
    go : (b : Bool) → (endpoint_index e == endpoint_index up.ep) ≡ b → IdIsKept (stopped up.ep id c) n e
    go false i = (λ t. passes (λ x. x == n) (get_or c.started (endpoint_index e) None) || passes (λ x. x == n) (get_or-set_other c.stopped (endpoint_index up.ep) (endpoint_index e) (Some id) None (apart (endpoint_index e) (endpoint_index up.ep) i) t)) ∙ kept
      where
        apart : (x y : ℕ) → (x == y) ≡ false → x ≢ y
        apart x y f g = grind (arith, f, g)
    go true i =
        let same : endpoint_index e ≡ endpoint_index up.ep = equal (endpoint_index e) (endpoint_index up.ep) i in
        or_left (passes (λ x. x == n) (get_or c.started (endpoint_index e) None)) (passes (λ x. x == n) (get_or (slice_set c.stopped (endpoint_index up.ep) (Some id)) (endpoint_index e) None))
        (left (passes (λ x. x == n) (get_or c.started (endpoint_index e) None)) (passes (λ x. x == n) (get_or c.stopped (endpoint_index e) None)) kept (ap (passes (λ x. x == n)) (ap (λ (k : ℕ). get_or c.stopped k None) same ∙ free)))
      where
        equal : (x y : ℕ) → (x == y) ≡ true → x ≡ y
        equal x y f = grind (arith, f)

        left : (a b : Bool) → (a || b) ≡ true → b ≡ false → a ≡ true
        left true b x y = refl
        left false b x y = absurd (both_ways b y x)

new-stop : (up : Up) (id : ℕ) (c : StreamIds) → IsIn up.ep → length c.stopped ≡ 32 → IdIsKept (stopped up.ep id c) id up.ep
new-stop up id c h n = or_right (passes (λ x. x == id) (get_or c.started (endpoint_index up.ep) None)) (passes (λ x. x == id) (get_or (slice_set c.stopped (endpoint_index up.ep) (Some id)) (endpoint_index up.ep) None))
    (ap (passes (λ x. x == id)) (get_or-set_same c.stopped (endpoint_index up.ep) (Some id) None (subst (λ (k : ℕ). endpoint_index up.ep < k) (sym n) (in-place up.ep h))) ∙ itself id)
  where
    itself : (k : ℕ) → (k == k) ≡ true
    itself k = grind arith

stand-next : (k : ℕ) (o : Option Up) (ups : List (Option Up)) (c : StreamIds) → Stand k (o ∷ ups) c → Stand (suc k) ups c
stand-next k o ups c s = record {
  fits = λ i. subst (λ (n : ℕ). UpFits n (get_or ups i None)) (shift k i) (s.fits (suc i));
  fresh = λ i h. subst (λ (n : ℕ). get_or c.stopped n None ≡ None) (shift k i) (s.fresh (suc i) h);
  long = s.long;
}
  where
    shift : (a b : ℕ) → a + suc b ≡ suc a + b
    shift a b = omega arith

stand-stop : (k : ℕ) (up : Up) (ups : List (Option Up)) (id : ℕ) (c : StreamIds) → Stand k (Some up ∷ ups) c → Stand (suc k) ups (stopped up.ep id c)
stand-stop k up ups id c s = record {
  fits = (stand-next k (Some up) ups c s).fits;
  fresh = λ i h. get_or-set_other c.stopped (endpoint_index up.ep) (suc k + i) (Some id) None (later i) ∙ (stand-next k (Some up) ups c s).fresh i h;
  long = length-set c.stopped (endpoint_index up.ep) (Some id) ∙ s.long;
}
  where
    later : (i : ℕ) → suc k + i ≢ endpoint_index up.ep
    later i e = let z : endpoint_index up.ep ≡ k + 0 = (s.fits 0).1 in absurd (omega (arith, e, z))

-- all stops
pub stops-kept : (test : Up → Bool) (ids : List ℕ) (k : ℕ) (ups : List (Option Up)) (c : StreamIds) → Stand k ups c → (n e : ℕ) → IdIsKept c n e → IdIsKept (stream_ids_after (stopping test ids ups) c) n e
stops-kept test [] k ups c s n e kept = kept
stops-kept test (id ∷ ids) k [] c s n e kept = kept
stops-kept test (id ∷ ids) k (None ∷ ups) c s n e kept = stops-kept test (id ∷ ids) (suc k) ups c (stand-next k None ups c s) n e kept
stops-kept test (id ∷ ids) k (Some up ∷ ups) c s n e kept = go (test up) (stops-kept test ids (suc k) ups (stopped up.ep id c) (stand-stop k up ups id c s) n e) (stops-kept test (id ∷ ids) (suc k) ups c (stand-next k (Some up) ups c s) n e)
  where
    free : get_or c.stopped (endpoint_index up.ep) None ≡ None
    free = subst (λ (i : ℕ). get_or c.stopped i None ≡ None) (sym (s.fits 0).1) (s.fresh 0 refl)

    go : (b : Bool) → (IdIsKept (stopped up.ep id c) n e → IdIsKept (stream_ids_after (zip ids (stops test ups)) (stopped up.ep id c)) n e) → (IdIsKept c n e → IdIsKept (stream_ids_after (zip (id ∷ ids) (stops test ups)) c) n e) →
        IdIsKept (stream_ids_after (zip (id ∷ ids) (cond b (stop_packet up ∷ []) [] ++ stops test ups)) c) n e
    go true more skip = subst (λ (d : StreamIds). IdIsKept (stream_ids_after (zip ids (stops test ups)) d) n e) (sym (stop-stream_ids id up c)) (more (kept-stop up id c n e free kept))
    go false more skip = skip kept

pub stops-new : (test : Up → Bool) (ids : List ℕ) (k : ℕ) (ups : List (Option Up)) (c : StreamIds) → Stand k ups c → Each (λ (p : ℕ × RedirPacket). StreamIdIsKept (stream_ids_after (stopping test ids ups) c) p.0 (stream_endpoint p.1)) (stopping test ids ups)
stops-new test [] k ups c s = tt
stops-new test (id ∷ ids) k [] c s = tt
stops-new test (id ∷ ids) k (None ∷ ups) c s = stops-new test (id ∷ ids) (suc k) ups c (stand-next k None ups c s)
stops-new test (id ∷ ids) k (Some up ∷ ups) c s = go (test up) (stops-new test ids (suc k) ups (stopped up.ep id c) (stand-stop k up ups id c s)) (stops-kept test ids (suc k) ups (stopped up.ep id c) (stand-stop k up ups id c s) id up.ep) (stops-new test (id ∷ ids) (suc k) ups c (stand-next k (Some up) ups c s))
  where
    is-in : IsIn up.ep
    is-in = (s.fits 0).0

    go : (b : Bool) → Each (λ (p : ℕ × RedirPacket). StreamIdIsKept (stream_ids_after (zip ids (stops test ups)) (stopped up.ep id c)) p.0 (stream_endpoint p.1)) (zip ids (stops test ups)) →
        (IdIsKept (stopped up.ep id c) id up.ep → IdIsKept (stream_ids_after (zip ids (stops test ups)) (stopped up.ep id c)) id up.ep) →
        Each (λ (p : ℕ × RedirPacket). StreamIdIsKept (stream_ids_after (zip (id ∷ ids) (stops test ups)) c) p.0 (stream_endpoint p.1)) (zip (id ∷ ids) (stops test ups)) →
        Each (λ (p : ℕ × RedirPacket). StreamIdIsKept (stream_ids_after (zip (id ∷ ids) (cond b (stop_packet up ∷ []) [] ++ stops test ups)) c) p.0 (stream_endpoint p.1)) (zip (id ∷ ids) (cond b (stop_packet up ∷ []) [] ++ stops test ups))
    go true more own skip = subst (λ (d : StreamIds). Each (λ (p : ℕ × RedirPacket). StreamIdIsKept (stream_ids_after (zip ids (stops test ups)) d) p.0 (stream_endpoint p.1)) ((id, stop_packet up) ∷ zip ids (stops test ups))) (sym (stop-stream_ids id up c))
        (subst (StreamIdIsKept (stream_ids_after (zip ids (stops test ups)) (stopped up.ep id c)) id) (sym (stop-is up).stream) (own (new-stop up id c is-in s.long)), more)
    go false more own skip = skip
