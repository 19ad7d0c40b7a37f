-- A change that the gateway accepts: its ids, and those of the stops ahead of it.
use Rattle.std.proofs.Common.{◌≡◌, ℕ, zero, suc, ◌+◌, ◌≤◌, ◌==◌, true, false, List, [], ◌∷◌, ◌++◌, length, Option, Some, None, refl, sym, ap, ◌∙◌, subst, arith, append-nil}
use Rattle.std.specs.Prelude.{get_or}
use Rattle.std.specs.List.{AllByRecursion as Each}
use Rattle.redir_data.specs.declared.packet.RedirPacket.{RedirPacket}
use Rattle.control_route.specs.declared.route.Route.{Route}
use Rattle.control_route.specs.Changes.{is_change}
use Rattle.model_device.specs.Meaning.{Meaning}
use Rattle.gate_history.proofs.lemmas.Lists.{Each-append}
use Rattle.gate_history.specs.declared.request.Request.{Request}
use Rattle.gate_history.specs.state.StreamIds.{StreamIds, ids_of_streams, stream_ids_after}
use Rattle.gate_history.specs.state.Flight.{ids_of}
use Rattle.gate_history.specs.state.Ids.{Fits, times, holds, last_of}
use Rattle.gate_history.specs.write.Packets.{stops, route_packets}
use Rattle.gate_history.specs.state.State.{submits, flying}
use Rattle.gate_history.specs.state.Ups.{is_ended}
use Rattle.gate_history.proofs.lemmas.state.StreamIds.{stream_ids_after-append, stream_ids_after-silent, route-silent, times-append}
use Rattle.direct_run.specs.Moves.{World}
use Rattle.direct_proof.specs.Tagged.{Tagged, Stated}
use Rattle.direct_proof.specs.Shared.{Shared}
use Rattle.direct_proof.specs.Related.{Related}
use Rattle.direct_proof.specs.StreamIds.{Controls, IdIsKept, StreamIdIsKept, StatusIsKept, stream_ids_on, statuses_on}
use Rattle.direct_proof.specs.Kinds.{UpFits}
use Rattle.direct_proof.specs.Running.{stream_endpoint}
use Rattle.direct_proof.proofs.shared.Streaming.{stream_ids-append}
use Rattle.direct_proof.proofs.streams.submits.Starting.{no-stream_id, no-statuses}
use Rattle.direct_proof.proofs.streams.submits.Drawn.{any-back, times-some, times-distinct}
use Rattle.direct_proof.proofs.streams.changes.StopIds.{Stand, stops-times, stops-kept, stops-new}
use Rattle.direct_proof.proofs.streams.changes.Changing.{change_ids, change_sent}
use Rattle.direct_proof.proofs.streams.changes.ChangeTail.{IsMute, mute-stream_ids}
use Rattle.direct_proof.proofs.streams.changes.ChangeWire.{IsChanging, cs, ids-are, ids1, ids2, most, sent-is, tail, zs}

module _ {S : Type 0} (m : Meaning S) (w : World S) (j : Shared) (r : Request) (x : Route) (change : is_change x ≡ true) (rel : Related m w j) (gate : IsChanging w.gate x) where
  -- ---- ids

  stand : Stand 0 w.gate.streams w.gate.stream_ids
  stand = record {
    fits = λ i. subst (λ (n : ℕ). UpFits n (get_or w.gate.streams i None)) (plain i) (rel.ups.each i);
    fresh = λ i h. subst (λ (n : ℕ). get_or w.gate.stream_ids.stopped n None ≡ None) (plain i) (gate.unstopped i h);
    long = gate.long.stopped;
  }
    where
      plain : (n : ℕ) → n ≡ 0 + n
      plain n = omega arith

  stream_ids-are : stream_ids_after (change_sent w.gate x) w.gate.stream_ids ≡ stream_ids_after (zs m w j r x change rel gate) w.gate.stream_ids
  stream_ids-are = ap (λ (l : List (ℕ × RedirPacket)). stream_ids_after l w.gate.stream_ids) (sent-is m w j r x change rel gate) ∙ stream_ids_after-append (zs m w j r x change rel gate) (cs m w j r x change rel gate) w.gate.stream_ids ∙ stream_ids_after-silent (ids2 m w j r x change rel gate) (route_packets x) (stream_ids_after (zs m w j r x change rel gate) w.gate.stream_ids) (route-silent x)

  kept-on : (n e : ℕ) → IdIsKept w.gate.stream_ids n e → IdIsKept (stream_ids_after (zs m w j r x change rel gate) w.gate.stream_ids) n e
  kept-on n e h = stops-kept (is_ended (Some x)) (ids1 m w j r x change rel gate) 0 w.gate.streams w.gate.stream_ids stand n e h

  stream_ids-sent : stream_ids_on (change_sent w.gate x) ≡ stream_ids_on (zs m w j r x change rel gate)
  stream_ids-sent = ap stream_ids_on (sent-is m w j r x change rel gate) ∙ stream_ids-append (zs m w j r x change rel gate) (cs m w j r x change rel gate) ∙ ap (λ (l : List ℕ). stream_ids_on (zs m w j r x change rel gate) ++ l) (ap stream_ids_on (tail m w j r x change rel gate).are ∙ mute-stream_ids ((tail m w j r x change rel gate).first ∷ (tail m w j r x change rel gate).rest) ((tail m w j r x change rel gate).mute, (tail m w j r x change rel gate).rest_mute)) ∙ append-nil (stream_ids_on (zs m w j r x change rel gate))

  pub new-controls : w.gate.sides.lost ≡ false → Controls (stream_ids_after (change_sent w.gate x) w.gate.stream_ids) (w.to_host ++ change_sent w.gate x) j.back
  new-controls there = subst (λ (c : StreamIds). Controls c (w.to_host ++ change_sent w.gate x) j.back) (sym stream_ids-are) (record {
    once = λ n. let o = c.once n in
        let a = ap (times n) (stream_ids-append w.to_host (change_sent w.gate x) ∙ ap (λ (l : List ℕ). stream_ids_on w.to_host ++ l) stream_ids-sent) ∙ times-append n (stream_ids_on w.to_host) (stream_ids_on (zs m w j r x change rel gate)) in
        let b = stops-times (is_ended (Some x)) n (ids1 m w j r x change rel gate) (stops (is_ended (Some x)) w.gate.streams) in
        few n (times n (ids1 m w j r x change rel gate)) refl o a b;
    stream_ids_kept = Each-append (λ (p : ℕ × RedirPacket). StreamIdIsKept (stream_ids_after (zs m w j r x change rel gate) w.gate.stream_ids) p.0 (stream_endpoint p.1)) w.to_host (change_sent w.gate x) (olds w.to_host c.stream_ids_kept)
        (subst (Each (λ (p : ℕ × RedirPacket). StreamIdIsKept (stream_ids_after (zs m w j r x change rel gate) w.gate.stream_ids) p.0 (stream_endpoint p.1))) (sym ((sent-is m w j r x change rel gate) ∙ ap (λ (l : List (ℕ × RedirPacket)). (zs m w j r x change rel gate) ++ l) (tail m w j r x change rel gate).are))
        (Each-append (λ (p : ℕ × RedirPacket). StreamIdIsKept (stream_ids_after (zs m w j r x change rel gate) w.gate.stream_ids) p.0 (stream_endpoint p.1)) (zs m w j r x change rel gate) ((tail m w j r x change rel gate).first ∷ (tail m w j r x change rel gate).rest) (stops-new (is_ended (Some x)) (ids1 m w j r x change rel gate) 0 w.gate.streams w.gate.stream_ids stand) (mutes ((tail m w j r x change rel gate).first ∷ (tail m w j r x change rel gate).rest) ((tail m w j r x change rel gate).mute, (tail m w j r x change rel gate).rest_mute))));
    statuses_kept = statuses j.back c.statuses_kept;
  })
    where
      c : Controls w.gate.stream_ids w.to_host j.back
      c = rel.controls there

      olds : (ps : List (ℕ × RedirPacket)) → Each (λ (p : ℕ × RedirPacket). StreamIdIsKept w.gate.stream_ids p.0 (stream_endpoint p.1)) ps → Each (λ (p : ℕ × RedirPacket). StreamIdIsKept (stream_ids_after (zs m w j r x change rel gate) w.gate.stream_ids) p.0 (stream_endpoint p.1)) ps
      olds [] h = tt
      olds (p ∷ ps) h = (go (stream_endpoint p.1) h.0, olds ps h.1)
        where
          go : (o : Option ℕ) → StreamIdIsKept w.gate.stream_ids p.0 o → StreamIdIsKept (stream_ids_after (zs m w j r x change rel gate) w.gate.stream_ids) p.0 o
          go None k = tt
          go (Some e) k = kept-on p.0 e k

      mutes : (ps : List (ℕ × RedirPacket)) → Each IsMute ps → Each (λ (p : ℕ × RedirPacket). StreamIdIsKept (stream_ids_after (zs m w j r x change rel gate) w.gate.stream_ids) p.0 (stream_endpoint p.1)) ps
      mutes [] h = tt
      mutes (p ∷ ps) h = (subst (StreamIdIsKept (stream_ids_after (zs m w j r x change rel gate) w.gate.stream_ids) p.0) (sym h.0.0) tt, mutes ps h.1)

      statuses : (bs : List Tagged) → Each (StatusIsKept w.gate.stream_ids) bs → Each (StatusIsKept (stream_ids_after (zs m w j r x change rel gate) w.gate.stream_ids)) bs
      statuses [] h = tt
      statuses (b ∷ bs) h = (go b h.0, statuses bs h.1)
        where
          go : (b : Tagged) → StatusIsKept w.gate.stream_ids b → StatusIsKept (stream_ids_after (zs m w j r x change rel gate) w.gate.stream_ids) b
          go (Stated y n e status) k = kept-on n e k
          go _ k = tt

      few : (n k : ℕ) → times n (ids1 m w j r x change rel gate) ≡ k → times n (stream_ids_on w.to_host) + times n (statuses_on j.back) ≤ 1 → times n (stream_ids_on (w.to_host ++ change_sent w.gate x)) ≡ times n (stream_ids_on w.to_host) + times n (stream_ids_on (zs m w j r x change rel gate)) → times n (stream_ids_on (zs m w j r x change rel gate)) ≤ times n (ids1 m w j r x change rel gate) →
          times n (stream_ids_on (w.to_host ++ change_sent w.gate x)) + times n (statuses_on j.back) ≤ 1
      few n zero e o a b = omega (arith, e, o, a, b)
      few n (suc k) e o a b =
          let all = times-append n (ids1 m w j r x change rel gate) (ids2 m w j r x change rel gate) in
          let same = ap (times n) (ids-are m w j r x change rel gate) in
          let drawn : times n (change_ids w.gate x) ≤ 1 = times-distinct n (change_ids w.gate x) gate.fresh.differ in
          let free : holds (ids_of_streams w.gate.stream_ids) n ≡ false = any-back (ids_of (submits w.gate) ++ ids_of w.gate.abandoned) (ids_of_streams w.gate.stream_ids) n (times-some n (change_ids w.gate x) (flying w.gate) gate.fresh.free (omega (arith, e, all, same))) in
          let x1 = no-stream_id w.gate.stream_ids n free w.to_host c.stream_ids_kept in
          let y1 = no-statuses w.gate.stream_ids n free j.back c.statuses_kept in
          omega (arith, all, same, drawn, x1, y1, a, b)

  -- its own id is free, and none of those that go by no id
  pub change-id : (holds (flying w.gate) (last_of 0 (change_ids w.gate x)) ≡ false) × ((last_of 0 (change_ids w.gate x) == 0) ≡ false)
  change-id = (
    of-last (λ id. holds (flying w.gate) id ≡ false) (change_ids w.gate x) some gate.fresh.free 0,
    nonzero (last_of 0 (change_ids w.gate x)) (of-last (Fits (most m w j r x change rel gate)) (change_ids w.gate x) some gate.fresh.fit 0).low,
  )
    where
      some : 1 ≤ length (change_ids w.gate x)
      some = let a = ap (λ (l : List ℕ). length l) (ids-are m w j r x change rel gate) in let b = (tail m w j r x change rel gate).some in omega (arith, a, b, length-more (ids1 m w j r x change rel gate) (ids2 m w j r x change rel gate))
        where
          length-more : (xs ys : List ℕ) → length (xs ++ ys) ≡ length xs + length ys
          length-more [] ys = omega arith
          length-more (y ∷ xs) ys = let e = length-more xs ys in omega (arith, e)

      of-last : (P : ℕ → Type 0) (ids : List ℕ) → 1 ≤ length ids → Each P ids → (a : ℕ) → P (last_of a ids)
      of-last P [] h k a = absurd (omega (arith, h))
      of-last P (id ∷ []) h k a = k.0
      of-last P (id ∷ (i ∷ ids)) h k a = of-last P (i ∷ ids) (omega arith) k.1 id

      nonzero : (n : ℕ) → 1 ≤ n → (n == 0) ≡ false
      nonzero n h = grind (arith, h)
