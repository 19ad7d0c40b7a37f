-- The wire to the host: streams that quit, starts and stops, and their ids, as it grows and is read.
use Rattle.std.proofs.Common.{◌≡◌, ℕ, ◌+◌, ◌≤◌, ◌||◌, Bool, true, false, cond, List, [], ◌∷◌, ◌++◌, Option, Some, None, refl, sym, ap, ◌∙◌, subst, arith, append-nil, is_some, true≢false}
use Rattle.std.specs.List.{list_any, AllByRecursion as Each}
use Rattle.std.proofs.lemmas.Bool.{or_left}
use Rattle.std.proofs.Math.Bool.{or-false, or_assoc}
use Rattle.std.proofs.lemmas.List.Folds.{list_any-append}
use Rattle.usb_base.specs.declared.endpoint.EpTable.{EpTable}
use Rattle.redir_data.specs.declared.packet.RedirPacket.{RedirPacket}
use Rattle.redir_data.specs.declared.stream_kind.StreamKind.{StreamKind}
use Rattle.gate_history.proofs.lemmas.Lists.{Each-append}
use Rattle.gate_history.specs.state.Ids.{times}
use Rattle.gate_history.specs.state.StreamIds.{StreamIds}
use Rattle.direct_proof.specs.Tagged.{Tagged}
use Rattle.direct_proof.specs.Stale.{asks}
use Rattle.direct_proof.specs.Running.{Quits, runs_after, Trails, passes, stream_endpoint, started_kind, CanStart, StartsFit}
use Rattle.direct_proof.specs.StreamIds.{stream_id, stream_ids_on, statuses_on, status_id, Controls, StreamIdIsKept, StatusIsKept, Fenced}
use Rattle.direct_proof.specs.Kinds.{StreamIsIn}
use Rattle.direct_proof.proofs.shared.Folds.{gathers-append}

-- ---- packets that say nothing of streams

abbrev pub IsQuiet : ℕ × RedirPacket → Type 0
IsQuiet p = (stream_endpoint p.1 ≡ None) × (started_kind p.1 ≡ None) × ((ep : ℕ) (b : Bool) → runs_after ep p.1 b ≡ b)

quits-quiet : (fence : Option ℕ) (ep : ℕ) (qs : List (ℕ × RedirPacket)) → Each IsQuiet qs → Quits fence ep false qs
quits-quiet fence ep [] h = refl
quits-quiet fence ep (q ∷ qs) h = ((λ e. absurd (true≢false (sym e))), subst (λ (b : Bool). Quits fence ep b qs) (sym (h.0.2 ep false)) (quits-quiet fence ep qs h.1))

pub quits-more : (fence : Option ℕ) (ep : ℕ) (r : Bool) (ps qs : List (ℕ × RedirPacket)) → Each IsQuiet qs → Quits fence ep r ps → Quits fence ep r (ps ++ qs)
quits-more fence ep r [] qs k h = subst (λ (b : Bool). Quits fence ep b qs) (sym h) (quits-quiet fence ep qs k)
quits-more fence ep r (p ∷ ps) qs k h =
    ((λ e. list_any-append (asks fence) (p ∷ ps) qs ∙ or_left (list_any (asks fence) (p ∷ ps)) (list_any (asks fence) qs) (h.0 e)), quits-more fence ep (runs_after ep p.1 r) ps qs k h.1)

trails-quiet : (fence : Option ℕ) (down : ℕ → Bool) (qs : List (ℕ × RedirPacket)) → Each IsQuiet qs → Trails fence down qs
trails-quiet fence down [] h = tt
trails-quiet fence down (q ∷ qs) h = ((λ e. absurd (true≢false (sym e ∙ ap (passes down) h.0.0))), trails-quiet fence down qs h.1)

pub trails-append : (fence : Option ℕ) (down : ℕ → Bool) (ps qs : List (ℕ × RedirPacket)) → Trails fence down ps → Trails fence down qs → Trails fence down (ps ++ qs)
trails-append fence down [] qs h k = k
trails-append fence down (p ∷ ps) qs h k =
    ((λ e. list_any-append (asks fence) (p ∷ ps) qs ∙ or_left (list_any (asks fence) (p ∷ ps)) (list_any (asks fence) qs) (h.0 e)), trails-append fence down ps qs h.1 k)

pub trails-more : (fence : Option ℕ) (down : ℕ → Bool) (ps qs : List (ℕ × RedirPacket)) → Each IsQuiet qs → Trails fence down ps → Trails fence down (ps ++ qs)
trails-more fence down ps qs k h = trails-append fence down ps qs h (trails-quiet fence down qs k)

starts-quiet : (table : EpTable) (c : Bool) (qs : List (ℕ × RedirPacket)) → Each IsQuiet qs → StartsFit table c qs
starts-quiet table c [] h = tt
starts-quiet table c (q ∷ qs) h = (subst (CanStart table c) (sym h.0.1) tt, starts-quiet table (c || asks None q) qs h.1)

pub starts-append : (table : EpTable) (c : Bool) (ps qs : List (ℕ × RedirPacket)) → StartsFit table c ps → StartsFit table (c || list_any (asks None) ps) qs → StartsFit table c (ps ++ qs)
starts-append table c [] qs h k = subst (λ (b : Bool). StartsFit table b qs) (or-false c) k
starts-append table c (p ∷ ps) qs h k = (h.0, starts-append table (c || asks None p) ps qs h.1 (subst (λ (b : Bool). StartsFit table b qs) (sym (or_assoc c (asks None p) (list_any (asks None) ps))) k))

pub starts-more : (table : EpTable) (c : Bool) (ps qs : List (ℕ × RedirPacket)) → Each IsQuiet qs → StartsFit table c ps → StartsFit table c (ps ++ qs)
starts-more table c ps qs k h = starts-append table c ps qs h (starts-quiet table (c || list_any (asks None) ps) qs k)

-- behind a change there is no start
pub starts-none : (t u : EpTable) (c : Bool) (ps : List (ℕ × RedirPacket)) → StartsFit t true ps → StartsFit u c ps
starts-none t u c [] h = tt
starts-none t u c (p ∷ ps) h = (go (started_kind p.1) h.0, starts-none t u (c || asks None p) ps h.1)
  where
    go : (o : Option (StreamKind × ℕ)) → CanStart t true o → CanStart u c o
    go None k = tt
    go (Some s) k = absurd (true≢false k.0)

-- ---- ids

pub times-append : (id : ℕ) (xs ys : List ℕ) → times id (xs ++ ys) ≡ times id xs + times id ys
times-append id [] ys = omega arith
times-append id (x ∷ xs) ys = let r = times-append id xs ys in omega (arith, r)

pub stream_ids-append : (ps qs : List (ℕ × RedirPacket)) → stream_ids_on (ps ++ qs) ≡ stream_ids_on ps ++ stream_ids_on qs
stream_ids-append = gathers-append stream_id stream_ids_on refl (λ p ps. refl)

pub statuses-append : (bs cs : List Tagged) → statuses_on (bs ++ cs) ≡ statuses_on bs ++ statuses_on cs
statuses-append = gathers-append status_id statuses_on refl (λ b bs. refl)

stream_ids-quiet : (qs : List (ℕ × RedirPacket)) → Each IsQuiet qs → stream_ids_on qs ≡ []
stream_ids-quiet [] h = refl
stream_ids-quiet (q ∷ qs) h = (λ i. cond (is_some (h.0.0 i)) (q.0 ∷ []) [] ++ stream_ids-quiet qs h.1 i)

kept-quiet : (c : StreamIds) (qs : List (ℕ × RedirPacket)) → Each IsQuiet qs → Each (λ (p : ℕ × RedirPacket). StreamIdIsKept c p.0 (stream_endpoint p.1)) qs
kept-quiet c [] h = tt
kept-quiet c (q ∷ qs) h = (subst (StreamIdIsKept c q.0) (sym h.0.0) tt, kept-quiet c qs h.1)

pub stream_ids-same : (ps qs : List (ℕ × RedirPacket)) → Each IsQuiet qs → stream_ids_on (ps ++ qs) ≡ stream_ids_on ps
stream_ids-same ps qs h = stream_ids-append ps qs ∙ ap (λ (l : List ℕ). stream_ids_on ps ++ l) (stream_ids-quiet qs h) ∙ append-nil (stream_ids_on ps)

-- and they start and stop no stream
pub streams-quiet-in : (qs : List (ℕ × RedirPacket)) → Each IsQuiet qs → Each (λ (p : ℕ × RedirPacket). StreamIsIn (stream_endpoint p.1)) qs
streams-quiet-in [] h = tt
streams-quiet-in (q ∷ qs) h = (subst StreamIsIn (sym h.0.0) tt, streams-quiet-in qs h.1)

-- more is asked
pub controls-more : (c : StreamIds) (ps qs : List (ℕ × RedirPacket)) (back : List Tagged) → Each IsQuiet qs → Controls c ps back → Controls c (ps ++ qs) back
controls-more c ps qs back quiet k = record {
  once = λ id. subst (λ (l : List ℕ). times id l + times id (statuses_on back) ≤ 1) (sym (stream_ids-same ps qs quiet)) (k.once id);
  stream_ids_kept = Each-append (λ (p : ℕ × RedirPacket). StreamIdIsKept c p.0 (stream_endpoint p.1)) ps qs k.stream_ids_kept (kept-quiet c qs quiet);
  statuses_kept = k.statuses_kept;
}

pub fenced-more : (fence : Option ℕ) (fenced : Bool) (ps qs : List (ℕ × RedirPacket)) (back : List Tagged) → Each IsQuiet qs → Fenced fence fenced ps back → Fenced fence fenced (ps ++ qs) back
fenced-more None fenced ps qs back quiet h = h
fenced-more (Some f) fenced ps qs back quiet h = ((λ k. h.0 (subst (λ (l : List ℕ). 1 ≤ times f l) (stream_ids-same ps qs quiet) k)), h.1)

-- the host has read a packet
pub controls-heard : (c : StreamIds) (p : ℕ × RedirPacket) (ps : List (ℕ × RedirPacket)) (back : List Tagged) → Controls c (p ∷ ps) back → Controls c ps back
controls-heard c p ps back k = record {
  once = λ id. let z = k.once id in let y = times-append id (stream_id p) (stream_ids_on ps) in omega (arith, z, y);
  stream_ids_kept = k.stream_ids_kept.1;
  statuses_kept = k.statuses_kept;
}

pub fenced-heard : (fence : Option ℕ) (fenced : Bool) (p : ℕ × RedirPacket) (ps : List (ℕ × RedirPacket)) (back : List Tagged) → Fenced fence fenced (p ∷ ps) back → Fenced fence fenced ps back
fenced-heard None fenced p ps back h = h
fenced-heard (Some f) fenced p ps back h = ((λ k. h.0 (let y = times-append f (stream_id p) (stream_ids_on ps) in omega (arith, k, y))), h.1)

-- the gateway has read one
pub controls-read : (c : StreamIds) (ps : List (ℕ × RedirPacket)) (b : Tagged) (bs : List Tagged) → Controls c ps (b ∷ bs) → Controls c ps bs
controls-read c ps b bs k = record {
  once = λ id. let z = k.once id in let y = times-append id (status_id b) (statuses_on bs) in omega (arith, z, y);
  stream_ids_kept = k.stream_ids_kept;
  statuses_kept = k.statuses_kept.1;
}

pub fenced-read : (fence : Option ℕ) (fenced : Bool) (ps : List (ℕ × RedirPacket)) (b : Tagged) (bs : List Tagged) → Fenced fence fenced ps (b ∷ bs) → Fenced fence fenced ps bs
fenced-read None fenced ps b bs h = h
fenced-read (Some f) fenced ps b bs h = (h.0, λ k. let z = h.1 k in let y = times-append f (status_id b) (statuses_on bs) in omega (arith, z, y))

-- the host has sent more, and no status
pub controls-sent : (c : StreamIds) (ps : List (ℕ × RedirPacket)) (bs cs : List Tagged) → statuses_on cs ≡ [] → Each (StatusIsKept c) cs → Controls c ps bs → Controls c ps (bs ++ cs)
controls-sent c ps bs cs none kept k = record {
  once = λ id. subst (λ (l : List ℕ). times id (stream_ids_on ps) + times id l ≤ 1) (sym same) (k.once id);
  stream_ids_kept = k.stream_ids_kept;
  statuses_kept = Each-append (StatusIsKept c) bs cs k.statuses_kept kept;
}
  where
    same : statuses_on (bs ++ cs) ≡ statuses_on bs
    same = statuses-append bs cs ∙ ap (λ (l : List ℕ). statuses_on bs ++ l) none ∙ append-nil (statuses_on bs)

pub fenced-sent : (fence : Option ℕ) (fenced : Bool) (ps : List (ℕ × RedirPacket)) (bs cs : List Tagged) → statuses_on cs ≡ [] → Fenced fence fenced ps bs → Fenced fence fenced ps (bs ++ cs)
fenced-sent None fenced ps bs cs none h = h
fenced-sent (Some f) fenced ps bs cs none h = (h.0, λ k. ap (times f) (statuses-append bs cs ∙ ap (λ (l : List ℕ). statuses_on bs ++ l) none ∙ append-nil (statuses_on bs)) ∙ h.1 k)
