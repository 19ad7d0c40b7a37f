-- What asks on the wire to the host is a change that is to be performed, or the fence's stop.
use Rattle.std.proofs.Common.{◌≡◌, ℕ, ◌+◌, ◌≤◌, ◌||◌, ◌⊎◌, inl, inr, Bool, true, false, cond, List, [], ◌∷◌, ◌++◌, Option, Some, None, refl, sym, ap, ◌∙◌, arith, true≢false}
use Rattle.std.specs.List.{list_any}
use Rattle.std.proofs.lemmas.Bool.{or_left, or_right, or_cases}
use Rattle.std.proofs.lemmas.List.Folds.{list_any-append}
use Rattle.redir_data.specs.declared.packet.RedirPacket.{RedirPacket}
use Rattle.control_route.specs.declared.route.Route.{Route}
use Rattle.control_route.specs.declared.route.Route.TheVariants as route
use Rattle.redir_host.specs.guest.Line.{Waiting as InLine, Reset}
use Rattle.gate_history.specs.state.Ids.{times}
use Rattle.gate_history.specs.declared.request.Request.{Request}
use Rattle.gate_history.specs.declared.verdict.Pipe.TheVariants.{Control, Bulk, InterruptOut}
use Rattle.gate_history.specs.declared.verdict.Verdict.{Verdict}
use Rattle.gate_history.specs.declared.verdict.Verdict.TheVariants.{Now, Wire, Routed, IsoOut, Stream}
use Rattle.gate_history.specs.client.Verdict.{changes}
use Rattle.direct_proof.specs.Requests.{Entry, at_host, form_by, resets}
use Rattle.direct_proof.specs.Tagged.{Tagged}
use Rattle.direct_proof.specs.Shared.{lines, in_line, half_line, at_hosts}
use Rattle.direct_proof.specs.Stale.{asks, is_fence}
use Rattle.direct_proof.specs.Cancels.{any_change, is_change}
use Rattle.direct_proof.specs.StreamIds.{Fenced, stream_ids_on, stream_id}
use Rattle.direct_proof.proofs.streams.wires.Sorts.{line_changes, form_changes, asks-parts}
use Rattle.gate_history.proofs.lemmas.state.StreamIds.{times-append}

-- ---- changes

route-changes : (r : Request) (x : Route) → form_changes (form_by r (Routed x)) ≡ true → changes (Routed x) ≡ true
route-changes r (route.SetConfig c) h = refl
route-changes r (route.SetAlt i a) h = refl
route-changes r route.Reset h = refl
route-changes r _ h = absurd (true≢false (sym h))

reset-changes : (x : Route) → resets (Routed x) ≡ true → changes (Routed x) ≡ true
reset-changes (route.SetConfig c) h = refl
reset-changes (route.SetAlt i a) h = refl
reset-changes route.Reset h = refl
reset-changes _ h = absurd (true≢false (sym h))

in-line : (v : Verdict) (b : Bool) → (b ≡ true → changes v ≡ true) → (l : InLine) → (line_changes l ≡ true → changes v ≡ true) → list_any line_changes (cond b (Reset ∷ []) [] ++ l ∷ []) ≡ true → changes v ≡ true
in-line v true reset l by h = reset refl
in-line v false reset l by h = go (or_cases (line_changes l) false h)
  where
    go : (line_changes l ≡ true) ⊎ (false ≡ true) → changes v ≡ true
    go (inl y) = by y
    go (inr y) = absurd (true≢false (sym y))

-- an entry that stands in line as a change is one
pub entry-changes : (e : Entry) → list_any line_changes (at_host e) ≡ true → changes e.load.verdict ≡ true
entry-changes e = go e.load.verdict
  where
    at : Verdict → List InLine
    at v = at_host (record e { load = record { request = e.load.request; verdict = v } })

    go : (v : Verdict) → list_any line_changes (at v) ≡ true → changes v ≡ true
    go (Now status) h = absurd (true≢false (sym h))
    go (Wire Control) h = absurd (true≢false (sym h))
    go (Wire Bulk) h = absurd (true≢false (sym h))
    go (Wire InterruptOut) h = absurd (true≢false (sym h))
    go (IsoOut row) h = absurd (true≢false (sym h))
    go (Stream row) h = absurd (true≢false (sym h))
    go (Routed x) h = in-line (Routed x) (resets (Routed x)) (reset-changes x) _ (λ k. route-changes e.load.request x k) h

pub coming-changes : (es : List Entry) → list_any line_changes (at_hosts es) ≡ true → any_change es ≡ true
coming-changes [] h = absurd (true≢false (sym h))
coming-changes (e ∷ es) h = go (coming-changes es) (or_cases (list_any line_changes (at_host e)) (list_any line_changes (at_hosts es)) (sym (list_any-append line_changes (at_host e) (at_hosts es)) ∙ h))
  where
    go : (list_any line_changes (at_hosts es) ≡ true → any_change es ≡ true) → (list_any line_changes (at_host e) ≡ true) ⊎ (list_any line_changes (at_hosts es) ≡ true) → any_change (e ∷ es) ≡ true
    go rest (inl k) = or_left (changes e.load.verdict) (any_change es) (entry-changes e k)
    go rest (inr k) = or_right (changes e.load.verdict) (any_change es) (rest k)

-- ---- what asks on a wire

abbrev pub Stops : Option ℕ → List (ℕ × RedirPacket) → Type 0
Stops None ps = ⊥
Stops (Some fence) ps = 1 ≤ times fence (stream_ids_on ps)

stops-here : (fence : Option ℕ) (q : ℕ × RedirPacket) (ps : List (ℕ × RedirPacket)) → is_fence fence q.0 ≡ true → stream_id q ≡ q.0 ∷ [] → Stops fence (q ∷ ps)
stops-here None q ps h k = absurd (true≢false (sym h))
stops-here (Some f) q ps h k =
    let a = times-append f (stream_id q) (stream_ids_on ps) in
    let b : times f (stream_id q) ≡ 1 = ap (times f) k ∙ (λ i. cond (h i) 1 0 + 0) in
    omega (arith, a, b)

stops-later : (fence : Option ℕ) (q : ℕ × RedirPacket) (ps : List (ℕ × RedirPacket)) → Stops fence ps → Stops fence (q ∷ ps)
stops-later None q ps h = h
stops-later (Some f) q ps h = let a = times-append f (stream_id q) (stream_ids_on ps) in omega (arith, a, h)

pub asked-by : (fence : Option ℕ) (ps : List (ℕ × RedirPacket)) → list_any (asks fence) ps ≡ true → (list_any line_changes (lines ps) ≡ true) ⊎ Stops fence ps
asked-by fence [] h = absurd (true≢false (sym h))
asked-by fence (q ∷ ps) h = go (asked-by fence ps) (or_cases (asks fence q) (list_any (asks fence) ps) h)
  where
    in-front : (list_any line_changes (in_line q) ≡ true) ⊎ ((is_fence fence q.0 ≡ true) × (stream_id q ≡ q.0 ∷ [])) → (list_any line_changes (lines (q ∷ ps)) ≡ true) ⊎ Stops fence (q ∷ ps)
    in-front (inl k) = inl (list_any-append line_changes (in_line q) (lines ps) ∙ or_left (list_any line_changes (in_line q)) (list_any line_changes (lines ps)) k)
    in-front (inr k) = inr (stops-here fence q ps k.0 k.1)

    behind : (list_any line_changes (lines ps) ≡ true) ⊎ Stops fence ps → (list_any line_changes (lines (q ∷ ps)) ≡ true) ⊎ Stops fence (q ∷ ps)
    behind (inl k) = inl (list_any-append line_changes (in_line q) (lines ps) ∙ or_right (list_any line_changes (in_line q)) (list_any line_changes (lines ps)) k)
    behind (inr k) = inr (stops-later fence q ps k)

    go : (list_any (asks fence) ps ≡ true → (list_any line_changes (lines ps) ≡ true) ⊎ Stops fence ps) → (asks fence q ≡ true) ⊎ (list_any (asks fence) ps ≡ true) → (list_any line_changes (lines (q ∷ ps)) ≡ true) ⊎ Stops fence (q ∷ ps)
    go rest (inl k) = in-front (asks-parts fence q k)
    go rest (inr k) = behind (rest k)

pub fence-comes : (fence : Option ℕ) (fenced : Bool) (ps : List (ℕ × RedirPacket)) (back : List Tagged) → Fenced fence fenced ps back → Stops fence ps → fenced ≡ true
fence-comes None fenced ps back h k = absurd k
fence-comes (Some f) fenced ps back h k = h.0 k

-- then something is to come
pub asked-pending : (fence : Option ℕ) (fenced half : Bool) (ps : List (ℕ × RedirPacket)) (back : List Tagged) (held coming : List Entry) → half_line half ++ lines ps ≡ at_hosts coming → Fenced fence fenced ps back → list_any (asks fence) ps ≡ true →
    (any_change (held ++ coming) || fenced) ≡ true
asked-pending fence fenced half ps back held coming line fit h = go (asked-by fence ps h)
  where
    go : (list_any line_changes (lines ps) ≡ true) ⊎ Stops fence ps → (any_change (held ++ coming) || fenced) ≡ true
    go (inl k) = or_left (any_change (held ++ coming)) fenced (list_any-append is_change held coming ∙ or_right (any_change held) (any_change coming) (coming-changes coming
        (ap (list_any line_changes) (sym line) ∙ list_any-append line_changes (half_line half) (lines ps) ∙ or_right (list_any line_changes (half_line half)) (list_any line_changes (lines ps)) k)))
    go (inr k) = or_right (any_change (held ++ coming)) fenced (fence-comes fence fenced ps back fit k)
