-- The rows of requests that wait for a stream's packets, by their submits, of which none was answered at once.
use Rattle.std.proofs.Common.{◌≡◌, ℕ, ◌==◌, ◌&&◌, List, [], ◌∷◌, map, None, refl, ap, ◌∙◌}
use Rattle.std.specs.Prelude.{filter}
use Rattle.control_route.specs.declared.route.Route.{Route}
use Rattle.unlink_race.specs.Searches.{is_stream, waits_at as kind_waits_at, is_touched_by, waits_for}
use Rattle.gate_history.specs.declared.verdict.Verdict.{Verdict}
use Rattle.gate_history.specs.declared.verdict.Verdict.TheVariants.{Now, Wire, Routed, IsoOut, Stream}
use Rattle.gate_history.specs.step.Marks.{Submission}
use Rattle.gate_history.specs.client.Submits.{Pending}
use Rattle.gate_history.specs.client.Ends.{at_once, is_waiting, waits_at, is_touched}
use Rattle.gate_history.specs.state.State.{State}
use Rattle.gate_history.specs.state.Sound.{IsSound}
use Rattle.gate_parts.specs.state.Rows.{kind_of, row}
use Rattle.gate_history.proofs.lemmas.Lists.{Each, Each-weaker, filter-same, filter-map}

-- it wasn't answered where it was accepted
abbrev pub IsGoing : Pending → Type 0
IsGoing p = at_once p.submit.verdict ≡ None

pub each-mapped : {X Y : Type 0} (P : Y → Type 0) (f : X → Y) (xs : List X) → Each P (map f xs) → Each (λ x. P (f x)) xs
each-mapped P f [] h = tt
each-mapped P f (x ∷ xs) h = (h.0, each-mapped P f xs h.1)

pub all-going : (st : State) → IsSound st → Each IsGoing st.live
all-going st sound = each-mapped (λ (s : Submission). at_once s.verdict ≡ None) (λ (p : Pending). p.submit) st.live sound.going

-- ---- of one kind

pub stream-kind : (v : Verdict) (e : ℕ) → at_once v ≡ None → is_stream (kind_of v e) ≡ is_waiting v
stream-kind (Now status) e h = absurd (cc)
stream-kind (Wire pipe) e h = refl
stream-kind (Routed r) e h = refl
stream-kind (IsoOut row) e h = absurd (cc)
stream-kind (Stream row) e h = refl

pub waits-kind : (v : Verdict) (e ep : ℕ) → at_once v ≡ None → kind_waits_at ep (kind_of v e) ≡ (is_waiting v && (e == ep))
waits-kind (Now status) e ep h = absurd (cc)
waits-kind (Wire pipe) e ep h = refl
waits-kind (Routed r) e ep h = refl
waits-kind (IsoOut row) e ep h = absurd (cc)
waits-kind (Stream row) e ep h = refl

pub touched-kind : (v : Verdict) (e : ℕ) (r : Route) → at_once v ≡ None → is_touched_by r (kind_of v e) ≡ is_touched (Routed r) v
touched-kind (Now status) e r h = absurd (cc)
touched-kind (Wire pipe) e r h = refl
touched-kind (Routed other) e r h = refl
touched-kind (IsoOut row) e r h = absurd (cc)
touched-kind (Stream row) e r h = refl

-- ---- of one row

pub stream-row : (p : Pending) → IsGoing p → is_stream (row p).kind ≡ is_waiting p.submit.verdict
stream-row p h = stream-kind p.submit.verdict p.submit.request.transfer.ep h

pub waits-row : (ep : ℕ) (p : Pending) → IsGoing p → waits_for ep (row p) ≡ waits_at ep p.submit
waits-row ep p h = waits-kind p.submit.verdict p.submit.request.transfer.ep ep h

pub touched-row : (r : Route) (p : Pending) → IsGoing p → is_touched_by r (row p).kind ≡ is_touched (Routed r) p.submit.verdict
touched-row r p h = touched-kind p.submit.verdict p.submit.request.transfer.ep r h

-- ---- of all rows

-- those that wait at an endpoint are the rows of the submits that do
pub waits-rows : (ep : ℕ) (ps : List Pending) → Each IsGoing ps → filter (waits_for ep) (map row ps) ≡ map row (filter (λ p. waits_at ep p.submit) ps)
waits-rows ep ps h =
    filter-map (waits_for ep) row ps
    ∙ ap (map row) (filter-same (λ p. waits_for ep (row p)) (λ p. waits_at ep p.submit) ps (Each-weaker IsGoing (λ p. waits_for ep (row p) ≡ waits_at ep p.submit) (waits-row ep) ps h))
