-- Stops of streams, as a list by their places: what they are, and how the streams run behind them.
use Rattle.std.proofs.Common.{◌≡◌, ℕ, zero, suc, ◌==◌, ◌||◌, Bool, true, false, cond, List, [], ◌∷◌, ◌++◌, length, Option, Some, None, refl, sym, ap, ◌∙◌, subst, arith, true≢false}
use Rattle.std.specs.Prelude.{get_or, zip}
use Rattle.std.specs.List.{list_any, AllByRecursion as Each}
use Rattle.std.proofs.lemmas.Bool.{or_left, or_right}
use Rattle.std.proofs.lemmas.List.Folds.{list_any-append}
use Rattle.redir_wire.specs.declared.packet.RedirControl.TheVariants as plain
use Rattle.redir_data.specs.declared.packet.RedirPacket.{RedirPacket}
use Rattle.redir_data.specs.declared.packet.RedirPacket.TheVariants.{Plain}
use Rattle.gate_history.specs.write.Packets.{stop_packet, stops}
use Rattle.gate_history.specs.state.Ups.{Up}
use Rattle.usb_base.specs.Endpoint.{is_iso}
use Rattle.direct_proof.specs.Shared.{lines}
use Rattle.direct_proof.specs.Kinds.{IsIn, UpsFit, UpFits, StreamIsIn}
use Rattle.direct_proof.specs.Running.{stream_endpoint, started_kind, runs_after, Quits, Trails}
use Rattle.direct_proof.specs.Stale.{asks}
use Rattle.direct_proof.proofs.streams.wires.Sorts.{IsSwitch, Switches_or, is-switch}

-- ---- one stop

pub record IsStop (up : Up) (p : RedirPacket) : Type 0 where
  pub stream : stream_endpoint p ≡ Some up.ep
  pub no_start : started_kind p ≡ None
  pub runs-are : (e : ℕ) (r : Bool) → runs_after e p r ≡ cond (up.ep == e) false r

pub stop-is : (up : Up) → IsStop up (stop_packet up)
stop-is up = go (is_iso up.row.kind)
  where
    go : (b : Bool) → IsStop up (Plain (cond b (plain.StopIso up.ep) (plain.StopInterrupt up.ep)))
    go true = record { stream = refl; no_start = refl; runs-are = λ e r. refl }
    go false = record { stream = refl; no_start = refl; runs-are = λ e r. refl }

-- ---- all stops

abbrev pub InUp : Option Up → Type 0
InUp None = Unit {0}
InUp (Some up) = IsIn up.ep

pub all-in : (ups : List (Option Up)) → ((i : ℕ) → InUp (get_or ups i None)) → Each InUp ups
all-in [] h = tt
all-in (o ∷ ups) h = (h 0, all-in ups (λ i. h (suc i)))

pub ups-in : (ups : List (Option Up)) → UpsFit ups → Each InUp ups
ups-in ups fits = all-in ups (λ i. go i (get_or ups i None) (fits.each i))
  where
    go : (i : ℕ) (o : Option Up) → UpFits i o → InUp o
    go i None h = tt
    go i (Some up) h = h.0

pub record StopsOne (test : Up → Bool) (p : ℕ × RedirPacket) : Type 0 where
  pub up : Up
  pub is : IsStop up p.1
  pub passes-it : test up ≡ true
  pub is_in : IsIn up.ep
  pub switch : IsSwitch p

abbrev pub stopping : (Up → Bool) → List ℕ → List (Option Up) → List (ℕ × RedirPacket)
stopping test ids ups = zip ids (stops test ups)

pub each-stops : (test : Up → Bool) (ids : List ℕ) (ups : List (Option Up)) → Each InUp ups → Each (StopsOne test) (stopping test ids ups)
each-stops test [] ups h = tt
each-stops test (id ∷ ids) [] h = tt
each-stops test (id ∷ ids) (None ∷ ups) h = each-stops test (id ∷ ids) ups h.1
each-stops test (id ∷ ids) (Some up ∷ ups) h = go (test up) refl (each-stops test ids ups h.1) (each-stops test (id ∷ ids) ups h.1)
  where
    go : (b : Bool) → test up ≡ b → Each (StopsOne test) (zip ids (stops test ups)) → Each (StopsOne test) (zip (id ∷ ids) (stops test ups)) → Each (StopsOne test) (zip (id ∷ ids) (cond b (stop_packet up ∷ []) [] ++ stops test ups))
    go false e more skip = skip
    go true e more skip = (record { up = up; is = stop-is up; passes-it = e; is_in = h.0; switch = subst (λ (o : Option ℕ). Switches_or o (id, stop_packet up)) (stop-is up).stream (is-switch (id, stop_packet up)) }, more)

-- ---- how streams run behind packets

abbrev pub runs_all : ℕ → List (ℕ × RedirPacket) → Bool → Bool
runs_all e [] r = r
runs_all e (p ∷ ps) r = runs_all e ps (runs_after e p.1 r)

pub runs_all-append : (e : ℕ) (ps qs : List (ℕ × RedirPacket)) (r : Bool) → runs_all e (ps ++ qs) r ≡ runs_all e qs (runs_all e ps r)
runs_all-append e [] qs r = refl
runs_all-append e (p ∷ ps) qs r = runs_all-append e ps qs (runs_after e p.1 r)

-- one that doesn't run doesn't behind stops
pub stops-off : (test : Up → Bool) (e : ℕ) (zs : List (ℕ × RedirPacket)) → Each (StopsOne test) zs → runs_all e zs false ≡ false
stops-off test e [] h = refl
stops-off test e (z ∷ zs) h = ap (runs_all e zs) (h.0.is.runs-are e false ∙ none (h.0.up.ep == e)) ∙ stops-off test e zs h.1
  where
    none : (b : Bool) → cond b false false ≡ false
    none true = refl
    none false = refl

-- one that is stopped doesn't run behind them
pub stops-quit : (test : Up → Bool) (up : Up) → test up ≡ true → (ids : List ℕ) (ups : List (Option Up)) → Each InUp ups → length ids ≡ length (stops test ups) → (i : ℕ) → get_or ups i None ≡ Some up → (r : Bool) → runs_all up.ep (stopping test ids ups) r ≡ false
stops-quit test up t ids [] h n i e r = absurd (cc)
stops-quit test up t ids (None ∷ ups) h n zero e r = absurd (cc)
stops-quit test up t ids (None ∷ ups) h n (suc i) e r = stops-quit test up t ids ups h.1 n i e r
stops-quit test up t [] (Some u ∷ ups) h n zero e r = absurd (some (test u) (ap test (same e) ∙ t) n)
  where
    same : Some u ≡ Some up → u ≡ up
    same z = cc

    some : (b : Bool) → b ≡ true → length {A = ℕ} [] ≡ length (cond b (stop_packet u ∷ []) [] ++ stops test ups) → ⊥
    some true y k = absurd (omega (arith, k))
    some false y k = true≢false (sym y)
stops-quit test up t (id ∷ ids) (Some u ∷ ups) h n zero e r = go (test u) (ap test (same e) ∙ t)
  where
    same : Some u ≡ Some up → u ≡ up
    same z = cc

    itself : (k : ℕ) → (k == k) ≡ true
    itself k = grind arith

    go : (b : Bool) → b ≡ true → runs_all up.ep (zip (id ∷ ids) (cond b (stop_packet u ∷ []) [] ++ stops test ups)) r ≡ false
    go false y = absurd (true≢false (sym y))
    go true y = ap (runs_all up.ep (zip ids (stops test ups))) ((stop-is u).runs-are up.ep r ∙ ap (λ (b : Bool). cond b false r) (ap (λ (x : Up). x.ep == up.ep) (same e) ∙ itself up.ep)) ∙ stops-off test up.ep (zip ids (stops test ups)) (each-stops test ids ups h.1)
stops-quit test up t [] (Some u ∷ ups) h n (suc i) e r = go (test u) n (stops-quit test up t [] ups h.1)
  where
    go : (b : Bool) → length {A = ℕ} [] ≡ length (cond b (stop_packet u ∷ []) [] ++ stops test ups) → (length {A = ℕ} [] ≡ length (stops test ups) → (k : ℕ) → get_or ups k None ≡ Some up → (s : Bool) → runs_all up.ep (stopping test [] ups) s ≡ false) → r ≡ false
    go true k rest = absurd (omega (arith, k))
    go false k rest = rest k i e r
stops-quit test up t (id ∷ ids) (Some u ∷ ups) h n (suc i) e r = go (test u) n (stops-quit test up t ids ups h.1) (stops-quit test up t (id ∷ ids) ups h.1)
  where
    go : (b : Bool) → length (id ∷ ids) ≡ length (cond b (stop_packet u ∷ []) [] ++ stops test ups) →
        (length ids ≡ length (stops test ups) → (k : ℕ) → get_or ups k None ≡ Some up → (s : Bool) → runs_all up.ep (stopping test ids ups) s ≡ false) →
        (length (id ∷ ids) ≡ length (stops test ups) → (k : ℕ) → get_or ups k None ≡ Some up → (s : Bool) → runs_all up.ep (stopping test (id ∷ ids) ups) s ≡ false) →
        runs_all up.ep (zip (id ∷ ids) (cond b (stop_packet u ∷ []) [] ++ stops test ups)) r ≡ false
    go true k more skip = more (omega (arith, k)) i e (runs_after up.ep (stop_packet u) r)
    go false k more skip = skip k i e r

-- ---- a wire that ends with what asks

pub quits-ends : (fence : Option ℕ) (e : ℕ) (r : Bool) (ps : List (ℕ × RedirPacket)) (c : ℕ × RedirPacket) → asks fence c ≡ true → runs_all e (ps ++ c ∷ []) r ≡ false → Quits fence e r (ps ++ c ∷ [])
quits-ends fence e r [] c h k = ((λ z. or_left (asks fence c) false h), k)
quits-ends fence e r (p ∷ ps) c h k = (
  (λ z. list_any-append (asks fence) (p ∷ ps) (c ∷ []) ∙ or_right (list_any (asks fence) (p ∷ ps)) (asks fence c || false) (or_left (asks fence c) false h)),
  quits-ends fence e (runs_after e p.1 r) ps c h k,
)

pub trails-ends : (fence : Option ℕ) (down : ℕ → Bool) (ps : List (ℕ × RedirPacket)) (c : ℕ × RedirPacket) → asks fence c ≡ true → Trails fence down (ps ++ c ∷ [])
trails-ends fence down [] c h = ((λ z. or_left (asks fence c) false h), tt)
trails-ends fence down (p ∷ ps) c h = ((λ z. list_any-append (asks fence) (p ∷ ps) (c ∷ []) ∙ or_right (list_any (asks fence) (p ∷ ps)) (asks fence c || false) (or_left (asks fence c) false h)), trails-ends fence down ps c h)

pub quits-end : (fence : Option ℕ) (e : ℕ) (r : Bool) (ps : List (ℕ × RedirPacket)) → Quits fence e r ps → runs_all e ps r ≡ false
quits-end fence e r [] h = h
quits-end fence e r (p ∷ ps) h = quits-end fence e (runs_after e p.1 r) ps h.1

-- ---- stops put nothing in line, start nothing, and are no change

pub stops-lines : (test : Up → Bool) (zs : List (ℕ × RedirPacket)) → Each (StopsOne test) zs → lines zs ≡ []
stops-lines test [] h = refl
stops-lines test (z ∷ zs) h = (λ i. h.0.switch.line i ++ stops-lines test zs h.1 i)

pub stops-in : (test : Up → Bool) (zs : List (ℕ × RedirPacket)) → Each (StopsOne test) zs → Each (λ (p : ℕ × RedirPacket). StreamIsIn (stream_endpoint p.1)) zs
stops-in test [] h = tt
stops-in test (z ∷ zs) h = (subst StreamIsIn (sym h.0.is.stream) h.0.is_in, stops-in test zs h.1)
