-- The machine's state is what the past says.
use Rattle.std.specs.Option.{option_or}
use Rattle.std.proofs.Common.{◌≡◌, ℕ, suc, ◌<◌, ◌≤◌, ◌&&◌, Bool, true, false, cond, leb, List, [], ◌∷◌, ◌++◌, length, map, Option, Some, None, refl, sym, ap, ◌∙◌, arith}
use Rattle.std.specs.Prelude.{filter, is_none}
use Rattle.std.proofs.lemmas.List.{map-append}
use Rattle.std.proofs.lemmas.List.Elements.{filter-append}
use Rattle.std.proofs.lemmas.Bool.{lt-leb}
use Rattle.gate_history.specs.step.Marks.{Submission, Effect, Mark}
use Rattle.gate_history.specs.client.Submits.{opened, accepted, end_of, is_live, live, asks, unlinker, Pending, pending, abandoned_after}
use Rattle.gate_history.specs.client.Ends.{ends, End}
use Rattle.gate_history.specs.state.State.{state_of}
use Rattle.gate_history.specs.write.Output.{fresh}
use Rattle.gate_history.specs.step.Machine.{ask, live_after, with_mark}
use Rattle.gate_history.proofs.lemmas.Lists.{Each, Each-weaker, Each-append, Each-filter, filter-same, filter-twice, both, filter-all, filter-map, map-same, map-map}

-- an accepted submit has the place where it stands
abbrev pub IsPlaced : ℕ → Effect → Type 0
IsPlaced n e = Each (λ s. s.place ≡ n) (opened e)

abbrev pub IsWell : List Mark → Type 0
IsWell [] = Unit {0}
IsWell (m ∷ ms) = IsPlaced (length ms) m.what × IsWell ms

abbrev pub Before : ℕ → Submission → Type 0
Before n s = s.place < n

pub opened-before : (n : ℕ) (e : Effect) → IsPlaced n e → Each (Before (suc n)) (opened e)
opened-before n e h = Each-weaker (λ s. s.place ≡ n) (Before (suc n)) (λ s p. omega (arith, p)) (opened e) h

pub placed : (ms : List Mark) → IsWell ms → Each (Before (length ms)) (accepted ms)
placed [] w = tt
placed (m ∷ ms) w =
    Each-append (Before (suc (length ms))) (accepted ms) (opened m.what)
    (Each-weaker (Before (length ms)) (Before (suc (length ms))) (λ s h. omega arith) (accepted ms) (placed ms w.1))
    (opened-before (length ms) m.what w.0)

-- ---- a submit that isn't there yet has no end and no unlinker

pub within : (a n : ℕ) → a < suc n → leb a n ≡ true
within a n h = grind arith

pub unopened-end : (ms : List Mark) (s : Submission) → length ms ≤ s.place → end_of ms s ≡ None
unopened-end [] s h = refl
unopened-end (m ∷ ms) s h =
    ap (λ (e : Option End). option_or e (cond (leb s.place (length ms)) (ends m.what s) None)) (unopened-end ms s (omega arith))
    ∙ ap (λ (b : Bool). cond b (ends m.what s) None) (lt-leb s.place (length ms) (omega arith))

pub unopened-unlinker : (ms : List Mark) (s : Submission) → length ms ≤ s.place → unlinker ms s ≡ None
unopened-unlinker [] s h = refl
unopened-unlinker (m ∷ ms) s h =
    ap (λ (u : Option ℕ). option_or u (cond (leb s.place (length ms) && is_live ms s) (asks m.what s) None)) (unopened-unlinker ms s (omega arith))
    ∙ ap (λ (b : Bool). cond (b && is_live ms s) (asks m.what s) None) (lt-leb s.place (length ms) (omega arith))

-- ---- those that are live

pub is_none-or_else : {A : Type 0} (a b : Option A) → is_none (option_or a b) ≡ both (is_none a) (is_none b)
is_none-or_else (Some a) b = refl
is_none-or_else None b = refl

-- an item ends some of those that were live, and of the one that it opens
pub live-is : (ms : List Mark) (m : Mark) → IsWell (m ∷ ms) → live (m ∷ ms) ≡ filter (λ s. is_none (ends m.what s)) (live ms ++ opened m.what)
live-is ms m w =
    filter-same (is_live (m ∷ ms)) (λ s. both (is_live ms s) (is_none (ends m.what s))) (accepted ms ++ opened m.what)
    (Each-weaker (Before (suc (length ms))) (λ s. is_live (m ∷ ms) s ≡ both (is_live ms s) (is_none (ends m.what s)))
    (λ s h. ap (λ (b : Bool). is_none (option_or (end_of ms s) (cond b (ends m.what s) None))) (within s.place (length ms) h) ∙ is_none-or_else (end_of ms s) (ends m.what s))
    (accepted ms ++ opened m.what) (placed (m ∷ ms) w))
    ∙ sym (filter-twice (λ s. is_none (ends m.what s)) (is_live ms) (accepted ms ++ opened m.what))
    ∙ ap (filter (λ s. is_none (ends m.what s)))
    (filter-append (is_live ms) (accepted ms) (opened m.what)
    ∙ ap (λ (l : List Submission). live ms ++ l) (all-live (opened m.what) (Each-weaker (λ s. s.place ≡ length ms) (λ s. is_live ms s ≡ true) (λ s p. ap is_none (unopened-end ms s (omega (arith, p)))) (opened m.what) w.0)))
  where
    all-live : (ss : List Submission) → Each (λ s. is_live ms s ≡ true) ss → filter (is_live ms) ss ≡ ss
    all-live ss e = filter-same (is_live ms) (λ s. true) ss e ∙ filter-all ss

-- it is there, and hadn't ended
pub record Present (ms : List Mark) (s : Submission) : Type 0 where
  pub there : s.place < suc (length ms)
  pub live : is_live ms s ≡ true

pub present-each : (ms : List Mark) (e : Effect) → IsWell ms → IsPlaced (length ms) e → Each (Present ms) (live ms ++ opened e)
present-each ms e w h =
    Each-append (Present ms) (live ms) (opened e) (old (accepted ms) (placed ms w))
    (Each-weaker (λ s. s.place ≡ length ms) (Present ms) (λ s p. record { there = omega (arith, p); live = ap is_none (unopened-end ms s (omega (arith, p))) }) (opened e) h)
  where
    with_live : (s : Submission) (l : List Submission) (b : Bool) → is_live ms s ≡ b → s.place < length ms → Each (Present ms) l → Each (Present ms) (cond b (s ∷ l) l)
    with_live s l true e h rest = (record { there = omega arith; live = e }, rest)
    with_live s l false e h rest = rest

    old : (ss : List Submission) → Each (Before (length ms)) ss → Each (Present ms) (filter (is_live ms) ss)
    old [] b = tt
    old (s ∷ ss) b = with_live s (filter (is_live ms) ss) (is_live ms s) refl b.0 (old ss b.1)

-- ---- with their unlinkers

pub submits-is : (ms : List Mark) (ss : List Submission) → map (λ p. p.submit) (map (pending ms) ss) ≡ ss
submits-is ms [] = refl
submits-is ms (s ∷ ss) = ap (λ (l : List Submission). s ∷ l) (submits-is ms ss)

-- a new one was not asked back
pub present-is : (first : ℕ) (ms : List Mark) (e : Effect) → IsPlaced (length ms) e → map (pending ms) (live ms) ++ map fresh (opened e) ≡ map (pending ms) (live ms ++ opened e)
present-is first ms e h =
    ap (λ (l : List Pending). map (pending ms) (live ms) ++ l)
    (map-same fresh (pending ms) (opened e)
    (Each-weaker (λ s. s.place ≡ length ms) (λ s. fresh s ≡ pending ms s) (λ s p. ap (λ (u : Option ℕ). record { submit = s; unlinker = u }) (sym (unopened-unlinker ms s (omega (arith, p))))) (opened e) h))
    ∙ sym (map-append (pending ms) (live ms) (opened e))

pub asked : (ms : List Mark) (m : Mark) (s : Submission) → Present ms s → pending (m ∷ ms) s ≡ ask m.what (pending ms s)
asked ms m s p =
    ap (λ (b : Bool). record { submit = s; unlinker = option_or (unlinker ms s) (cond (b && is_live ms s) (asks m.what s) None) }) (within s.place (length ms) p.there)
    ∙ ap (λ (b : Bool). record { submit = s; unlinker = option_or (unlinker ms s) (cond b (asks m.what s) None) }) p.live

pub pendings-is : (first : ℕ) (ms : List Mark) (m : Mark) → IsWell (m ∷ ms) → map (pending (m ∷ ms)) (live (m ∷ ms)) ≡ live_after (state_of first ms) m.what
pendings-is first ms m w =
    ap (map (pending (m ∷ ms))) (live-is ms m w)
    ∙ map-same (pending (m ∷ ms)) (λ s. ask m.what (pending ms s)) kept
    (Each-weaker (Present ms) (λ s. pending (m ∷ ms) s ≡ ask m.what (pending ms s)) (asked ms m) kept
    (Each-filter (Present ms) (λ s. is_none (ends m.what s)) (live ms ++ opened m.what) (present-each ms m.what w.1 w.0)))
    ∙ sym (map-map (ask m.what) (pending ms) kept)
    ∙ ap (map (ask m.what)) (sym (filter-map (λ p. is_none (ends m.what p.submit)) (pending ms) (live ms ++ opened m.what)))
    ∙ ap (λ (l : List Pending). map (ask m.what) (filter (λ p. is_none (ends m.what p.submit)) l)) (sym (present-is first ms m.what w.0))
  where
    kept : List Submission
    kept = filter (λ s. is_none (ends m.what s)) (live ms ++ opened m.what)

-- ---- the whole state

pub state-after : (first : ℕ) (ms : List Mark) (m : Mark) → IsWell (m ∷ ms) → state_of first (m ∷ ms) ≡ with_mark (state_of first ms) m
state-after first ms m w =
    ap (λ (l : List Pending). record (state_of first (m ∷ ms)) { live = l }) (pendings-is first ms m w)
    ∙ ap (λ (l : List Submission). record (with_mark (state_of first ms) m) { abandoned = abandoned_after m.what l (state_of first ms).abandoned }) (sym (submits-is ms (live ms)))
