-- The wire to the gateway: facts told, and what is stale, as it grows and is read.
use Rattle.std.proofs.Common.{◌≡◌, ℕ, ◌||◌, Bool, true, false, List, [], ◌∷◌, ◌++◌, Option, refl, sym, ap, ◌∙◌, inl, inr, ◌⊎◌, true≢false}
use Rattle.std.specs.List.{list_any, AllByRecursion as Each}
use Rattle.std.proofs.lemmas.Bool.{both_ways, or_left, or_right, or_parts}
use Rattle.std.proofs.lemmas.List.Folds.{list_any-append}
use Rattle.gate_history.specs.declared.facts.Facts.{Facts}
use Rattle.gate_history.specs.state.Facts.{tell}
use Rattle.gate_history.specs.step.Meaning.{fact_of}
use Rattle.model_device.specs.Meaning.{Meaning}
use Rattle.redir_host.specs.declared.state.host.Host.{Host}
use Rattle.direct_run.specs.Moves.{World}
use Rattle.direct_proof.specs.Meets.{is_bye, is_greeting}
use Rattle.direct_proof.specs.Related.{Farewell}
use Rattle.direct_proof.specs.Session.{Session}
use Rattle.direct_proof.specs.Shared.{Shared}
use Rattle.direct_proof.specs.Tagged.{Tagged, Greeted, on_wire, told}
use Rattle.direct_proof.specs.Stale.{ends, is_stale, Clean}

-- what comes first while nothing but the hellos is on a wire is the greeting
pub early-greets : (b : Tagged) (bs : List Tagged) → (b ∷ bs ≡ Greeted ∷ []) ⊎ (b ∷ bs ≡ []) → is_greeting b ≡ true
early-greets b bs (inl e) = ap is_greeting (heads e)
  where
    heads : b ∷ bs ≡ Greeted ∷ [] → b ≡ Greeted
    heads z = cc
early-greets b bs (inr e) = absurd (cc)

pub told-append : (f : Facts) (bs cs : List Tagged) → told f (bs ++ cs) ≡ told (told f bs) cs
told-append f [] cs = refl
told-append f (b ∷ bs) cs = told-append (tell f (fact_of (on_wire b).1)) bs cs

join : (p q x y : Bool) → (p ≡ true → (q || y) ≡ true) → (p || x) ≡ true → (q || (x || y)) ≡ true
join p true x y h k = refl
join true false x y h k = or_right x y (h refl)
join false false x y h k = or_left x y k

pub clean-append : (fence : Option ℕ) (down : ℕ → Bool) (p q : Bool) (bs cs : List Tagged) → (p ≡ true → (q || list_any (ends fence) cs) ≡ true) → Clean fence down p bs → Clean fence down q cs → Clean fence down q (bs ++ cs)
clean-append fence down p q [] cs h c k = k
clean-append fence down p q (b ∷ bs) cs h c k =
    ((λ s. ap (λ (z : Bool). q || z) (list_any-append (ends fence) (b ∷ bs) cs) ∙ join p q (list_any (ends fence) (b ∷ bs)) (list_any (ends fence) cs) h (c.0 s)), clean-append fence down p q bs cs h c.1 k)

pub clean-true : (fence : Option ℕ) (down : ℕ → Bool) (bs : List Tagged) → Clean fence down true bs
clean-true fence down [] = tt
clean-true fence down (b ∷ bs) = ((λ s. refl), clean-true fence down bs)

pub clean-more : (fence : Option ℕ) (down : ℕ → Bool) (p q : Bool) → (p ≡ true → q ≡ true) → (bs : List Tagged) → Clean fence down p bs → Clean fence down q bs
clean-more fence down p true h bs c = clean-true fence down bs
clean-more fence down false false h bs c = c
clean-more fence down true false h bs c = absurd (true≢false (sym (h refl)))

-- where no change is under way, nothing is stale
pub silent : (fence : Option ℕ) (down : ℕ → Bool) (bs : List Tagged) → Clean fence down false bs → list_any (ends fence) bs ≡ false → Each (λ (b : Tagged). is_stale down b ≡ false) bs
silent fence down [] c e = tt
silent fence down (b ∷ bs) c e =
    let parts = or_parts (ends fence b) (list_any (ends fence) bs) e in
    (go e (is_stale down b) refl, silent fence down bs c.1 parts.1)
  where
    go : list_any (ends fence) (b ∷ bs) ≡ false → (x : Bool) → is_stale down b ≡ x → x ≡ false
    go none true h = absurd (both_ways (list_any (ends fence) (b ∷ bs)) none (c.0 h))
    go none false h = refl

-- ---- the first of what comes is read

pub farewell-read : {S : Type 0} (h : Host S) (b : Tagged) (bs : List Tagged) → Farewell h (b ∷ bs) → Farewell h bs
farewell-read h b bs f = record {
  still = f.still;
  bye = λ z. (or_parts (is_bye b) (list_any is_bye bs) (f.bye z)).1;
  bye_last = f.bye_last.1;
}

-- the gateway has its fact
pub session-read : {S : Type 0} (m : Meaning S) (w : World S) (j : Shared) (b : Tagged) (bs : List Tagged) → Session m w (record j { back = b ∷ bs }) → Session m (record w { gate = record w.gate { facts = tell w.gate.facts (fact_of (on_wire b).1) } }) (record j { back = bs })
session-read m w j b bs s = record {
  table = s.table;
  faces = s.faces;
  clean = s.clean.1;
  quits = s.quits;
  trails = s.trails;
  starts = s.starts;
  kinds = s.kinds;
  start_kinds = s.start_kinds;
}
