-- A draw gives an id that isn't in flight, and the ids of one item differ.
use Rattle.std.proofs.Common.{◌≡◌, ℕ, zero, suc, ◌+◌, ◌<◌, ◌≤◌, Bool, true, false, cond, not, eqb, List, [], ◌∷◌, length, filter, refl, ap, subst, ◌∙◌, arith, inl, inr, ◌⊎◌, ◌||◌}
use Rattle.std.specs.List.{list_any, IsDistinct, AllByRecursion}
use Rattle.std.specs.Cmp.{nat_eq_equiv}
use Rattle.std.proofs.lemmas.Bool.{cases_Bool, cases_lt, false≢true}
use Rattle.std.proofs.lemmas.Bool.Decides.{nat_tests}
use Rattle.std.proofs.lemmas.List.Filters.{length-filter_both}
use Rattle.std.proofs.lemmas.Map.Made.{length-le_from_is_member}
use Rattle.gate_history.specs.state.Ids.{id_after, holds, free_from, draw, draws, Fits, AreFresh}
use Rattle.gate_history.proofs.lemmas.state.Cycle.{turn, after-fits, turn-distinct, length-turn}

pub free_from-fits : (m : ℕ) (flying : List ℕ) (n id : ℕ) → Fits m id → Fits m (free_from m flying n id)
free_from-fits m flying zero id f = f
free_from-fits m flying (suc n) id f =
    elim (holds flying id) as (λ (b : Bool). Fits m (cond b (free_from m flying n (id_after m id)) id))
    [ true ↦ free_from-fits m flying n (id_after m id) (after-fits m id (omega (arith, f.low, f.high))) | false ↦ f ]

-- each id of the list passes
abbrev AllPass : (ℕ → Bool) → List ℕ → Type 0
AllPass p ids = (q : ℕ) → list_any (eqb q) ids ≡ true → p q ≡ true

pass-cons : (p : ℕ → Bool) (id : ℕ) (ids : List ℕ) → p id ≡ true → AllPass p ids → AllPass p (id ∷ ids)
pass-cons p id ids here rest q = by (eqb q id) refl
  where
    by : (b : Bool) → eqb q id ≡ b → (b || list_any (eqb q) ids) ≡ true → p q ≡ true
    by true same e = let s : q ≡ id = grind (arith, nat_tests) in rw s here
    by false other e = rest q e

-- what is found is free, unless all n + 1 candidates are in flight
found_or_all : (m : ℕ) (flying : List ℕ) (n id : ℕ) → (holds flying (free_from m flying n id) ≡ false) ⊎ AllPass (holds flying) (turn m id (suc n))
found_or_all m flying zero id =
    elim (cases_Bool (holds flying id)) [
      | inl here ↦ inr (pass-cons (holds flying) id [] here (λ q e. absurd (false≢true e)))
      | inr free ↦ inl free
    ]
found_or_all m flying (suc n) id =
    elim (cases_Bool (holds flying id)) [
      | inl here ↦ rw here (elim (found_or_all m flying n (id_after m id)) [ inl free ↦ inl free | inr all ↦ inr (pass-cons (holds flying) id (turn m (id_after m id) (suc n)) here all) ])
      | inr free ↦ rw free (inl free)
    ]

-- with more ids than are in flight one of the candidates is free
pub free_from-free : (m : ℕ) (flying : List ℕ) (id : ℕ) → Fits m id → length flying < m → holds flying (free_from m flying (length flying) id) ≡ false
free_from-free m flying id f room =
    elim (found_or_all m flying (length flying) id) [
      | inl free ↦ free
      | inr all ↦
          let n = length-turn m id (suc (length flying)) in
          let k = length-le_from_is_member nat_eq_equiv (turn m id (suc (length flying))) flying (turn-distinct m id (suc (length flying)) f (omega arith)) all in
          absurd (omega arith)
    ]

pub draw-fits : (m : ℕ) (flying : List ℕ) (last : ℕ) → 1 ≤ m → Fits m (draw m flying last)
draw-fits m flying last some = free_from-fits m flying (length flying) (id_after m last) (after-fits m last some)

pub draw-free : (m : ℕ) (flying : List ℕ) (last : ℕ) → length flying < m → holds flying (draw m flying last) ≡ false
draw-free m flying last room = free_from-free m flying (id_after m last) (after-fits m last (omega arith)) room

-- ---- the ids of one item: they are the free ones of so many turns

abbrev free : List ℕ → ℕ → Bool
free flying id = not (holds flying id)

abbrev join : ℕ → ℕ → ℕ
join zero rest = suc rest
join (suc k) rest = suc (join k rest)

-- the turns of one draw, and then others
record Skips (m : ℕ) (flying : List ℕ) (id found : ℕ) : Type 0 where
  turns : ℕ
  then_rest : (rest : ℕ) → filter (free flying) (turn m id (join turns rest)) ≡ found ∷ filter (free flying) (turn m (id_after m found) rest)

skips : (m : ℕ) (flying : List ℕ) (n id : ℕ) → holds flying (free_from m flying n id) ≡ false → Skips m flying id (free_from m flying n id)
skips m flying zero id h = record { turns = zero; then_rest = λ rest. rw h refl }
skips m flying (suc n) id h =
    elim (cases_Bool (holds flying id)) [
      | inl here ↦
          let later = skips m flying n (id_after m id) (rw here at h) in
          rw here record { turns = suc later.turns; then_rest = λ rest. rw here (later.then_rest rest) }
      | inr none ↦ rw none record { turns = zero; then_rest = λ rest. rw none refl }
    ]

record Turns (m : ℕ) (flying : List ℕ) (id : ℕ) (ids : List ℕ) : Type 0 where
  turns : ℕ
  are : filter (free flying) (turn m id turns) ≡ ids

turns_of : (m : ℕ) (flying : List ℕ) (last n : ℕ) → length flying < m → Turns m flying (id_after m last) (draws m flying last n)
turns_of m flying last zero room = record { turns = zero; are = refl }
turns_of m flying last (suc n) room =
    let one = skips m flying (length flying) (id_after m last) (draw-free m flying last room) in
    let others = turns_of m flying (draw m flying last) n room in
    record {
      turns = join one.turns others.turns;
      are = one.then_rest others.turns ∙ ap (λ (l : List ℕ). draw m flying last ∷ l) others.are;
    }

-- ---- at most m turns

distinct-filter : (p : ℕ → Bool) (xs : List ℕ) → IsDistinct eqb xs → IsDistinct eqb (filter p xs)
unfolding IsDistinct
distinct-filter p [] d = tt
distinct-filter p (x ∷ xs) d =
    elim (p x) as (λ (b : Bool). IsDistinct eqb (cond b (x ∷ filter p xs) (filter p xs))) [
      | true ↦ (keep xs d.0, distinct-filter p xs d.1)
      | false ↦ distinct-filter p xs d.1
    ]
  where
    keep : (ys : List ℕ) → AllByRecursion (λ y. eqb x y ≡ false) ys → AllByRecursion (λ y. eqb x y ≡ false) (filter p ys)
    keep [] a = tt
    keep (y ∷ ys) a = elim (p y) as (λ (b : Bool). AllByRecursion (λ z. eqb x z ≡ false) (cond b (y ∷ filter p ys) (filter p ys))) [ true ↦ (a.0, keep ys a.1) | false ↦ keep ys a.1 ]

filter-pass : (p : ℕ → Bool) (xs : List ℕ) → AllPass p (filter p xs)
filter-pass p [] = λ q e. absurd (false≢true e)
filter-pass p (x ∷ xs) =
    elim (cases_Bool (p x)) [
      | inl yes_here ↦ rw yes_here (pass-cons p x (filter p xs) yes_here (filter-pass p xs))
      | inr not_here ↦ rw not_here (filter-pass p xs)
    ]

few_held : (flying xs : List ℕ) → IsDistinct eqb xs → length (filter (holds flying) xs) ≤ length flying
few_held flying xs d = length-le_from_is_member nat_eq_equiv (filter (holds flying) xs) flying (distinct-filter (holds flying) xs d) (filter-pass (holds flying) xs)

fewer : (m : ℕ) (p : ℕ → Bool) (id a b : ℕ) → a ≤ b → length (filter p (turn m id a)) ≤ length (filter p (turn m id b))
fewer m p id zero b h = omega arith
fewer m p id (suc a) zero h = absurd (omega arith)
fewer m p id (suc a) (suc b) h =
    let rest = fewer m p (id_after m id) a b (omega arith) in
    elim (p id) as (λ (c : Bool). length (cond c (id ∷ filter p (turn m (id_after m id) a)) (filter p (turn m (id_after m id) a))) ≤ length (cond c (id ∷ filter p (turn m (id_after m id) b)) (filter p (turn m (id_after m id) b))))
    [ true ↦ omega arith | false ↦ rest ]

-- so many free ones come within m turns
within : (m : ℕ) (flying : List ℕ) (id k : ℕ) → Fits m id → length (filter (free flying) (turn m id k)) + length flying < m → k ≤ m
within m flying id k f room =
    elim (cases_lt m k) [
      | inl over ↦
          let held = few_held flying (turn m id m) (turn-distinct m id m f (omega arith)) in
          let both = length-filter_both (holds flying) (free flying) (λ x. refl) (turn m id m) in
          let less = fewer m (free flying) id m k (omega arith) in
          let all = length-turn m id m in
          absurd (omega arith)
      | inr short ↦ short
    ]

pub length-draws : (m : ℕ) (flying : List ℕ) (last n : ℕ) → length (draws m flying last n) ≡ n
length-draws m flying last zero = refl
length-draws m flying last (suc n) = ap suc (length-draws m flying (draw m flying last) n)

draws-distinct : (m : ℕ) (flying : List ℕ) (last n : ℕ) → n + length flying < m → IsDistinct eqb (draws m flying last n)
draws-distinct m flying last n room =
    let t = turns_of m flying last n (omega arith) in
    let fits = after-fits m last (omega arith) in
    let long = ap length t.are ∙ length-draws m flying last n in
    let short = within m flying (id_after m last) t.turns fits (omega arith) in
    subst (IsDistinct eqb) t.are (distinct-filter (free flying) (turn m (id_after m last) t.turns) (turn-distinct m (id_after m last) t.turns fits short))

pub draws-fit : (m : ℕ) (flying : List ℕ) (last n : ℕ) → 1 ≤ m → AllByRecursion (Fits m) (draws m flying last n)
draws-fit m flying last zero some = tt
draws-fit m flying last (suc n) some = (draw-fits m flying last some, draws-fit m flying (draw m flying last) n some)

draws-free : (m : ℕ) (flying : List ℕ) (last n : ℕ) → length flying < m → AllByRecursion (λ id. holds flying id ≡ false) (draws m flying last n)
draws-free m flying last zero room = tt
draws-free m flying last (suc n) room = (draw-free m flying last room, draws-free m flying (draw m flying last) n room)

pub draws-fresh : (m : ℕ) (flying : List ℕ) (last n : ℕ) → n + length flying < m → AreFresh m flying (draws m flying last n)
draws-fresh m flying last n room = record {
  fit = draws-fit m flying last n (omega arith);
  free = draws-free m flying last n (omega arith);
  differ = draws-distinct m flying last n room;
}
