-- The earliest of the requests that pass a test, and those of one lane.
use Rattle.std.proofs.Common.{◌≡◌, ◌==◌, ◌&&◌, ℕ, zero, suc, ◌+◌, ◌<◌, ◌≤◌, Bool, false, cond, List, [], ◌∷◌, ◌++◌, length, map, filter, get_or, slice_get, Option, Some, None, refl, ap, sym, ◌∙◌, arith, inl, inr, option_map}
use Rattle.std.specs.Bool.{⊤}
use Rattle.std.specs.List.{position_or_len}
use Rattle.std.proofs.lemmas.Bool.{eq-eqb, ne_eqb, cases_eq, cases_Bool}
use Rattle.urb_arena.specs.Lanes.{find_in, ByKey}
use Rattle.unlink_race.specs.declared.live.Live.{Live}
use Rattle.unlink_race.specs.Inner.Earliest.{passing, earliest}
use Rattle.unlink_race.specs.Inner.Lane.{lane_of}
use Rattle.unlink_race.specs.Inner.Listed.{IsKeyed, listed}
use Rattle.unlink_race.specs.Inner.Placed.{keys_in, ArePlaced}
use Rattle.unlink_race.proofs.Placing.{keys}
use Rattle.unlink_race.proofs.Rows.{entry_of}
use Rattle.unlink_race.proofs.Walks.{Entries, values, onward}

abbrev key_of : ℕ × Live → ℕ
key_of r = r.0

abbrev pub lives : List (ℕ × Live) → List Live
lives es = map (λ e. e.1) es

abbrev pub ranks : List (ℕ × Live) → List ℕ
ranks es = map (λ e. e.0) es

-- ---- by its rank it is found at its place

pub record At (test : Live → Bool) (es : List (ℕ × Live)) (rank : ℕ) : Type 0 where
  pub place : ℕ
  pub within : place < length es
  pub is : get_or (ranks es) place 0 ≡ rank
  pub first : position_or_len test (lives es) ≡ place

pub rank_placed : (test : Live → Bool) (es : List (ℕ × Live)) (rank : ℕ) → earliest test es ≡ Some rank → At test es rank
rank_placed test [] rank is = let e : None ≡ Some rank = is in absurd (cc)
rank_placed test (e ∷ es) rank is =
    elim (cases_Bool (test e.1)) [
      | inl here ↦ (
          let same : Some e.0 ≡ Some rank = rw here at is in
          record { place = 0; within = omega arith; is = cc; first = rw here refl })
      | inr away ↦ (
          let later = rank_placed test es rank (rw away at is) in
          let next : 1 + later.place ≡ suc later.place = omega arith in
          let inside = later.within in
          record { place = suc later.place; within = omega (arith, inside); is = later.is; first = rw away (ap (λ n. 1 + n) later.first ∙ next) })
    ]

pub none_placed : (test : Live → Bool) (es : List (ℕ × Live)) → earliest test es ≡ None → length es ≤ position_or_len test (lives es)
none_placed test [] is = omega arith
none_placed test (e ∷ es) is =
    elim (cases_Bool (test e.1)) [
      | inl here ↦ (let same : Some e.0 ≡ None = rw here at is in absurd (cc))
      | inr away ↦ (let later = none_placed test es (rw away at is) in rw away (omega (arith, later)))
    ]

-- ---- it is the first of those that pass

abbrev pub first_rank : List (ℕ × Live) → Option ℕ
first_rank es = option_map (λ (e : ℕ × Live). e.0) (slice_get es 0)

pub earliest_passing : (test : Live → Bool) (es : List (ℕ × Live)) → earliest test es ≡ first_rank (passing test es)
earliest_passing test [] = refl
earliest_passing test (e ∷ es) =
    elim (cases_Bool (test e.1)) [
      | inl here ↦ rw here refl
      | inr away ↦ rw away (earliest_passing test es)
    ]

-- the requests of those that pass are those of all that pass
pub lives_passing : (test : Live → Bool) (es : List (ℕ × Live)) → lives (passing test es) ≡ filter test (lives es)
lives_passing test [] = refl
lives_passing test (e ∷ es) =
    elim (cases_Bool (test e.1)) [
      | inl here ↦ rw here (ap (λ xs. e.1 ∷ xs) (lives_passing test es))
      | inr away ↦ rw away (lives_passing test es)
    ]

-- ---- the requests of a lane are those of the rows that belong there

abbrev pub Backed : (ℕ → Option (ℕ × Live)) → Entries → Type 0
Backed g [] = ⊤
Backed g (p ∷ ps) = (g p.0 ≡ Some p.1) × Backed g ps

-- where each key leads to its pair
pub all_backed : (pss : List Entries) → ByKey pss → (l : ℕ) (xs ps : Entries) → get_or pss l [] ≡ xs ++ ps → Backed (λ k. find_in k pss) ps
all_backed pss by_key l xs [] is = tt
all_backed pss by_key l xs (p ∷ ps) is = ((by_key l xs p ps is).0, all_backed pss by_key l (xs ++ p ∷ []) ps (is ∙ onward xs p ps))

pub keys_home : (lane : ℕ) (pss : List Entries) (l : ℕ) (rows : List (ℕ × Live)) → l < length pss → ArePlaced lane (map keys pss) rows → keys (get_or pss l []) ≡ keys_in (lane + l) rows
keys_home lane [] l rows within placed = absurd (omega (arith, within))
keys_home lane (ps ∷ pss) zero rows within placed = let e : lane + 0 ≡ lane = omega arith in placed.0 ∙ ap (λ n. keys_in n rows) (sym e)
keys_home lane (ps ∷ pss) (suc l) rows within placed = let e : lane + suc l ≡ lane + 1 + l = omega arith in keys_home (lane + 1) pss l rows (omega (arith, within)) placed.1 ∙ ap (λ n. keys_in n rows) (sym e)

-- what passes and belongs in this lane
abbrev pub and_in : (Live → Bool) → ℕ → Live → Bool
and_in test lane x = (lane_of x.kind == lane) && test x

-- the rows have the requests' kinds
abbrev pub Alike : List (ℕ × Live) → List (ℕ × Live) → Type 0
Alike rows es = map (λ r. r.1.kind) rows ≡ map (λ e. e.1.kind) es

module _ (test : Live → Bool) (g : ℕ → Option (ℕ × Live)) (lane : ℕ) where
  abbrev Later : List (ℕ × Live) → Type 0
  Later rows = (ps : Entries) → Alike rows (listed key_of g rows) → Backed g ps → keys ps ≡ keys_in lane rows → passing test (values ps) ≡ passing (and_in test lane) (listed key_of g rows)

  pub lane_passing : (rows : List (ℕ × Live)) (ps : Entries) → IsKeyed key_of g rows → Alike rows (listed key_of g rows) → Backed g ps → keys ps ≡ keys_in lane rows → passing test (values ps) ≡ passing (and_in test lane) (listed key_of g rows)
  lane_passing [] [] kept alike backed same = refl
  lane_passing [] (p ∷ ps) kept alike backed same = absurd (cc)
  lane_passing (r ∷ rows) ps kept alike backed same =
      let e = entry_of key_of g r kept.0 in
      by_entry (λ qs rest behind tail. lane_passing rows qs kept.2 rest behind tail) e.0 e.1
    where
      here : Later rows → (x : ℕ × Live) → g r.0 ≡ Some x → x.1.kind ≡ r.1.kind → Alike rows (listed key_of g rows) → lane_of r.1.kind ≡ lane → (qs : Entries) → Backed g qs → keys qs ≡ r.0 ∷ keys_in lane rows → passing test (values qs) ≡ passing (and_in test lane) (x ∷ listed key_of g rows)
      here later x is kind rest at [] backed same = absurd (cc)
      here later x is kind rest at (q ∷ qs) backed same =
          let head : q.0 ≡ r.0 = cc in
          let tail : keys qs ≡ keys_in lane rows = cc in
          let both : Some q.1 ≡ Some x = sym backed.0 ∙ ap g head ∙ is in
          let this : q.1 ≡ x = cc in
          rw (this, eq-eqb (lane_of x.1.kind) lane (ap lane_of kind ∙ at)) (ap (λ (es : List (ℕ × Live)). cond (test x.1) (x ∷ es) es) (later qs rest backed.1 tail))

      by_entry : Later rows → (x : ℕ × Live) → g r.0 ≡ Some x → passing test (values ps) ≡ passing (and_in test lane) (listed key_of g (r ∷ rows))
      by_entry later x is =
          let all : Alike (r ∷ rows) (x ∷ listed key_of g rows) = rw is at alike in
          let kind : r.1.kind ≡ x.1.kind = cc in
          let rest : Alike rows (listed key_of g rows) = cc in
          rw is (
          elim (cases_eq (lane_of r.1.kind) lane) [
            | inl at ↦ here later x is (sym kind) rest at ps backed (rw (eq-eqb (lane_of r.1.kind) lane at) at same)
            | inr away ↦ (
                let other : (lane_of x.1.kind == lane) ≡ false = ap (λ k. lane_of k == lane) (sym kind) ∙ ne_eqb (lane_of r.1.kind) lane away in
                rw other (later ps rest backed (rw (ne_eqb (lane_of r.1.kind) lane away) at same)))
          ])
