-- What a change of the lanes and of the rows makes of the places of the requests.
use Rattle.std.proofs.Common.{◌≡◌, ◌≢◌, ◌==◌, ℕ, zero, suc, ◌+◌, ◌<◌, not, List, [], ◌∷◌, ◌++◌, length, map, filter, get_or, set, Option, refl, ap, sym, ◌∙◌, arith, inl, inr}
use Rattle.std.specs.List.{remove}
use Rattle.std.proofs.lemmas.Bool.{ne_eqb, eq-eqb, cases_eq}
use Rattle.std.proofs.lemmas.List.{map-append}
use Rattle.urb_arena.specs.Lanes.{without, replaced}
use Rattle.unlink_race.specs.declared.live.Live.{Live}
use Rattle.unlink_race.specs.Inner.Lane.{lane_of}
use Rattle.urb_arena.specs.Distinct.{Absent}
use Rattle.unlink_race.specs.Inner.Listed.{IsKeyed}
use Rattle.unlink_race.specs.Inner.Placed.{keys_in, AreBelow, ArePlaced}
use Rattle.unlink_race.proofs.Rows.{absent_at}

abbrev key_of : ℕ × Live → ℕ
key_of r = r.0

abbrev pub keys : {X : Type 0} → List (ℕ × X) → List ℕ
keys ps = map (λ p. p.0) ps

-- the keys but this one
abbrev pub but : ℕ → List ℕ → List ℕ
but k ks = filter (λ j. not (j == k)) ks

-- ---- a request comes last in its lane

keys_here : (lane : ℕ) (rows : List (ℕ × Live)) (r : ℕ × Live) → lane_of r.1.kind ≡ lane → keys_in lane (rows ++ r ∷ []) ≡ keys_in lane rows ++ r.0 ∷ []
keys_here lane [] r here = rw (eq-eqb (lane_of r.1.kind) lane here) refl
keys_here lane (s ∷ rows) r here =
    elim (cases_eq (lane_of s.1.kind) lane) [
      | inl same ↦ rw (eq-eqb (lane_of s.1.kind) lane same) (ap (λ ks. s.0 ∷ ks) (keys_here lane rows r here))
      | inr other ↦ rw (ne_eqb (lane_of s.1.kind) lane other) (keys_here lane rows r here)
    ]

keys_elsewhere : (lane : ℕ) (rows : List (ℕ × Live)) (r : ℕ × Live) → lane_of r.1.kind ≢ lane → keys_in lane (rows ++ r ∷ []) ≡ keys_in lane rows
keys_elsewhere lane [] r away = rw (ne_eqb (lane_of r.1.kind) lane away) refl
keys_elsewhere lane (s ∷ rows) r away =
    elim (cases_eq (lane_of s.1.kind) lane) [
      | inl same ↦ rw (eq-eqb (lane_of s.1.kind) lane same) (ap (λ ks. s.0 ∷ ks) (keys_elsewhere lane rows r away))
      | inr other ↦ rw (ne_eqb (lane_of s.1.kind) lane other) (keys_elsewhere lane rows r away)
    ]

below_pushed : (lane : ℕ) (rows : List (ℕ × Live)) (r : ℕ × Live) → lane_of r.1.kind < lane → AreBelow lane rows → AreBelow lane (rows ++ r ∷ [])
below_pushed lane [] r low below = (low, tt)
below_pushed lane (s ∷ rows) r low below = (below.0, below_pushed lane rows r low below.1)

behind_pushed : (lane : ℕ) (kss : List (List ℕ)) (rows : List (ℕ × Live)) (r : ℕ × Live) → lane_of r.1.kind < lane → ArePlaced lane kss rows → ArePlaced lane kss (rows ++ r ∷ [])
behind_pushed lane [] rows r low placed = below_pushed lane rows r low placed
behind_pushed lane (ks ∷ kss) rows r low placed =
    let away : lane_of r.1.kind ≢ lane = λ same. omega (arith, same, low) in
    (placed.0 ∙ sym (keys_elsewhere lane rows r away), behind_pushed (lane + 1) kss rows r (omega (arith, low)) placed.1)

pub placed_pushed : {X : Type 0} (lane : ℕ) (pss : List (List (ℕ × X))) (l : ℕ) (rows : List (ℕ × Live)) (r : ℕ × Live) (x : X) → l < length pss → lane_of r.1.kind ≡ lane + l → ArePlaced lane (map keys pss) rows → ArePlaced lane (map keys (set pss l (get_or pss l [] ++ (r.0, x) ∷ []))) (rows ++ r ∷ [])
placed_pushed lane [] l rows r x within at placed = absurd (omega (arith, within))
placed_pushed lane (ps ∷ pss) zero rows r x within at placed =
    let here : lane_of r.1.kind ≡ lane = omega (arith, at) in
    (map-append (λ p. p.0) ps ((r.0, x) ∷ []) ∙ ap (λ ks. ks ++ r.0 ∷ []) placed.0 ∙ sym (keys_here lane rows r here), behind_pushed (lane + 1) (map keys pss) rows r (omega (arith, here)) placed.1)
placed_pushed lane (ps ∷ pss) (suc l) rows r x within at placed =
    let away : lane_of r.1.kind ≢ lane = λ same. omega (arith, same, at) in
    (placed.0 ∙ sym (keys_elsewhere lane rows r away), placed_pushed (lane + 1) pss l rows r x (omega (arith, within)) (omega (arith, at)) placed.1)

-- ---- a request goes

keys_without : {X : Type 0} (k : ℕ) (ps : List (ℕ × X)) → keys (without k ps) ≡ but k (keys ps)
keys_without k [] = refl
keys_without k (p ∷ ps) =
    elim (cases_eq p.0 k) [
      | inl same ↦ rw (eq-eqb p.0 k same) (keys_without k ps)
      | inr other ↦ rw (ne_eqb p.0 k other) (ap (λ ks. p.0 ∷ ks) (keys_without k ps))
    ]

but_this : (k j : ℕ) (ks : List ℕ) → j ≡ k → but k (j ∷ ks) ≡ but k ks
but_this k j ks same = rw (eq-eqb j k same) refl

but_other : (k j : ℕ) (ks : List ℕ) → j ≢ k → but k (j ∷ ks) ≡ j ∷ but k ks
but_other k j ks other = rw (ne_eqb j k other) refl

but_absent : (k lane : ℕ) (rows : List (ℕ × Live)) → Absent key_of k rows → but k (keys_in lane rows) ≡ keys_in lane rows
but_absent k lane [] absent = refl
but_absent k lane (s ∷ rows) absent =
    elim (cases_eq (lane_of s.1.kind) lane) [
      | inl same ↦ rw (eq-eqb (lane_of s.1.kind) lane same) (but_other k s.0 (keys_in lane rows) absent.0 ∙ ap (λ ks. s.0 ∷ ks) (but_absent k lane rows absent.1))
      | inr other ↦ rw (ne_eqb (lane_of s.1.kind) lane other) (but_absent k lane rows absent.1)
    ]

module _ {X : Type 0} (g : ℕ → Option X) where
  keys_removed : (lane : ℕ) (rows : List (ℕ × Live)) (i : ℕ) (r : ℕ × Live) → i < length rows → r ≡ get_or rows i r → IsKeyed key_of g rows → keys_in lane (remove rows i) ≡ but r.0 (keys_in lane rows)
  keys_removed lane [] i r within read kept = absurd (omega (arith, within))
  keys_removed lane (s ∷ rows) zero r within read kept =
      let k : r.0 ≡ s.0 = ap key_of read in
      let absent : Absent key_of r.0 rows = rw k kept.1 in
      elim (cases_eq (lane_of s.1.kind) lane) [
        | inl same ↦ rw (eq-eqb (lane_of s.1.kind) lane same) (sym (but_this r.0 s.0 (keys_in lane rows) (sym k) ∙ but_absent r.0 lane rows absent))
        | inr other ↦ rw (ne_eqb (lane_of s.1.kind) lane other) (sym (but_absent r.0 lane rows absent))
      ]
  keys_removed lane (s ∷ rows) (suc i) r within read kept =
      let later = keys_removed lane rows i r (omega (arith, within)) read kept.2 in
      let away : s.0 ≢ r.0 = λ same. absent_at key_of s.0 rows i r (omega (arith, within)) read kept.1 (sym same) in
      elim (cases_eq (lane_of s.1.kind) lane) [
        | inl same ↦ rw (eq-eqb (lane_of s.1.kind) lane same) (ap (λ ks. s.0 ∷ ks) later ∙ sym (but_other r.0 s.0 (keys_in lane rows) away))
        | inr other ↦ rw (ne_eqb (lane_of s.1.kind) lane other) later
      ]

  below_removed : (lane : ℕ) (rows : List (ℕ × Live)) (i : ℕ) → AreBelow lane rows → AreBelow lane (remove rows i)
  below_removed lane [] zero below = tt
  below_removed lane [] (suc i) below = tt
  below_removed lane (s ∷ rows) zero below = below.1
  below_removed lane (s ∷ rows) (suc i) below = (below.0, below_removed lane rows i below.1)

  pub placed_removed : (lane : ℕ) (pss : List (List (ℕ × X))) (rows : List (ℕ × Live)) (i : ℕ) (r : ℕ × Live) → i < length rows → r ≡ get_or rows i r → IsKeyed key_of g rows → ArePlaced lane (map keys pss) rows → ArePlaced lane (map keys (map (without r.0) pss)) (remove rows i)
  placed_removed lane [] rows i r within read kept placed = below_removed lane rows i placed
  placed_removed lane (ps ∷ pss) rows i r within read kept placed =
      (keys_without r.0 ps ∙ ap (but r.0) placed.0 ∙ sym (keys_removed lane rows i r within read kept), placed_removed (lane + 1) pss rows i r within read kept placed.1)

-- ---- a value is written anew

keys_written : {X : Type 0} (k : ℕ) (x : X) (ps : List (ℕ × X)) → keys (replaced k x ps) ≡ keys ps
keys_written k x [] = refl
keys_written k x (p ∷ ps) =
    elim (cases_eq p.0 k) [
      | inl same ↦ rw (eq-eqb p.0 k same) (ap (λ ks. p.0 ∷ ks) (keys_written k x ps))
      | inr other ↦ rw (ne_eqb p.0 k other) (ap (λ ks. p.0 ∷ ks) (keys_written k x ps))
    ]

pub keys_replaced : {X : Type 0} (k : ℕ) (x : X) (pss : List (List (ℕ × X))) → map keys (map (replaced k x) pss) ≡ map keys pss
keys_replaced k x [] = refl
keys_replaced k x (ps ∷ pss) = (λ i. keys_written k x ps i ∷ keys_replaced k x pss i)
