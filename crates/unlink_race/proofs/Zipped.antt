-- Keys with their requests, as one comes, as one goes, and as one is written anew.
use Rattle.std.proofs.Common.{◌≡◌, ℕ, zero, suc, ◌+◌, List, [], ◌∷◌, ◌++◌, length, map, set, Option, Some, refl, ap, sym, ◌∙◌, arith, inl, inr}
use Rattle.std.specs.List.{remove, slice_get, zip}
use Rattle.std.proofs.lemmas.Bool.{ne_eqb, eq-eqb, cases_eq}
use Rattle.unlink_race.specs.declared.live.Live.{Live}
use Rattle.unlink_race.specs.Inner.Lane.{lane_of}
use Rattle.urb_arena.specs.Distinct.{Absent, Distinct, itself}
use Rattle.unlink_race.specs.Inner.Listed.{IsKeyed, listed}
use Rattle.unlink_race.specs.Inner.Placed.{keys_in, AreBelow, ArePlaced}
use Rattle.unlink_race.proofs.Rows.{entry_of}

abbrev pub key_of : ℕ × Live → ℕ
key_of r = r.0

pub zip_pushed : (ks : List ℕ) (xs : List Live) (k : ℕ) (x : Live) → length ks ≡ length xs → zip (ks ++ k ∷ []) (xs ++ x ∷ []) ≡ zip ks xs ++ (k, x) ∷ []
zip_pushed [] [] k x long = refl
zip_pushed [] (y ∷ xs) k x long = absurd (omega (arith, long))
zip_pushed (j ∷ ks) [] k x long = absurd (omega (arith, long))
zip_pushed (j ∷ ks) (y ∷ xs) k x long = ap (λ rs. (j, y) ∷ rs) (zip_pushed ks xs k x (omega (arith, long)))

zip_none : (ks : List ℕ) → zip {X = Live} ks [] ≡ []
zip_none [] = refl
zip_none (k ∷ ks) = refl

pub zip_removed : (ks : List ℕ) (xs : List Live) (i : ℕ) → zip (remove ks i) (remove xs i) ≡ remove (zip ks xs) i
zip_removed [] xs zero = refl
zip_removed [] xs (suc i) = refl
zip_removed (k ∷ ks) [] zero = zip_none ks
zip_removed (k ∷ ks) [] (suc i) = refl
zip_removed (k ∷ ks) (x ∷ xs) zero = refl
zip_removed (k ∷ ks) (x ∷ xs) (suc i) = ap (λ rs. (k, x) ∷ rs) (zip_removed ks xs i)

pub zip_at : (ks : List ℕ) (xs : List Live) (i k : ℕ) (x : Live) → slice_get ks i ≡ Some k → slice_get xs i ≡ Some x → slice_get (zip ks xs) i ≡ Some (k, x)
zip_at [] xs i k x key live = absurd (cc)
zip_at (j ∷ ks) [] i k x key live = absurd (cc)
zip_at (j ∷ ks) (y ∷ xs) zero k x key live =
    let one : Some j ≡ Some k = key in
    let other : Some y ≡ Some x = live in
    let a : j ≡ k = cc in
    let b : y ≡ x = cc in
    (λ i. Some (a i, b i))
zip_at (j ∷ ks) (y ∷ xs) (suc i) k x key live = zip_at ks xs i k x key live

-- ---- no two have one key

absent_zipped : (k : ℕ) (ks : List ℕ) (xs : List Live) → Absent itself k ks → Absent key_of k (zip ks xs)
absent_zipped k [] xs absent = tt
absent_zipped k (j ∷ ks) [] absent = tt
absent_zipped k (j ∷ ks) (x ∷ xs) absent = (absent.0, absent_zipped k ks xs absent.1)

pub distinct_zipped : (ks : List ℕ) (xs : List Live) → Distinct itself ks → Distinct key_of (zip ks xs)
distinct_zipped [] xs apart = tt
distinct_zipped (k ∷ ks) [] apart = tt
distinct_zipped (k ∷ ks) (x ∷ xs) apart = (absent_zipped k ks xs apart.0, distinct_zipped ks xs apart.1)

module _ {X : Type 0} (g : ℕ → Option X) where
  pub distinct : (ks : List ℕ) → IsKeyed itself g ks → Distinct itself ks
  distinct [] kept = tt
  distinct (k ∷ ks) kept = (kept.1, distinct ks kept.2)

  pub kept_zipped : (ks : List ℕ) (xs : List Live) → IsKeyed itself g ks → IsKeyed key_of g (zip ks xs)
  kept_zipped [] xs kept = tt
  kept_zipped (k ∷ ks) [] kept = tt
  kept_zipped (k ∷ ks) (x ∷ xs) kept = (kept.0, absent_zipped k ks xs kept.1, kept_zipped ks xs kept.2)

  pub listed_zipped : (ks : List ℕ) (xs : List Live) → length ks ≡ length xs → IsKeyed itself g ks → listed key_of g (zip ks xs) ≡ listed itself g ks
  listed_zipped [] xs long kept = refl
  listed_zipped (k ∷ ks) [] long kept = absurd (omega (arith, long))
  listed_zipped (k ∷ ks) (x ∷ xs) long kept =
      let e = entry_of itself g k kept.0 in
      rw e.1 (ap (λ ys. e.0 ∷ ys) (listed_zipped ks xs (omega (arith, long)) kept.2))

-- ---- what each waits for

pub kinds_zipped : (ks : List ℕ) (es : List (ℕ × Live)) → length ks ≡ length es → map (λ (r : ℕ × Live). r.1.kind) (zip ks (map (λ (e : ℕ × Live). e.1) es)) ≡ map (λ (e : ℕ × Live). e.1.kind) es
kinds_zipped [] [] long = refl
kinds_zipped [] (e ∷ es) long = absurd (omega (arith, long))
kinds_zipped (k ∷ ks) [] long = absurd (omega (arith, long))
kinds_zipped (k ∷ ks) (e ∷ es) long = ap (λ kinds. e.1.kind ∷ kinds) (kinds_zipped ks es (omega (arith, long)))

module _ (x y : Live) (kind : y.kind ≡ x.kind) where
  keys_written : (lane : ℕ) (ks : List ℕ) (xs : List Live) (i : ℕ) → slice_get xs i ≡ Some x → keys_in lane (zip ks (set xs i y)) ≡ keys_in lane (zip ks xs)
  keys_written lane [] xs i is = refl
  keys_written lane (k ∷ ks) [] i is = absurd (cc)
  keys_written lane (k ∷ ks) (z ∷ xs) zero is =
      let e : Some z ≡ Some x = is in
      let here : z ≡ x = cc in
      let same : lane_of y.kind ≡ lane_of z.kind = ap lane_of (kind ∙ ap (λ (w : Live). w.kind) (sym here)) in
      elim (cases_eq (lane_of z.kind) lane) [
        | inl stands ↦ rw (eq-eqb (lane_of y.kind) lane (same ∙ stands), eq-eqb (lane_of z.kind) lane stands) refl
        | inr other ↦ rw (ne_eqb (lane_of y.kind) lane (λ h. other (sym same ∙ h)), ne_eqb (lane_of z.kind) lane other) refl
      ]
  keys_written lane (k ∷ ks) (z ∷ xs) (suc i) is =
      elim (cases_eq (lane_of z.kind) lane) [
        | inl stands ↦ rw (eq-eqb (lane_of z.kind) lane stands) (ap (λ js. k ∷ js) (keys_written lane ks xs i is))
        | inr other ↦ rw (ne_eqb (lane_of z.kind) lane other) (keys_written lane ks xs i is)
      ]

  below_written : (lane : ℕ) (ks : List ℕ) (xs : List Live) (i : ℕ) → slice_get xs i ≡ Some x → AreBelow lane (zip ks xs) → AreBelow lane (zip ks (set xs i y))
  below_written lane [] xs i is below = tt
  below_written lane (k ∷ ks) [] i is below = absurd (cc)
  below_written lane (k ∷ ks) (z ∷ xs) zero is below =
      let e : Some z ≡ Some x = is in
      let here : z ≡ x = cc in
      let same : lane_of y.kind ≡ lane_of z.kind = ap lane_of (kind ∙ ap (λ (w : Live). w.kind) (sym here)) in
      let low = below.0 in (omega (arith, same, low), below.1)
  below_written lane (k ∷ ks) (z ∷ xs) (suc i) is below = (below.0, below_written lane ks xs i is below.1)

  pub placed_written : (lane : ℕ) (kss : List (List ℕ)) (ks : List ℕ) (xs : List Live) (i : ℕ) → slice_get xs i ≡ Some x → ArePlaced lane kss (zip ks xs) → ArePlaced lane kss (zip ks (set xs i y))
  placed_written lane [] ks xs i is placed = below_written lane ks xs i is placed
  placed_written lane (js ∷ kss) ks xs i is placed =
      (placed.0 ∙ sym (keys_written lane ks xs i is), placed_written (lane + 1) kss ks xs i is placed.1)
