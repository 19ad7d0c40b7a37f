-- Pairs in rising order of their numbers: one is put in, one is looked for, one is taken out.
use Rattle.std.proofs.Common.{◌≡◌, ◌≢◌, ◌==◌, ℕ, zero, suc, ◌+◌, ◌-◌, ◌<◌, ◌≤◌, Bool, false, cond, List, [], ◌∷◌, ◌++◌, length, take, drop, get_or, Some, None, refl, ap, sym, ◌∙◌, arith, inl, inr}
use Rattle.std.specs.List.{find, insert, list_any, position_or_len, remove, slice_get}
use Rattle.std.specs.List.Sorted.{IsNonDecreasingBy}
use Rattle.std.proofs.lemmas.Bool.{eq-eqb, ne_eqb, cases_eq, cases_Bool, cases_lt}
use Rattle.std.proofs.lemmas.List.{length-drop, take_all}
use Rattle.std.proofs.lemmas.List.Edits.{length-remove, get_or-remove_below, get_or-remove_above}
use Rattle.unlink_race.specs.Inner.Indexed.{with_number, Before, Behind}
use Rattle.unlink_race.proofs.Indexes.{Pairs}

abbrev pub number_of : ℕ × ℕ → ℕ
number_of p = p.0

-- ---- a pair is put behind those of its number

none_of : (n : ℕ) (ps : Pairs) → ((k : ℕ) (d : ℕ × ℕ) → k < length ps → number_of (get_or ps k d) ≢ n) → with_number n ps ≡ []
none_of n [] other = refl
none_of n (p ∷ ps) other =
    let away : p.0 ≢ n = other 0 p (omega arith) in
    rw (ne_eqb p.0 n away) (none_of n ps (λ k d within. other (suc k) d (omega (arith, within))))

pub inserted : (ps : Pairs) (i m key n : ℕ) → i ≤ length ps → ((k : ℕ) (d : ℕ × ℕ) → i ≤ k → k < length ps → m < number_of (get_or ps k d)) → with_number n (insert ps i (m, key)) ≡ with_number n (ps ++ (m, key) ∷ [])
inserted [] zero m key n within behind = refl
inserted [] (suc i) m key n within behind = absurd (omega (arith, within))
inserted (p ∷ ps) zero m key n within behind =
    elim (cases_eq m n) [
      | inl same ↦ (
          let all : with_number n (p ∷ ps) ≡ [] = none_of n (p ∷ ps) (λ k d inside is. (let more = behind k d (omega arith) inside in omega (arith, more, is, same))) in
          first_of n m key same (p ∷ ps) all)
      | inr other ↦ rw (ne_eqb m n other) (no_more n m key other (p ∷ ps))
    ]
  where
    alone : (n m key : ℕ) → m ≡ n → (qs : Pairs) → with_number n qs ≡ [] → with_number n (qs ++ (m, key) ∷ []) ≡ (m, key) ∷ []
    alone n m key same [] all = rw (eq-eqb m n same) refl
    alone n m key same (q ∷ qs) all =
        elim (cases_Bool (q.0 == n)) [
          | inl here ↦ (let e : q ∷ with_number n qs ≡ [] = rw here at all in absurd (cc))
          | inr other ↦ rw other (alone n m key same qs (rw other at all))
        ]

    first_of : (n m key : ℕ) → m ≡ n → (qs : Pairs) → with_number n qs ≡ [] → with_number n ((m, key) ∷ qs) ≡ with_number n (qs ++ (m, key) ∷ [])
    first_of n m key same qs all = rw (eq-eqb m n same) (ap (λ rs. (m, key) ∷ rs) all ∙ sym (alone n m key same qs all))

    no_more : (n m key : ℕ) → m ≢ n → (qs : Pairs) → with_number n qs ≡ with_number n (qs ++ (m, key) ∷ [])
    no_more n m key other [] = rw (ne_eqb m n other) refl
    no_more n m key other (q ∷ qs) = ap (λ rs. cond (q.0 == n) (q ∷ rs) rs) (no_more n m key other qs)
inserted (p ∷ ps) (suc i) m key n within behind =
    ap (λ rs. cond (p.0 == n) (p ∷ rs) rs) (inserted ps i m key n (omega (arith, within)) (λ k d le inside. behind (suc k) d (omega (arith, le)) (omega (arith, inside))))

-- ---- one is looked for

find_none : (n : ℕ) (ps : Pairs) → ((k : ℕ) (d : ℕ × ℕ) → k < length ps → number_of (get_or ps k d) ≢ n) → find (λ (p : ℕ × ℕ). p.0 == n) ps ≡ None
find_none n [] other = refl
find_none n (p ∷ ps) other =
    let away : p.0 ≢ n = other 0 p (omega arith) in
    rw (ne_eqb p.0 n away) (find_none n ps (λ k d within. other (suc k) d (omega (arith, within))))

pub find_past : (ps : Pairs) (i n : ℕ) → length ps ≤ i → Before ps i n → find (λ (p : ℕ × ℕ). p.0 == n) ps ≡ None
find_past ps i n past before = find_none n ps (λ k d within is. (let less = before k d (omega (arith, within, past)) in omega (arith, less, is)))

pub find_here : (ps : Pairs) (i n : ℕ) (p : ℕ × ℕ) → IsNonDecreasingBy number_of ps → Before ps i n → Behind ps i n → slice_get ps i ≡ Some p → find (λ (q : ℕ × ℕ). q.0 == n) ps ≡ cond (p.0 == n) (Some p) None
find_here [] i n p up before behind is = absurd (cc)
find_here (q ∷ ps) zero n p up before behind is =
    let e : Some q ≡ Some p = is in
    let same : q ≡ p = cc in
    rw (← same) (
    elim (cases_eq q.0 n) [
      | inl here ↦ rw (eq-eqb q.0 n here) refl
      | inr other ↦ (
          let least : n ≤ q.0 = behind 0 q (omega arith) (omega arith) in
          rw (ne_eqb q.0 n other) (find_none n ps (λ k d within h. (let more : q.0 ≤ number_of (get_or ps k d) = up 0 (suc k) d (omega arith) (omega (arith, within)) in other (omega (arith, more, h, least))))))
    ])
find_here (q ∷ ps) (suc i) n p up before behind is =
    let less : q.0 < n = before 0 q (omega arith) in
    rw (ne_eqb q.0 n (λ h. omega (arith, less, h))) (find_here ps i n p (λ a b d le lt. up (suc a) (suc b) d (omega (arith, le)) (omega (arith, lt))) (λ k d below. before (suc k) d (omega (arith, below))) (λ k d le lt. behind (suc k) d (omega (arith, le)) (omega (arith, lt))) is)

-- ---- one is taken out

module _ {X : Type 0} (p : X → Bool) where
  pub place_behind : (xs : List X) (i : ℕ) → i ≤ length xs → ((k : ℕ) (d : X) → k < i → p (get_or xs k d) ≡ false) → position_or_len p xs ≡ i + position_or_len p (drop i xs)
  place_behind xs zero within none = omega arith
  place_behind [] (suc i) within none = absurd (omega (arith, within))
  place_behind (x ∷ xs) (suc i) within none =
      let away : p x ≡ false = none 0 x (omega arith) in
      let later = place_behind xs i (omega (arith, within)) (λ k d below. none (suc k) d (omega (arith, below))) in
      rw away (omega (arith, later))

  pub any_behind : (xs : List X) (i : ℕ) → i ≤ length xs → ((k : ℕ) (d : X) → k < i → p (get_or xs k d) ≡ false) → list_any p (drop i xs) ≡ list_any p xs
  any_behind xs zero within none = refl
  any_behind [] (suc i) within none = absurd (omega (arith, within))
  any_behind (x ∷ xs) (suc i) within none =
      let away : p x ≡ false = none 0 x (omega arith) in
      rw away (any_behind xs i (omega (arith, within)) (λ k d below. none (suc k) d (omega (arith, below))))

-- what stands from a place on
pub from_place : {X : Type 0} (xs : List X) (i : ℕ) → take (length xs - i) (drop i xs) ≡ drop i xs
from_place xs i = let short = length-drop i xs in take_all (length xs - i) (drop i xs) (omega (arith, short))

-- the others rise still
pub rises_without : {X : Type 0} (n : X → ℕ) (xs : List X) (p : ℕ) → p < length xs → IsNonDecreasingBy n xs → IsNonDecreasingBy n (remove xs p)
rises_without n xs p within up i j d le lt =
    let long = length-remove xs p within in
    elim (cases_lt i p) [
      | inl i_below ↦
          elim (cases_lt j p) [
            | inl j_below ↦ rw (get_or-remove_below xs p d i i_below within, get_or-remove_below xs p d j j_below within) (up i j d le (omega arith))
            | inr j_above ↦ rw (get_or-remove_below xs p d i i_below within, get_or-remove_above xs p d j j_above within) (up i (j + 1) d (omega arith) (omega (arith, long)))
          ]
      | inr i_above ↦
          rw (get_or-remove_above xs p d i i_above within, get_or-remove_above xs p d j (omega arith) within) (up (i + 1) (j + 1) d (omega arith) (omega (arith, long)))
    ]
