-- Each key leads to its pair, since no two rows have one key.
use Rattle.std.proofs.Common.{◌≡◌, ℕ, zero, suc, ◌+◌, ◌<◌, ◌⊎◌, List, [], ◌∷◌, ◌++◌, map, get_or, Option, Some, None, refl, ap, sym, subst, ◌∙◌, arith, inl, inr}
use Rattle.std.proofs.lemmas.Bool.{ne_eqb, eq-eqb, cases_eq}
use Rattle.std.proofs.lemmas.List.{map-append}
use Rattle.std.specs.Option.{option_or}
use Rattle.urb_arena.specs.Lanes.{find, key_after, first_key, search_in, ByKey}
use Rattle.unlink_race.specs.declared.live.Live.{Live}
use Rattle.unlink_race.specs.Inner.Lane.{lane_of}
use Rattle.urb_arena.specs.Distinct.{Absent}
use Rattle.unlink_race.specs.Inner.Listed.{IsKeyed}
use Rattle.unlink_race.specs.Inner.Placed.{keys_in, ArePlaced}
use Rattle.unlink_race.proofs.Placing.{keys}

abbrev key_of : ℕ × Live → ℕ
key_of r = r.0

-- k is one of the keys
abbrev In : ℕ → List ℕ → Type 0
In k [] = ⊥
In k (j ∷ ks) = (j ≡ k) ⊎ In k ks

in_here : (k : ℕ) (ks js : List ℕ) → In k (ks ++ k ∷ js)
in_here k [] js = inl refl
in_here k (j ∷ ks) js = inr (in_here k ks js)

-- ---- of rows that all differ in their keys

not_in : (k lane : ℕ) (rows : List (ℕ × Live)) → Absent key_of k rows → In k (keys_in lane rows) → ⊥
not_in k lane [] absent there = there
not_in k lane (r ∷ rows) absent there =
    elim (cases_eq (lane_of r.1.kind) lane) [
      | inl same ↦ (
          let split : (r.0 ≡ k) ⊎ In k (keys_in lane rows) = rw (eq-eqb (lane_of r.1.kind) lane same) at there in
          elim split [
            | inl here ↦ absent.0 here
            | inr later ↦ not_in k lane rows absent.1 later
          ])
      | inr other ↦ not_in k lane rows absent.1 (rw (ne_eqb (lane_of r.1.kind) lane other) at there)
    ]

module _ {X : Type 0} (g : ℕ → Option X) where
  -- a key stands in one lane
  one_lane : (k a b : ℕ) (rows : List (ℕ × Live)) → IsKeyed key_of g rows → In k (keys_in a rows) → In k (keys_in b rows) → a ≡ b
  one_lane k a b [] kept first second = absurd first
  one_lane k a b (r ∷ rows) kept first second =
      elim (cases_eq (lane_of r.1.kind) a) [
        | inl in_a ↦
            elim (cases_eq (lane_of r.1.kind) b) [
              | inl in_b ↦ sym in_a ∙ in_b
              | inr not_b ↦ (
                  let split : (r.0 ≡ k) ⊎ In k (keys_in a rows) = rw (eq-eqb (lane_of r.1.kind) a in_a) at first in
                  let there : In k (keys_in b rows) = rw (ne_eqb (lane_of r.1.kind) b not_b) at second in
                  elim split [
                    | inl here ↦ absurd (not_in r.0 b rows kept.1 (subst (λ j. In j (keys_in b rows)) (sym here) there))
                    | inr later ↦ one_lane k a b rows kept.2 later there
                  ])
            ]
        | inr not_a ↦ (
            let there : In k (keys_in a rows) = rw (ne_eqb (lane_of r.1.kind) a not_a) at first in
            elim (cases_eq (lane_of r.1.kind) b) [
              | inl in_b ↦ (
                  let split : (r.0 ≡ k) ⊎ In k (keys_in b rows) = rw (eq-eqb (lane_of r.1.kind) b in_b) at second in
                  elim split [
                    | inl here ↦ absurd (not_in r.0 a rows kept.1 (subst (λ j. In j (keys_in a rows)) (sym here) there))
                    | inr later ↦ one_lane k a b rows kept.2 there later
                  ])
              | inr not_b ↦ one_lane k a b rows kept.2 there (rw (ne_eqb (lane_of r.1.kind) b not_b) at second)
            ])
      ]

  -- and once in it
  once : (k lane : ℕ) (rows : List (ℕ × Live)) (ks js : List ℕ) → IsKeyed key_of g rows → keys_in lane rows ≡ ks ++ k ∷ js → In k ks → ⊥
  once k lane [] [] js kept is there = there
  once k lane [] (i ∷ ks) js kept is there = absurd (cc)
  once k lane (r ∷ rows) ks js kept is there =
      elim (cases_eq (lane_of r.1.kind) lane) [
        | inl same ↦ by_head (λ later e. once k lane rows later js kept.2 e) ks (rw (eq-eqb (lane_of r.1.kind) lane same) at is) there
        | inr other ↦ once k lane rows ks js kept.2 (rw (ne_eqb (lane_of r.1.kind) lane other) at is) there
      ]
    where
      by_head : ((later : List ℕ) → keys_in lane rows ≡ later ++ k ∷ js → In k later → ⊥) → (is : List ℕ) → r.0 ∷ keys_in lane rows ≡ is ++ k ∷ js → In k is → ⊥
      by_head behind [] e here = here
      by_head behind (i ∷ is) e (inl here) =
          let head : r.0 ≡ i = cc in
          let tail : keys_in lane rows ≡ is ++ k ∷ js = cc in
          not_in r.0 lane rows kept.1 (subst (λ j. In j (keys_in lane rows)) (sym (head ∙ here)) (rw tail (in_here k is js)))
      by_head behind (i ∷ is) e (inr later) =
          let tail : keys_in lane rows ≡ is ++ k ∷ js = cc in
          behind is tail later

-- ---- what is found by a key

or_none : {Y : Type 0} (o : Option Y) → option_or o None ≡ o
or_none None = refl
or_none (Some y) = refl

none_before : {Y : Type 0} (o q : Option Y) → o ≡ None → option_or o q ≡ q
none_before o q none = ap (λ z. option_or z q) none

module _ {X : Type 0} where
  find_none : (k : ℕ) (ps : List (ℕ × X)) → (In k (keys ps) → ⊥) → find k ps ≡ None
  find_none k [] away = refl
  find_none k (p ∷ ps) away = rw (ne_eqb p.0 k (λ same. away (inl same))) (find_none k ps (λ later. away (inr later)))

  after_none : (k : ℕ) (ps : List (ℕ × X)) → (In k (keys ps) → ⊥) → key_after k ps ≡ None
  after_none k [] away = refl
  after_none k (p ∷ ps) away = rw (ne_eqb p.0 k (λ same. away (inl same))) (after_none k ps (λ later. away (inr later)))

  find_here : (xs : List (ℕ × X)) (p : ℕ × X) (ys : List (ℕ × X)) → (In p.0 (keys xs) → ⊥) → find p.0 (xs ++ p ∷ ys) ≡ Some p.1
  find_here [] p ys away = rw (eq-eqb p.0 p.0 refl) refl
  find_here (x ∷ xs) p ys away = rw (ne_eqb x.0 p.0 (λ same. away (inl same))) (find_here xs p ys (λ later. away (inr later)))

  after_here : (xs : List (ℕ × X)) (p : ℕ × X) (ys : List (ℕ × X)) → (In p.0 (keys xs) → ⊥) → key_after p.0 (xs ++ p ∷ ys) ≡ first_key ys
  after_here [] p ys away = rw (eq-eqb p.0 p.0 refl) refl
  after_here (x ∷ xs) p ys away = rw (ne_eqb x.0 p.0 (λ same. away (inl same))) (after_here xs p ys (λ later. away (inr later)))

  module _ {Y : Type 0} (k : ℕ) (h : List (ℕ × X) → Option Y) (skip : (ps : List (ℕ × X)) → (In k (keys ps) → ⊥) → h ps ≡ None) {E : Type 0} (g : ℕ → Option E) (rows : List (ℕ × Live)) (kept : IsKeyed key_of g rows) where
    -- it is found in no lane behind its own
    none_behind : (home lane : ℕ) (pss : List (List (ℕ × X))) → In k (keys_in home rows) → home < lane → ArePlaced lane (map keys pss) rows → search_in h pss ≡ None
    none_behind home lane [] there low placed = refl
    none_behind home lane (ps ∷ pss) there low placed =
        let away : In k (keys ps) → ⊥ = λ here. (let same = one_lane g k home lane rows kept there (subst (In k) placed.0 here) in omega (arith, same, low)) in
        none_before (h ps) (search_in h pss) (skip ps away) ∙ none_behind home (lane + 1) pss there (omega (arith, low)) placed.1

    home : (lane : ℕ) (pss : List (List (ℕ × X))) (l : ℕ) → In k (keys (get_or pss l [])) → ArePlaced lane (map keys pss) rows → In k (keys_in (lane + l) rows)
    home lane [] zero here placed = absurd here
    home lane [] (suc l) here placed = absurd here
    home lane (ps ∷ pss) zero here placed = let e : lane ≡ lane + 0 = omega arith in subst (λ n. In k (keys_in n rows)) e (subst (In k) placed.0 here)
    home lane (ps ∷ pss) (suc l) here placed = let e : lane + 1 + l ≡ lane + suc l = omega arith in subst (λ n. In k (keys_in n rows)) e (home (lane + 1) pss l here placed.1)

    -- so what its lane gives is what all give
    search_home : (lane : ℕ) (pss : List (List (ℕ × X))) (l : ℕ) → In k (keys (get_or pss l [])) → ArePlaced lane (map keys pss) rows → search_in h pss ≡ h (get_or pss l [])
    search_home lane [] zero here placed = absurd here
    search_home lane [] (suc l) here placed = absurd here
    search_home lane (ps ∷ pss) zero here placed =
        ap (option_or (h ps)) (none_behind lane (lane + 1) pss (subst (In k) placed.0 here) (omega arith) placed.1) ∙ or_none (h ps)
    search_home lane (ps ∷ pss) (suc l) here placed =
        let away : In k (keys ps) → ⊥ = λ first. (let same = one_lane g k lane (lane + 1 + l) rows kept (subst (In k) placed.0 first) (home (lane + 1) pss l here placed.1) in omega (arith, same)) in
        none_before (h ps) (search_in h pss) (skip ps away) ∙ search_home (lane + 1) pss l here placed.1

  -- the keys of a lane with a pair in it
  keys_at : (lane : ℕ) (pss : List (List (ℕ × X))) (l : ℕ) (rows : List (ℕ × Live)) (xs : List (ℕ × X)) (p : ℕ × X) (ys : List (ℕ × X)) → get_or pss l [] ≡ xs ++ p ∷ ys → ArePlaced lane (map keys pss) rows → keys_in (lane + l) rows ≡ keys xs ++ p.0 ∷ keys ys
  keys_at lane [] zero rows [] p ys is placed = absurd (cc)
  keys_at lane [] zero rows (x ∷ xs) p ys is placed = absurd (cc)
  keys_at lane [] (suc l) rows [] p ys is placed = absurd (cc)
  keys_at lane [] (suc l) rows (x ∷ xs) p ys is placed = absurd (cc)
  keys_at lane (ps ∷ pss) zero rows xs p ys is placed =
      let e : lane + 0 ≡ lane = omega arith in
      ap (λ n. keys_in n rows) e ∙ sym placed.0 ∙ ap keys is ∙ map-append (λ q. q.0) xs (p ∷ ys)
  keys_at lane (ps ∷ pss) (suc l) rows xs p ys is placed =
      let e : lane + suc l ≡ lane + 1 + l = omega arith in
      ap (λ n. keys_in n rows) e ∙ keys_at (lane + 1) pss l rows xs p ys is placed.1

  pub by_key : {E : Type 0} (g : ℕ → Option E) (rows : List (ℕ × Live)) (pss : List (List (ℕ × X))) → IsKeyed key_of g rows → ArePlaced 0 (map keys pss) rows → ByKey pss
  by_key g rows pss kept placed l xs p ys is =
      let here : In p.0 (keys (get_or pss l [])) = subst (λ ps. In p.0 (keys ps)) (sym is) (subst (In p.0) (sym (map-append (λ q. q.0) xs (p ∷ ys))) (in_here p.0 (keys xs) (keys ys))) in
      let away : In p.0 (keys xs) → ⊥ = once g p.0 (0 + l) rows (keys xs) (keys ys) kept (keys_at 0 pss l rows xs p ys is placed) in (
        search_home p.0 (find p.0) (find_none p.0) g rows kept 0 pss l here placed ∙ ap (find p.0) is ∙ find_here xs p ys away,
        search_home p.0 (key_after p.0) (after_none p.0) g rows kept 0 pss l here placed ∙ ap (key_after p.0) is ∙ after_here xs p ys away,
      )
