-- A walk along a lane, from each key to the next.
use Rattle.std.proofs.Common.{◌≡◌, ◌⊎◌, ℕ, zero, suc, ◌<◌, Bool, true, false, cond, List, [], ◌∷◌, ◌++◌, length, map, get_or, Option, Some, None, MatchOption, refl, ap, sym, subst, ◌∙◌, arith, inl, inr}
use Rattle.std.proofs.lemmas.Bool.{ne_eqb, eq-eqb, cases_eq, cases_Bool}
use Rattle.std.proofs.lemmas.List.{append_assoc, append-nil}
use Rattle.std.proofs.lemmas.Option.{none-some, same_Some}
use Rattle.urb_arena.specs.Lanes.{find_in, key_after_in, first_key, ByKey}
use Rattle.unlink_race.specs.declared.live.Live.{Live}
use Rattle.unlink_race.specs.Inner.Earliest.{passing}
use Rattle.unlink_race.specs.Inner.Rest.{rest, or_those, rest_in, rest_at, Stands, key_of_first, lives_from}

module _ {X : Type 0} where
  pub onward : (xs : List (ℕ × X)) (p : ℕ × X) (ys : List (ℕ × X)) → xs ++ p ∷ ys ≡ (xs ++ p ∷ []) ++ ys
  onward xs p ys = sym (append_assoc xs (p ∷ []) ys)

  -- these pairs are the last of a lane
  pub record IsTail (pss : List (List (ℕ × X))) (ps : List (ℕ × X)) : Type 0 where
    pub lane : ℕ
    pub before : List (ℕ × X)
    pub split : get_or pss lane [] ≡ before ++ ps

  behind : {pss : List (List (ℕ × X))} {p : ℕ × X} {ps : List (ℕ × X)} → IsTail pss (p ∷ ps) → IsTail pss ps
  behind {p = p} {ps = ps} t = record { lane = t.lane; before = t.before ++ p ∷ []; split = t.split ∙ onward t.before p ps }

  -- ---- where a key stands

  -- what a lane has from a key on is the last of it
  record Cut (k : ℕ) (ps : List (ℕ × X)) : Type 0 where
    before : List (ℕ × X)
    split : ps ≡ before ++ rest k ps

  cut : (k : ℕ) (ps : List (ℕ × X)) → Cut k ps
  cut k [] = record { before = []; split = refl }
  cut k (p ∷ ps) =
      elim (cases_eq p.0 k) [
        | inl same ↦ record { before = []; split = rw (eq-eqb p.0 k same) refl }
        | inr other ↦ (let later = cut k ps in record { before = p ∷ later.before; split = rw (ne_eqb p.0 k other) (ap (λ qs. p ∷ qs) later.split) })
      ]

  -- and so is what all lanes have
  tail_in : (k : ℕ) (pss : List (List (ℕ × X))) → IsTail pss (rest_in k pss)
  tail_in k [] = record { lane = zero; before = []; split = refl }
  tail_in k (ps ∷ pss) = by_rest (tail_in k pss) (rest k ps) (cut k ps).split
    where
      by_rest : IsTail pss (rest_in k pss) → (qs : List (ℕ × X)) → ps ≡ (cut k ps).before ++ qs → IsTail (ps ∷ pss) (or_those qs (rest_in k pss))
      by_rest later [] is = record { lane = suc later.lane; before = later.before; split = later.split }
      by_rest later (q ∷ qs) is = record { lane = zero; before = (cut k ps).before; split = is }

  tail_at : (key : Option ℕ) (pss : List (List (ℕ × X))) → IsTail pss (rest_at key pss)
  tail_at None pss = record { lane = zero; before = get_or pss zero []; split = sym (append-nil (get_or pss zero [])) }
  tail_at (Some k) pss = tail_in k pss

  -- it begins with the key, or the key stands nowhere
  heads : (k : ℕ) (ps : List (ℕ × X)) → (rest k ps ≡ []) ⊎ (first_key (rest k ps) ≡ Some k)
  heads k [] = inl refl
  heads k (p ∷ ps) =
      elim (cases_eq p.0 k) [
        | inl same ↦ inr (rw (eq-eqb p.0 k same) (ap Some same))
        | inr other ↦ rw (ne_eqb p.0 k other) (heads k ps)
      ]

  starts : (xs : List (ℕ × X)) (p : ℕ × X) (ys : List (ℕ × X)) → first_key (rest p.0 (xs ++ p ∷ ys)) ≡ Some p.0
  starts [] p ys = rw (eq-eqb p.0 p.0 refl) refl
  starts (x ∷ xs) p ys =
      elim (cases_eq x.0 p.0) [
        | inl here ↦ rw (eq-eqb x.0 p.0 here) (ap Some here)
        | inr other ↦ rw (ne_eqb x.0 p.0 other) (starts xs p ys)
      ]

  or_first : (k : ℕ) (qs rs : List (ℕ × X)) → (qs ≡ []) ⊎ (first_key qs ≡ Some k) → (qs ≡ [] → first_key rs ≡ Some k) → first_key (or_those qs rs) ≡ Some k
  or_first k [] rs head later = later refl
  or_first k (q ∷ qs) rs (inl none) later = absurd (cc)
  or_first k (q ∷ qs) rs (inr is) later = is

  no_pair : (xs : List (ℕ × X)) (p : ℕ × X) (ys : List (ℕ × X)) → [] ≡ xs ++ p ∷ ys → ⊥
  no_pair [] p ys is = cc
  no_pair (x ∷ xs) p ys is = cc

  starts_in : (pss : List (List (ℕ × X))) (l : ℕ) (xs : List (ℕ × X)) (p : ℕ × X) (ys : List (ℕ × X)) → get_or pss l [] ≡ xs ++ p ∷ ys → first_key (rest_in p.0 pss) ≡ Some p.0
  starts_in [] zero xs p ys is = absurd (no_pair xs p ys is)
  starts_in [] (suc l) xs p ys is = absurd (no_pair xs p ys is)
  starts_in (ps ∷ pss) zero xs p ys is =
      let here : first_key (rest p.0 ps) ≡ Some p.0 = ap (λ qs. first_key (rest p.0 qs)) is ∙ starts xs p ys in
      or_first p.0 (rest p.0 ps) (rest_in p.0 pss) (inr here) (λ none. absurd (none-some p.0 (sym (ap first_key none) ∙ here)))
  starts_in (ps ∷ pss) (suc l) xs p ys is = or_first p.0 (rest p.0 ps) (rest_in p.0 pss) (heads p.0 ps) (λ none. starts_in pss l xs p ys is)

  -- ---- where each key leads to its pair

  module _ (pss : List (List (ℕ × X))) (by_key : ByKey pss) where
    -- what stands from a key on is the same wherever the key stands
    same_rest : (ps qs : List (ℕ × X)) → IsTail pss ps → IsTail pss qs → first_key ps ≡ first_key qs → ps ≡ qs
    same_rest [] [] s t same = refl
    same_rest [] (q ∷ qs) s t same = absurd (none-some q.0 same)
    same_rest (p ∷ ps) [] s t same = absurd (none-some p.0 (sym same))
    same_rest (p ∷ ps) (q ∷ qs) s t same =
        let key : p.0 ≡ q.0 = same_Some p.0 q.0 same in
        let to_p = by_key s.lane s.before p ps s.split in
        let to_q = by_key t.lane t.before q qs t.split in
        let value : p.1 ≡ q.1 = same_Some p.1 q.1 (sym to_p.0 ∙ ap (λ k. find_in k pss) key ∙ to_q.0) in
        let later = same_rest ps qs (behind s) (behind t) (sym to_p.1 ∙ ap (λ k. key_after_in k pss) key ∙ to_q.1) in
        λ i. (key i, value i) ∷ later i

    -- so the last of a lane are those from their first key on
    from_first : (ps : List (ℕ × X)) → IsTail pss ps → rest_at (first_key ps) pss ≡ ps
    from_first [] t = refl
    from_first (p ∷ ps) t = same_rest (rest_in p.0 pss) (p ∷ ps) (tail_in p.0 pss) t (starts_in pss t.lane t.before p ps t.split)

    stands_first : (ps : List (ℕ × X)) → IsTail pss ps → Stands (first_key ps) pss
    stands_first ps t = ap first_key (from_first ps t)

-- an answer that says what an option is
told_option : (o r : Option ℕ) → MatchOption r (o ≡ None) (λ k. o ≡ Some k) → r ≡ o
told_option o None told = sym told
told_option o (Some k) told = sym told

abbrev pub Entries : Type 0
Entries = List (ℕ × (ℕ × Live))

abbrev pub values : Entries → List (ℕ × Live)
values ps = map (λ p. p.1) ps

module _ (pss : List Entries) (by_key : ByKey pss) where
  -- ---- the walk begins at the front of a lane

  module _ (lane : ℕ) (front : Option ℕ) (told : MatchOption front (get_or pss lane [] ≡ []) (λ k. first_key (get_or pss lane []) ≡ Some k)) where
    whole : IsTail pss (get_or pss lane [])
    whole = record { lane = lane; before = []; split = refl }

    front_is : front ≡ first_key (get_or pss lane [])
    front_is = by_front front told
      where
        by_front : (o : Option ℕ) → MatchOption o (get_or pss lane [] ≡ []) (λ k. first_key (get_or pss lane []) ≡ Some k) → o ≡ first_key (get_or pss lane [])
        by_front None none = sym (ap first_key none)
        by_front (Some k) is = sym is

    pub from_front : rest_at front pss ≡ get_or pss lane []
    from_front = ap (λ o. rest_at o pss) front_is ∙ from_first pss by_key (get_or pss lane []) whole

    pub front_stands : Stands front pss
    front_stands = subst (λ o. Stands o pss) (sym front_is) (stands_first pss by_key (get_or pss lane []) whole)

  -- ---- and goes on from a key that stands

  -- the pair there
  record Pair (k : ℕ) : Type 0 where
    p : ℕ × (ℕ × Live)
    later : Entries
    is : rest_in k pss ≡ p ∷ later
    key : p.0 ≡ k

  pair_at : (k : ℕ) (qs : Entries) → rest_in k pss ≡ qs → first_key qs ≡ Some k → Pair k
  pair_at k [] is first = absurd (none-some k first)
  pair_at k (p ∷ qs) is first = record { p = p; later = qs; is = is; key = same_Some p.0 k first }

  module _ (test : Live → Bool) (k : ℕ) (stands : Stands (Some k) pss) where
    pair : Pair k
    pair = pair_at k (rest_in k pss) refl stands

    tail : IsTail pss (pair.p ∷ pair.later)
    tail = subst (IsTail pss) pair.is (tail_in k pss)

    leads : (find_in k pss ≡ Some pair.p.1) × (key_after_in k pss ≡ first_key pair.later)
    leads = subst (λ j. (find_in j pss ≡ Some pair.p.1) × (key_after_in j pss ≡ first_key pair.later)) pair.key (by_key tail.lane tail.before pair.p pair.later tail.split)

    pub found : (entry : ℕ × Live) × (find_in k pss ≡ Some entry)
    found = (pair.p.1, leads.0)

    first_is : (b : Bool) → (entry : ℕ × Live) → find_in k pss ≡ Some entry → test entry.1 ≡ b → key_of_first test (rest_in k pss) ≡ cond b (Some k) (key_of_first test pair.later)
    first_is b entry is tried =
        let this : pair.p.1 ≡ entry = same_Some pair.p.1 entry (sym leads.0 ∙ is) in
        ap (key_of_first test) pair.is ∙ (λ i. cond (test (this i).1) (Some (pair.key i)) (key_of_first test pair.later)) ∙ ap (λ t. cond t (Some k) (key_of_first test pair.later)) tried

    -- it passes
    pub passes : (entry : ℕ × Live) → find_in k pss ≡ Some entry → test entry.1 ≡ true → key_of_first test (rest_in k pss) ≡ Some k
    passes entry is here = first_is true entry is here

    module _ (next : Option ℕ) (told : MatchOption next (key_after_in k pss ≡ None) (λ j. key_after_in k pss ≡ Some j)) where
      next_is : next ≡ first_key pair.later
      next_is = told_option (key_after_in k pss) next told ∙ leads.1

      rest_next : rest_at next pss ≡ pair.later
      rest_next = ap (λ o. rest_at o pss) next_is ∙ from_first pss by_key pair.later (behind tail)

      pub next_stands : Stands next pss
      next_stands = ap first_key rest_next ∙ sym next_is

      -- it fails
      pub walked : (entry : ℕ × Live) → find_in k pss ≡ Some entry → test entry.1 ≡ false → key_of_first test (rest_in k pss) ≡ key_of_first test (rest_at next pss)
      walked entry is away = first_is false entry is away ∙ ap (key_of_first test) (sym rest_next)

      pub nearer : length (rest_at next pss) < length (rest_in k pss)
      nearer = let here = ap length rest_next in let there = ap length pair.is in omega (arith, here, there)

  -- ---- what it has come to

  -- the first that passes, and those behind it
  pub record Came (test : Live → Bool) (ps : Entries) (k : ℕ) : Type 0 where
    pub entry : ℕ × Live
    pub is : find_in k pss ≡ Some entry
    pub stands : Stands (key_after_in k pss) pss
    pub left : passing test (values ps) ≡ entry ∷ passing test (values (rest_at (key_after_in k pss) pss))

  pub came : (test : Live → Bool) (ps : Entries) (k : ℕ) → IsTail pss ps → key_of_first test ps ≡ Some k → Came test ps k
  came test [] k t first = absurd (none-some k first)
  came test (p ∷ ps) k t first =
      elim (cases_Bool (test p.1.1)) [
        | inl here ↦ (
            let key : p.0 ≡ k = same_Some p.0 k (rw here at first) in
            let there = subst (λ j. (find_in j pss ≡ Some p.1) × (key_after_in j pss ≡ first_key ps)) key (by_key t.lane t.before p ps t.split) in
            let onto : rest_at (key_after_in k pss) pss ≡ ps = ap (λ o. rest_at o pss) there.1 ∙ from_first pss by_key ps (behind t) in
            record {
              entry = p.1;
              is = there.0;
              stands = ap first_key onto ∙ sym there.1;
              left = rw here (ap (λ qs. p.1 ∷ passing test (values qs)) (sym onto));
            })
        | inr away ↦ (
            let later = came test ps k (behind t) (rw away at first) in
            record { entry = later.entry; is = later.is; stands = later.stands; left = rw away later.left })
      ]

  -- as requests, where the walk goes on behind it
  module _ (test : Live → Bool) (start : Option ℕ) (k : ℕ) (first : key_of_first test (rest_at start pss) ≡ Some k) where
    pub came_at : Came test (rest_at start pss) k
    came_at = came test (rest_at start pss) k (tail_at start pss) first

    module _ (next : Option ℕ) (told : MatchOption next (key_after_in k pss ≡ None) (λ j. key_after_in k pss ≡ Some j)) where
      pub came_stands : Stands next pss
      came_stands = subst (λ o. Stands o pss) (sym (told_option (key_after_in k pss) next told)) came_at.stands

      pub came_lives : (entry : ℕ × Live) → find_in k pss ≡ Some entry → lives_from test start pss ≡ entry.1 ∷ lives_from test next pss
      came_lives entry is =
          let this = same_Some came_at.entry entry (sym came_at.is ∙ is) in
          ap (map (λ (e : ℕ × Live). e.1)) came_at.left ∙ (λ i. (this i).1 ∷ lives_from test (sym (told_option (key_after_in k pss) next told) i) pss)

-- none passes
pub none_came : (test : Live → Bool) (ps : Entries) → key_of_first test ps ≡ None → passing test (values ps) ≡ []
none_came test [] first = refl
none_came test (p ∷ ps) first =
    elim (cases_Bool (test p.1.1)) [
      | inl here ↦ absurd (none-some p.0 (sym (rw here at first)))
      | inr away ↦ rw away (none_came test ps (rw away at first))
    ]
