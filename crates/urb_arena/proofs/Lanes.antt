-- What a caller sees of the rings and the values.
use Rattle.std.proofs.Common.{◌≡◌, ◌≢◌, ℕ, zero, suc, ◌<◌, inl, inr, List, [], ◌∷◌, ◌++◌, length, map, get_or, Option, Some, None, refl, ap, sym, ◌∙◌, arith}
use lib.ListN.{set, length-append}
use Rattle.std.proofs.lemmas.List.{get_or-set_other}
use Rattle.std.proofs.lemmas.Bool.{ne_eqb, eq-eqb, cases_eq}
use Rattle.urb_arena.specs.Inner.Columns.{There}
use Rattle.urb_arena.specs.Inner.Turns.{listed, In}
use Rattle.std.specs.Option.{option_or}
use Rattle.urb_arena.specs.Lanes.{find, without, first_key, key_after, search_in}
use Rattle.urb_arena.specs.Inner.Tables.{consed, pairs}
use Rattle.urb_arena.proofs.Joins.{In-left, In-right}

module _ {X : Type 0} where
  pub pairs-append : (vs : List (Option X)) (xs ys : List ℕ) → pairs vs (xs ++ ys) ≡ pairs vs xs ++ pairs vs ys
  pairs-append vs [] ys = refl
  pairs-append vs (k ∷ xs) ys = ap (consed k (get_or vs k None)) (pairs-append vs xs ys) ∙ onto (get_or vs k None) k (pairs vs xs) (pairs vs ys)
    where
      onto : (c : Option X) (k : ℕ) (ps qs : List (ℕ × X)) → consed k c (ps ++ qs) ≡ consed k c ps ++ qs
      onto None k ps qs = refl
      onto (Some x) k ps qs = refl

  pub pairs_there : (vs : List (Option X)) (k : ℕ) (ks : List ℕ) (x : X) → get_or vs k None ≡ Some x → pairs vs (k ∷ ks) ≡ (k, x) ∷ pairs vs ks
  pairs_there vs k ks x e = ap (λ c. consed k c (pairs vs ks)) e

  -- a write elsewhere
  pub pairs-set : (vs : List (Option X)) (k : ℕ) (c : Option X) (ks : List ℕ) → (In k ks → ⊥) → pairs (set vs k c) ks ≡ pairs vs ks
  pairs-set vs k c [] absent = refl
  pairs-set vs k c (j ∷ ks) absent =
      (λ i. consed j (get_or-set_other vs k j c None (λ e. absent (inl e)) i) (pairs-set vs k c ks (λ h. absent (inr h)) i))

  pub pairs-length : (vs : List (Option X)) (ks : List ℕ) → ((k : ℕ) → In k ks → There vs k) → length (pairs vs ks) ≡ length ks
  pairs-length vs [] there = refl
  pairs-length vs (k ∷ ks) there =
      let x = there k (inl refl) in
      ap length (pairs_there vs k ks x.0 x.1) ∙ ap suc (pairs-length vs ks (λ j i. there j (inr i)))

  -- what passes by the pairs of other keys finds nothing where the key is absent
  absent_from : {Y : Type 0} (g : List (ℕ × X) → Option Y) (k : ℕ) → g [] ≡ None → ((p : ℕ × X) (ps : List (ℕ × X)) → p.0 ≢ k → g (p ∷ ps) ≡ g ps) → (vs : List (Option X)) (ks : List ℕ) → (In k ks → ⊥) → g (pairs vs ks) ≡ None
  absent_from g k none past vs [] absent = none
  absent_from {Y} g k none past vs (j ∷ ks) absent = step (get_or vs j None) (absent_from g k none past vs ks (λ i. absent (inr i)))
    where
      step : (c : Option X) → g (pairs vs ks) ≡ None → g (consed j c (pairs vs ks)) ≡ None
      step None rest = rest
      step (Some x) rest = past (j, x) (pairs vs ks) (λ e. absent (inl e)) ∙ rest

  pub find-absent : (vs : List (Option X)) (k : ℕ) (ks : List ℕ) → (In k ks → ⊥) → find k (pairs vs ks) ≡ None
  find-absent vs k ks = absent_from (find k) k refl (λ p ps other. rw (ne_eqb p.0 k other) refl) vs ks

  pub find-there : (vs : List (Option X)) (k : ℕ) (ks : List ℕ) (x : X) → get_or vs k None ≡ Some x → In k ks → find k (pairs vs ks) ≡ Some x
  find-there vs k [] x e i = elim i [ ]
  find-there vs k (j ∷ ks) x e i = elim (cases_eq j k) [
    | inl same ↦ ap (find k) (pairs_there vs j ks x (ap (λ q. get_or vs q None) same ∙ e)) ∙ rw (eq-eqb j k same) refl
    | inr other ↦ step (get_or vs j None) other (elim i [ inl h ↦ absurd (other h) | inr h ↦ find-there vs k ks x e h ])
  ]
    where
      step : (c : Option X) → j ≢ k → find k (pairs vs ks) ≡ Some x → find k (consed j c (pairs vs ks)) ≡ Some x
      step None ne rest = rest
      step (Some y) ne rest = rw (ne_eqb j k ne) rest

  pub without-absent : (vs : List (Option X)) (k : ℕ) (ks : List ℕ) → (In k ks → ⊥) → without k (pairs vs ks) ≡ pairs vs ks
  without-absent vs k [] absent = refl
  without-absent vs k (j ∷ ks) absent = step (get_or vs j None) (without-absent vs k ks (λ i. absent (inr i)))
    where
      step : (c : Option X) → without k (pairs vs ks) ≡ pairs vs ks → without k (consed j c (pairs vs ks)) ≡ consed j c (pairs vs ks)
      step None rest = rest
      step (Some x) rest = rw (ne_eqb j k (λ e. absent (inl e))) (ap (λ ps. (j, x) ∷ ps) rest)

  pub without-append : (k : ℕ) (ps qs : List (ℕ × X)) → without k (ps ++ qs) ≡ without k ps ++ without k qs
  without-append k [] qs = refl
  without-append k (p ∷ ps) qs = elim (cases_eq p.0 k) [
    | inl same ↦ rw (eq-eqb p.0 k same) (without-append k ps qs)
    | inr other ↦ rw (ne_eqb p.0 k other) (ap (λ l. p ∷ l) (without-append k ps qs))
  ]

  pub without-pairs : (vs : List (Option X)) (xs : List ℕ) (k : ℕ) (ys : List ℕ) (x : X) → get_or vs k None ≡ Some x → (In k (xs ++ ys) → ⊥) → without k (pairs vs (xs ++ k ∷ ys)) ≡ pairs vs (xs ++ ys)
  without-pairs vs xs k ys x e absent =
      ap (without k) (pairs-append vs xs (k ∷ ys) ∙ ap (λ ps. pairs vs xs ++ ps) (pairs_there vs k ys x e)) ∙ without-append k (pairs vs xs) ((k, x) ∷ pairs vs ys)
      ∙ (λ i. without-absent vs k xs (λ h. absent (In-left k xs ys h)) i ++ tail i) ∙ sym (pairs-append vs xs ys)
    where
      tail : without k ((k, x) ∷ pairs vs ys) ≡ pairs vs ys
      tail = rw (eq-eqb k k refl) (without-absent vs k ys (λ h. absent (In-right k xs ys h)))

  pub after-absent : (vs : List (Option X)) (k : ℕ) (ks : List ℕ) → (In k ks → ⊥) → key_after k (pairs vs ks) ≡ None
  after-absent vs k ks = absent_from (key_after k) k refl (λ p ps other. rw (ne_eqb p.0 k other) refl) vs ks

  pub after-there : (vs : List (Option X)) (xs : List ℕ) (k : ℕ) (ys : List ℕ) (x : X) → get_or vs k None ≡ Some x → (In k xs → ⊥) → key_after k (pairs vs (xs ++ k ∷ ys)) ≡ first_key (pairs vs ys)
  after-there vs [] k ys x e absent = ap (key_after k) (pairs_there vs k ys x e) ∙ rw (eq-eqb k k refl) refl
  after-there vs (j ∷ xs) k ys x e absent = step (get_or vs j None) (after-there vs xs k ys x e (λ i. absent (inr i)))
    where
      step : (c : Option X) → key_after k (pairs vs (xs ++ k ∷ ys)) ≡ first_key (pairs vs ys) → key_after k (consed j c (pairs vs (xs ++ k ∷ ys))) ≡ first_key (pairs vs ys)
      step None rest = rest
      step (Some y) rest = rw (ne_eqb j k (λ h. absent (inl h))) rest

-- ---- lists by number

module _ {Y : Type 0} where
  pub listed_same : (f g : ℕ → Y) (n : ℕ) → ((r : ℕ) → r < n → g r ≡ f r) → listed g n ≡ listed f n
  listed_same f g zero same = refl
  listed_same f g (suc n) same = (λ i. listed_same f g n (λ r lt. same r (omega (arith, lt))) i ++ same n (omega arith) i ∷ [])

  pub listed-length : (f : ℕ → Y) (n : ℕ) → length (listed f n) ≡ n
  listed-length f zero = refl
  listed-length f (suc n) = let rest = listed-length f n in let more = length-append (listed f n) (f n ∷ []) in omega (arith, rest, more)

  get_or-last : (xs : List Y) (y d : Y) (i : ℕ) → i ≡ length xs → get_or (xs ++ y ∷ []) i d ≡ y
  get_or-last [] y d zero e = refl
  get_or-last [] y d (suc i) e = absurd (omega (arith, e))
  get_or-last (x ∷ xs) y d zero e = absurd (omega (arith, e))
  get_or-last (x ∷ xs) y d (suc i) e = get_or-last xs y d i (omega (arith, e))

  get_or-early : (xs ys : List Y) (d : Y) (i : ℕ) → i < length xs → get_or (xs ++ ys) i d ≡ get_or xs i d
  get_or-early [] ys d i lt = absurd (omega (arith, lt))
  get_or-early (x ∷ xs) ys d zero lt = refl
  get_or-early (x ∷ xs) ys d (suc i) lt = get_or-early xs ys d i (omega (arith, lt))

  pub listed_at : (f : ℕ → Y) (n i : ℕ) (d : Y) → i < n → get_or (listed f n) i d ≡ f i
  listed_at f zero i d lt = absurd (omega arith)
  listed_at f (suc n) i d lt = let long = listed-length f n in elim (cases_eq i n) [
    | inl e ↦ get_or-last (listed f n) (f n) d i (omega (arith, e, long)) ∙ ap f (sym e)
    | inr ne ↦ get_or-early (listed f n) (f n ∷ []) d i (omega (arith, lt, ne, long)) ∙ listed_at f n i d (omega (arith, lt, ne))
  ]

  set-last : (xs : List Y) (y z : Y) (i : ℕ) → i ≡ length xs → set (xs ++ y ∷ []) i z ≡ xs ++ z ∷ []
  set-last [] y z zero e = refl
  set-last [] y z (suc i) e = absurd (omega (arith, e))
  set-last (x ∷ xs) y z zero e = absurd (omega (arith, e))
  set-last (x ∷ xs) y z (suc i) e = ap (λ l. x ∷ l) (set-last xs y z i (omega (arith, e)))

  set-early : (xs ys : List Y) (z : Y) (i : ℕ) → i < length xs → set (xs ++ ys) i z ≡ set xs i z ++ ys
  set-early [] ys z i lt = absurd (omega (arith, lt))
  set-early (x ∷ xs) ys z zero lt = refl
  set-early (x ∷ xs) ys z (suc i) lt = ap (λ l. x ∷ l) (set-early xs ys z i (omega (arith, lt)))

  pub listed_changed : (f g : ℕ → Y) (n i : ℕ) → ((r : ℕ) → r < n → r ≢ i → g r ≡ f r) → i < n → listed g n ≡ set (listed f n) i (g i)
  listed_changed f g zero i same lt = absurd (omega arith)
  listed_changed f g (suc n) i same lt = let long = listed-length f n in elim (cases_eq i n) [
    | inl e ↦ (λ j. listed_same f g n (λ r h. same r (omega (arith, h)) (λ q. omega (arith, h, q, e))) j ++ g (sym e j) ∷ []) ∙ sym (set-last (listed f n) (f n) (g i) i (omega (arith, e, long)))
    | inr ne ↦ (λ j. listed_changed f g n i (λ r h. same r (omega (arith, h))) (omega (arith, lt, ne)) j ++ same n (omega arith) (λ q. ne (sym q)) j ∷ []) ∙ sym (set-early (listed f n) (f n ∷ []) (g i) i (omega (arith, lt, ne, long)))
  ]

  pub listed-map : {Z : Type 0} (h : Y → Z) (f : ℕ → Y) (n : ℕ) → map h (listed f n) ≡ listed (λ r. h (f r)) n
  listed-map h f zero = refl
  listed-map h f (suc n) = onto (listed f n) (f n) ∙ ap (λ l. l ++ h (f n) ∷ []) (listed-map h f n)
    where
      onto : (xs : List Y) (y : Y) → map h (xs ++ y ∷ []) ≡ map h xs ++ h y ∷ []
      onto [] y = refl
      onto (x ∷ xs) y = ap (λ l. h x ∷ l) (onto xs y)

module _ {X Y : Type 0} (g : List (ℕ × X) → Option Y) where
  search_in-append : (pss : List (List (ℕ × X))) (ps : List (ℕ × X)) → search_in g (pss ++ ps ∷ []) ≡ option_or (search_in g pss) (g ps)
  search_in-append [] ps = or_none (g ps)
    where
      or_none : (c : Option Y) → option_or c None ≡ c
      or_none None = refl
      or_none (Some y) = refl
  search_in-append (qs ∷ pss) ps = ap (option_or (g qs)) (search_in-append pss ps) ∙ assoc (g qs) (search_in g pss) (g ps)
    where
      assoc : (a b c : Option Y) → option_or a (option_or b c) ≡ option_or (option_or a b) c
      assoc None b c = refl
      assoc (Some y) b c = refl

  pub search-none : (f : ℕ → List (ℕ × X)) (n : ℕ) → ((r : ℕ) → r < n → g (f r) ≡ None) → search_in g (listed f n) ≡ None
  search-none f zero none = refl
  search-none f (suc n) none = search_in-append (listed f n) (f n) ∙ (λ i. option_or (search-none f n (λ r lt. none r (omega (arith, lt))) i) (none n (omega arith) i))

  -- where no other list has it
  pub search-one : (f : ℕ → List (ℕ × X)) (n i : ℕ) (c : Option Y) → g (f i) ≡ c → ((r : ℕ) → r < n → r ≢ i → g (f r) ≡ None) → i < n → search_in g (listed f n) ≡ c
  search-one f zero i c e none lt = absurd (omega arith)
  search-one f (suc n) i c e none lt = search_in-append (listed f n) (f n) ∙ elim (cases_eq i n) [
    | inl same ↦ (λ j. option_or (search-none f n (λ r h. none r (omega (arith, h)) (λ q. omega (arith, h, q, same))) j) (g (f (sym same j)))) ∙ e
    | inr other ↦ (λ j. option_or (search-one f n i c e (λ r h. none r (omega (arith, h))) (omega (arith, lt, other)) j) (none n (omega arith) (λ q. other (sym q)) j)) ∙ or_none c
  ]
    where
      or_none : (c : Option Y) → option_or c None ≡ c
      or_none None = refl
      or_none (Some y) = refl
