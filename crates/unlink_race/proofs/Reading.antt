-- Keys with the numbers that are read of their requests: a search of the keys, and what stands at its place.
use Rattle.std.proofs.Common.{◌≡◌, ◌==◌, ◌&&◌, ◌||◌, ℕ, ◌+◌, ◌-◌, ◌<◌, ◌≤◌, Bool, true, false, not, cond, zero, suc, ltb, List, [], ◌∷◌, ◌++◌, length, map, drop, get_or, Option, Some, None, IsSome, option_map, refl, ap, sym, ◌∙◌, arith, inl, inr}
use Rattle.std.specs.List.{find, insert, list_any, position, position_or_len, remove, slice_get, zip}
use Rattle.std.specs.List.Sorted.{IsNonDecreasingBy, IsPartitionedBy, IsPartitionPoint}
use Rattle.std.specs.Option.{option_cmp}
use Rattle.std.specs.Ordering.{nat_cmp, is_lt, is_le, is_eq}
use Rattle.std.proofs.lemmas.Bool.{eq-eqb, ne_eqb, cases_Bool, ltb-true, ltb-false, false≢true}
use Rattle.std.proofs.lemmas.Bool.Decides.{nat_tests, eqb_tells}
use Rattle.std.proofs.lemmas.List.{get_or-map, get_or_default, length-map, length-drop}
use Rattle.std.proofs.lemmas.List.Sorted.{IsPartitionedBy-ltb, IsNonDecreasingBy-insert}
use Rattle.std.proofs.lemmas.List.Edits.{length-insert}
use Rattle.std.proofs.lemmas.Option.{slice_get-get_or}
use Rattle.std.proofs.Math.Bool.{and-false, or-true}
use Rattle.urb_arena.specs.Lanes.{find_in}
use Rattle.unlink_race.specs.declared.live.Live.{Live}
use Rattle.unlink_race.specs.declared.by_number.By.{By}
use Rattle.unlink_race.specs.Firsts.{without_first}
use Rattle.unlink_race.specs.Inner.Indexed.{number_by, any_by, found_by, number_at, column, is_pair, Before, Behind, Reads, Stand, IsOrdering, IsOrderOf}
use Rattle.urb_arena.specs.Distinct.{Distinct, itself}
use Rattle.unlink_race.specs.Inner.Listed.{IsKeyed, listed}
use Rattle.unlink_race.proofs.Columns.{map-insert, map-remove, position_or_len-map}
use Rattle.unlink_race.proofs.Firsts.{remove_first, position_found, is_some-position}
use Rattle.unlink_race.proofs.Indexes.{Pairs, leads, ordering_back, pair_there, ordering_pushed, ordering_removed, column_pushed, column_removed, column_has}
use Rattle.unlink_race.proofs.Ordered.{number_of, inserted, find_here, find_past, place_behind, any_behind, rises_without}
use Rattle.unlink_race.proofs.Rows.{entry_of}
use Rattle.unlink_race.proofs.Walks.{Entries}
use Rattle.unlink_race.proofs.Zipped.{key_of}

abbrev pub key_in : ℕ × ℕ → ℕ
key_in p = p.1

abbrev none : ℕ × ℕ
none = (0, 0)

-- ---- what the tests of a search say of a number

lt_tests : (m n : ℕ) → is_lt (nat_cmp m n) ≡ ltb m n
lt_tests m n = grind (arith, nat_tests)

le_tests : (m n : ℕ) → is_le (nat_cmp m n) ≡ ltb m (n + 1)
le_tests m n = grind (arith, nat_tests)

pub eq_tests : (m n : ℕ) → is_eq (nat_cmp m n) ≡ (m == n)
eq_tests m n = grind (arith, nat_tests)

-- the number under a key is below another, or not above it
module _ (by : By) (lanes : List Entries) (number : ℕ) where
  abbrev pub is_below : ℕ → Bool
  is_below k = is_lt (option_cmp nat_cmp (number_at by lanes k) (Some number))

  pub below_tests : (k m : ℕ) → number_at by lanes k ≡ Some m → is_below k ≡ ltb m number
  below_tests k m is = ap (λ o. is_lt (option_cmp nat_cmp o (Some number))) is ∙ lt_tests m number

  abbrev pub is_up_to : ℕ → Bool
  is_up_to k = is_le (option_cmp nat_cmp (number_at by lanes k) (Some number))

  pub up_to_tests : (k m : ℕ) → number_at by lanes k ≡ Some m → is_up_to k ≡ ltb m (number + 1)
  up_to_tests k m is = ap (λ o. is_le (option_cmp nat_cmp o (Some number))) is ∙ le_tests m number

-- ---- a search of the keys by a test that passes those whose number is below a bound

module _ (by : By) (lanes : List Entries) (ps : Pairs) (reads : Reads by lanes ps) where
  read_key : (i d : ℕ) → i < length ps → number_at by lanes (get_or (map key_in ps) i d) ≡ Some (number_of (get_or ps i none))
  read_key i d within = ap (number_at by lanes) (get_or-map key_in ps i none d within) ∙ reads i none within

  module _ (test : ℕ → Bool) (bound : ℕ) (agrees : (k m : ℕ) → number_at by lanes k ≡ Some m → test k ≡ ltb m bound) where
    tested : (i d : ℕ) → i < length ps → test (get_or (map key_in ps) i d) ≡ ltb (number_of (get_or ps i none)) bound
    tested i d within = agrees _ _ (read_key i d within)

    pub parted : IsNonDecreasingBy number_of ps → IsPartitionedBy test (map key_in ps)
    parted up i j d le lt is =
        let long = length-map ps key_in in
        let inside : j < length ps = omega (arith, lt, long) in
        tested i d (omega (arith, le, inside)) ∙ IsPartitionedBy-ltb number_of ps bound up i j none le inside (sym (tested j d inside) ∙ is)

    pub split : (i : ℕ) → i ≤ length ps → IsPartitionPoint (λ k. test k ≡ true) (λ k. test k ≡ false) (map key_in ps) i → Before ps i bound × Behind ps i bound
    split i within point = (
      λ k d below.
          let inside : k < length ps = omega (arith, below, within) in
          let less = ltb-true _ bound (sym (tested k 0 inside) ∙ point.0 k 0 (omega arith) below) in
          let same = ap number_of (get_or_default ps k d none inside) in
          omega (arith, less, same),
      λ k d above inside.
          let long = length-map ps key_in in
          let more = ltb-false _ bound (sym (tested k 0 inside) ∙ point.1 k 0 above (omega (arith, inside, long))) in
          let same = ap number_of (get_or_default ps k d none inside) in
          omega (arith, more, same),
    )

    -- the last passes, and so do all
    pub all_pass : IsNonDecreasingBy number_of ps → (n last key : ℕ) → n ≡ length ps → last + 1 ≡ n → key ≡ get_or (map key_in ps) last key → test key ≡ true → Before ps n bound × Behind ps n bound
    all_pass up n last key all is read passes =
        let long = length-map ps key_in in
        let inside : last < length (map key_in ps) = omega (arith, all, is, long) in
        split n (omega (arith, all)) (
          λ k d low below. parted up k last d (omega (arith, below, is)) inside (ap test (get_or_default (map key_in ps) last d key inside ∙ sym read) ∙ passes),
          λ k d low below. absurd (omega (arith, low, below, long, all)),
        )

    -- the first doesn't pass, and so none does
    pub none_pass : IsNonDecreasingBy number_of ps → (key : ℕ) → key ≡ get_or (map key_in ps) 0 key → test key ≡ false → Before ps 0 bound × Behind ps 0 bound
    none_pass up key read fails =
        split 0 (omega arith) (
          λ k d low below. absurd (omega (arith, below)),
          λ k d low below.
              let inside : 0 < length (map key_in ps) = omega (arith, below) in
              let first : test (get_or (map key_in ps) 0 d) ≡ false = ap test (get_or_default (map key_in ps) 0 d key inside ∙ sym read) ∙ fails in
              elim (cases_Bool (test (get_or (map key_in ps) k d))) [
                | inl passes ↦ absurd (false≢true (sym first ∙ parted up 0 k d (omega arith) below passes))
                | inr failing ↦ failing
              ],
        )

-- there is no key, and so no pair
pub no_pairs : (ps : Pairs) (keys : List ℕ) → keys ≡ map key_in ps → (length keys == 0) ≡ true → length ps ≡ 0
no_pairs ps keys same is =
    let long = ap length same ∙ length-map ps key_in in
    elim (eqb_tells (length keys) 0) [
      | inl none ↦ (let zero = none.1 in omega (arith, zero, long))
      | inr some ↦ absurd (false≢true (sym some.0 ∙ is))
    ]

-- there is a last key
pub last_there : (keys : List ℕ) → (length keys == 0) ≡ false → length keys - 1 + 1 ≡ length keys
last_there [] is = absurd (false≢true (sym is ∙ eq-eqb 0 0 refl))
last_there (k ∷ ks) is = omega arith

-- ---- the requests stand under their keys, so each number is that of its key's request

some_at : {X : Type 0} (p : X → Bool) (xs : List X) (i : ℕ) (d : X) → i < length xs → p (get_or xs i d) ≡ true → list_any p xs ≡ true
some_at p [] i d within here = absurd (omega (arith, within))
some_at p (x ∷ xs) zero d within here = rw here refl
some_at p (x ∷ xs) (suc i) d within here = rw (some_at p xs i d (omega (arith, within)) here) (or-true (p x))

itself_pair : (p : ℕ × ℕ) → is_pair p.0 p.1 p ≡ true
itself_pair p = rw (eq-eqb p.0 p.0 refl, eq-eqb p.1 p.1 refl) refl

pair_parts : (n k : ℕ) (p : ℕ × ℕ) → is_pair n k p ≡ true → (p.0 ≡ n) × (p.1 ≡ k)
pair_parts n k p is =
    elim (eqb_tells p.0 n) [
      | inl a ↦
          elim (eqb_tells p.1 k) [
            | inl b ↦ (a.1, b.1)
            | inr b ↦ absurd (false≢true (sym (ap (λ t. (p.0 == n) && t) b.0 ∙ and-false (p.0 == n)) ∙ is))
          ]
      | inr a ↦ absurd (false≢true (sym (ap (λ t. t && (p.1 == k)) a.0) ∙ is))
    ]

module _ (by : By) (lanes : List Entries) where
  column_reads : (rs : List (ℕ × Live)) (n k : ℕ) → Stand lanes rs → list_any (is_pair n k) (column (any_by by) (number_by by) rs) ≡ true → number_at by lanes k ≡ Some n
  column_reads [] n k stand there = absurd (false≢true there)
  column_reads (r ∷ rs) n k stand there =
      elim (cases_Bool (any_by by r.1)) [
        | inl found ↦
            elim (cases_Bool (is_pair n k (number_by by r.1, r.0))) [
              | inl here ↦ (
                  let parts = pair_parts n k (number_by by r.1, r.0) here in
                  ap (number_at by lanes) (sym parts.1) ∙ stands r stand.0 ∙ ap Some parts.0)
              | inr other ↦ column_reads rs n k stand.1 (rw (found, other) at there)
            ]
        | inr away ↦ column_reads rs n k stand.1 (rw away at there)
      ]
    where
      by_entry : (o : Option (ℕ × Live)) (x : Live) → option_map (λ (e : ℕ × Live). e.1) o ≡ Some x → option_map (λ (e : ℕ × Live). number_by by e.1) o ≡ Some (number_by by x)
      by_entry None x is = let e : None ≡ Some x = is in absurd (cc)
      by_entry (Some e) x is = let both : Some e.1 ≡ Some x = is in let same : e.1 ≡ x = cc in ap (λ y. Some (number_by by y)) same

      stands : (s : ℕ × Live) → option_map (λ (e : ℕ × Live). e.1) (find_in s.0 lanes) ≡ Some s.1 → number_at by lanes s.0 ≡ Some (number_by by s.1)
      stands s is = by_entry (find_in s.0 lanes) s.1 is

  pub order_reads : (rs : List (ℕ × Live)) (ps : Pairs) → Stand lanes rs → IsOrdering ps (column (any_by by) (number_by by) rs) → Reads by lanes ps
  order_reads rs ps stand o i d within =
      let p = get_or ps i d in
      column_reads rs p.0 p.1 stand (pair_there (ordering_back o) p.0 p.1 (some_at (is_pair p.0 p.1) ps i d within (itself_pair p)))

-- ---- a key is taken out

module _ (by : By) (lanes : List Entries) (ps : Pairs) (reads : Reads by lanes ps) (n key : ℕ) (number : number_at by lanes key ≡ Some n) where
  -- where the key stands the number does
  same_test : (p : ℕ × ℕ) → number_at by lanes p.1 ≡ Some p.0 → (p.1 == key) ≡ is_pair n key p
  same_test p read =
      elim (eqb_tells p.1 key) [
        | inl here ↦ (
            let both : Some p.0 ≡ Some n = sym read ∙ ap (number_at by lanes) here.1 ∙ number in
            let same : p.0 ≡ n = cc in
            ap (λ b. b && (p.1 == key)) (sym (eq-eqb p.0 n same)))
        | inr other ↦ other.0 ∙ sym (ap (λ b. (p.0 == n) && b) other.0 ∙ and-false (p.0 == n))
      ]

  same_places : (qs : Pairs) → ((i : ℕ) (d : ℕ × ℕ) → i < length qs → number_at by lanes (get_or qs i d).1 ≡ Some (get_or qs i d).0) → position_or_len (λ (p : ℕ × ℕ). p.1 == key) qs ≡ position_or_len (is_pair n key) qs
  same_places [] read = refl
  same_places (q ∷ qs) read =
      (λ i. cond (not (same_test q (read 0 q (omega arith)) i)) (1 + same_places qs (λ j d within. read (suc j) d (omega (arith, within))) i) 0)

  same_any : (qs : Pairs) → ((i : ℕ) (d : ℕ × ℕ) → i < length qs → number_at by lanes (get_or qs i d).1 ≡ Some (get_or qs i d).0) → list_any (λ k. k == key) (map key_in qs) ≡ list_any (is_pair n key) qs
  same_any [] read = refl
  same_any (q ∷ qs) read =
      (λ i. same_test q (read 0 q (omega arith)) i || same_any qs (λ j d within. read (suc j) d (omega (arith, within))) i)

  module _ (first : ℕ) (within : first ≤ length ps) (before : Before ps first n) where
    not_before : (k d : ℕ) → k < first → (get_or (map key_in ps) k d == key) ≡ false
    not_before k d below =
        let inside : k < length ps = omega (arith, below, within) in
        ne_eqb _ key (λ same.
        let both : Some (number_of (get_or ps k none)) ≡ Some n = sym (read_key by lanes ps reads k d inside) ∙ ap (number_at by lanes) same ∙ number in
        let one : number_of (get_or ps k none) ≡ n = cc in
        let less = before k none below in
        omega (arith, one, less))

    inside_keys : first ≤ length (map key_in ps)
    inside_keys = let long = length-map ps key_in in omega (arith, within, long)

    pub key_behind : list_any (is_pair n key) ps ≡ true → IsSome (position (λ k. k == key) (drop first (map key_in ps)))
    key_behind there =
        is_some-position (λ k. k == key) (drop first (map key_in ps)) ∙ any_behind (λ k. k == key) (map key_in ps) first inside_keys not_before ∙ same_any ps reads ∙ there

    pub record TakenAt (place : ℕ) : Type 0 where
      pub inside : place < length ps
      pub left : remove ps place ≡ without_first (is_pair n key) ps

    pub taken_at : (j : ℕ) → position (λ k. k == key) (drop first (map key_in ps)) ≡ Some j → TakenAt (first + j)
    taken_at j is =
        let at = position_found (λ k. k == key) (drop first (map key_in ps)) j is in
        let short = length-drop first (map key_in ps) in
        let long = length-map ps key_in in
        let place : first + j ≡ position_or_len (is_pair n key) ps = ap (λ m. first + m) at.0 ∙ sym (place_behind (λ k. k == key) (map key_in ps) first inside_keys not_before) ∙ position_or_len-map key_in (λ k. k == key) ps ∙ same_places ps reads in
        record {
          inside = omega (arith, at.1, short, long);
          left = ap (remove ps) place ∙ remove_first (is_pair n key) ps;
        }

-- ---- what a search leads to, and what a change makes of the keys

pub first_found : (by : By) (lanes : List Entries) (ps : Pairs) (place n key : ℕ) (b : Bool) → Reads by lanes ps → IsNonDecreasingBy number_of ps → Before ps place n → Behind ps place n → place < length ps → key ≡ key_in (get_or ps place none) → is_eq (option_cmp nat_cmp (number_at by lanes key) (Some n)) ≡ b → option_map key_in (find (λ (p : ℕ × ℕ). p.0 == n) ps) ≡ cond b (Some key) None
first_found by lanes ps place n key b reads up before behind within read tested =
    let p = get_or ps place none in
    let found = find_here ps place n p up before behind (slice_get-get_or ps place none within) in
    let number : number_at by lanes key ≡ Some p.0 = ap (number_at by lanes) read ∙ reads place none within in
    let is : (p.0 == n) ≡ b = sym (eq_tests p.0 n) ∙ sym (ap (λ o. is_eq (option_cmp nat_cmp o (Some n))) number) ∙ tested in
    ap (option_map key_in) (found ∙ ap (λ t. cond t (Some p) None) is) ∙ mapped b p ∙ ap (λ k. cond b (Some k) None) (sym read)
  where
    mapped : (t : Bool) (p : ℕ × ℕ) → option_map key_in (cond t (Some p) None) ≡ cond t (Some p.1) None
    mapped true p = refl
    mapped false p = refl

-- what a search that stops at a place says of the numbers before it, and from it on
abbrev pub Parts : By → List Entries → List ℕ → ℕ → ℕ → Type 0
Parts by lanes keys place n = (pairs : Pairs) → keys ≡ map key_in pairs → Reads by lanes pairs → IsNonDecreasingBy number_of pairs → Before pairs place n × Behind pairs place n

-- and of those before it alone
abbrev pub FrontIsLesser : By → List Entries → List ℕ → ℕ → ℕ → Type 0
FrontIsLesser by lanes keys place n = (pairs : Pairs) → keys ≡ map key_in pairs → Reads by lanes pairs → IsNonDecreasingBy number_of pairs → Before pairs place n

module _ {by : By} {requests : List (ℕ × Live)} {keys : List ℕ} (o : IsOrderOf by requests keys) (lanes : List Entries) (stand : Stand lanes requests) (place n : ℕ) (parts : Parts by lanes keys place n) where
  reads_in : Reads by lanes o.pairs
  reads_in = order_reads by lanes requests o.pairs stand o.ordering

  parted_in : Before o.pairs place n × Behind o.pairs place n
  parted_in = parts o.pairs o.keys_are reads_in o.rises

  long_in : length keys ≡ length o.pairs
  long_in = ap length o.keys_are ∙ length-map o.pairs key_in

  -- the key there is the first of the number, or has another
  pub first_key : (key : ℕ) (is : Bool) → place < length keys → key ≡ get_or keys place key → is_eq (option_cmp nat_cmp (number_at by lanes key) (Some n)) ≡ is → cond is (Some key) None ≡ option_map (λ (r : ℕ × Live). r.0) (find (λ (r : ℕ × Live). found_by by n r.1) requests)
  first_key key is within read tested =
      let inside : place < length o.pairs = omega (arith, within, long_in) in
      let there : key ≡ key_in (get_or o.pairs place none) = read ∙ ap (λ ks. get_or ks place key) o.keys_are ∙ get_or-map key_in o.pairs place none key inside in
      sym (first_found by lanes o.pairs place n key is reads_in o.rises parted_in.0 parted_in.1 inside there tested) ∙ leads o n

  -- behind the last none has it
  pub no_key : length keys ≤ place → None ≡ option_map (λ (r : ℕ × Live). r.0) (find (λ (r : ℕ × Live). found_by by n r.1) requests)
  no_key past = ap (option_map key_in) (sym (find_past o.pairs place n (omega (arith, past, long_in)) parted_in.0)) ∙ leads o n

module _ {by : By} {requests : List (ℕ × Live)} {keys : List ℕ} (o : IsOrderOf by requests keys) where
  pub order_put : (place key : ℕ) (x : Live) → place ≤ length o.pairs → Before o.pairs place (number_by by x + 1) → Behind o.pairs place (number_by by x + 1) → any_by by x ≡ true → IsOrderOf by (requests ++ (key, x) ∷ []) (insert keys place key)
  order_put place key x within before behind found =
      let n = number_by by x in
      record {
        pairs = insert o.pairs place (n, key);
        keys_are = ap (λ ks. insert ks place key) o.keys_are ∙ map-insert key_in o.pairs place (n, key);
        rises = IsNonDecreasingBy-insert number_of o.pairs place (n, key) o.rises within (λ k d below. (let less = before k d below in omega (arith, less))) (λ k d above inside. (let more = behind k d above inside in omega (arith, more)));
        ordering = rw (column_pushed (any_by by) (number_by by) requests (key, x), found) (
            ordering_pushed o.ordering (insert o.pairs place (n, key)) ((n, key) ∷ []) (λ m. inserted o.pairs place n key m within (λ k d above inside. (let more = behind k d above inside in omega (arith, more)))) (length-insert o.pairs place (n, key) within));
      }

  pub order_taken : (i key place : ℕ) (x : Live) → slice_get requests i ≡ Some (key, x) → Distinct key_of requests → any_by by x ≡ true → place < length o.pairs → remove o.pairs place ≡ without_first (is_pair (number_by by x) key) o.pairs → IsOrderOf by (remove requests i) (remove keys place)
  order_taken i key place x at apart found inside left =
      record {
        pairs = remove o.pairs place;
        keys_are = ap (λ ks. remove ks place) o.keys_are ∙ map-remove key_in o.pairs place;
        rises = rises_without number_of o.pairs place inside o.rises;
        ordering = rw (column_removed (any_by by) (number_by by) requests i (key, x) at apart, found, left) (ordering_removed o.ordering (number_by by x) key (column_has (any_by by) (number_by by) requests i (key, x) at found));
      }

-- the request at a place stands under its key
pub stand_at : (by : By) (lanes : List Entries) (rs : List (ℕ × Live)) (i key : ℕ) (x : Live) → Stand lanes rs → slice_get rs i ≡ Some (key, x) → number_at by lanes key ≡ Some (number_by by x)
stand_at by lanes [] i key x stand is = absurd (cc)
stand_at by lanes (r ∷ rs) zero key x stand is =
    let e : Some r ≡ Some (key, x) = is in
    let same : r ≡ (key, x) = cc in
    by_entry (find_in key lanes) (ap (λ (s : ℕ × Live). option_map (λ (e : ℕ × Live). e.1) (find_in s.0 lanes)) (sym same) ∙ stand.0 ∙ ap (λ (s : ℕ × Live). Some s.1) same)
  where
    by_entry : (o : Option (ℕ × Live)) → option_map (λ (e : ℕ × Live). e.1) o ≡ Some x → option_map (λ (e : ℕ × Live). number_by by e.1) o ≡ Some (number_by by x)
    by_entry None told = let e : None ≡ Some x = told in absurd (cc)
    by_entry (Some e) told = let both : Some e.1 ≡ Some x = told in let one : e.1 ≡ x = cc in ap (λ y. Some (number_by by y)) one
stand_at by lanes (r ∷ rs) (suc i) key x stand is = stand_at by lanes rs i key x stand.1 is

-- a request's key, behind the keys of lesser numbers
module _ {by : By} {requests : List (ℕ × Live)} {keys : List ℕ} (o : IsOrderOf by requests keys) (lanes : List Entries) (stand : Stand lanes requests) (i key : ℕ) (x : Live) (at : slice_get requests i ≡ Some (key, x)) (found : any_by by x ≡ true)
    (first n : ℕ) (number : n ≡ number_by by x) (bound : first ≤ length keys) (lesser_before : FrontIsLesser by lanes keys first n) where
  reads_all : Reads by lanes o.pairs
  reads_all = order_reads by lanes requests o.pairs stand o.ordering

  numbered : number_at by lanes key ≡ Some (number_by by x)
  numbered = stand_at by lanes requests i key x stand at

  inside_pairs : first ≤ length o.pairs
  inside_pairs = let long = ap length o.keys_are ∙ length-map o.pairs key_in in omega (arith, bound, long)

  lesser : Before o.pairs first (number_by by x)
  lesser = rw number at lesser_before o.pairs o.keys_are reads_all o.rises

  pub key_there : IsSome (position (λ k. k == key) (drop first keys))
  key_there = rw o.keys_are (key_behind by lanes o.pairs reads_all (number_by by x) key numbered first inside_pairs lesser (pair_there o.ordering (number_by by x) key (column_has (any_by by) (number_by by) requests i (key, x) at found)))

  module _ (j : ℕ) (is : position (λ k. k == key) (drop first keys) ≡ Some j) where
    taken_there : TakenAt by lanes o.pairs reads_all (number_by by x) key numbered first inside_pairs lesser (first + j)
    taken_there = taken_at by lanes o.pairs reads_all (number_by by x) key numbered first inside_pairs lesser j (ap (λ ks. position (λ k. k == key) (drop first ks)) (sym o.keys_are) ∙ is)

    pub place_in : first + j < length keys
    place_in = let inside = taken_there.inside in let long = ap length o.keys_are ∙ length-map o.pairs key_in in omega (arith, inside, long)

    pub order_left : Distinct key_of requests → IsOrderOf by (remove requests i) (remove keys (first + j))
    order_left apart = order_taken o i key (first + j) x at apart found taken_there.inside taken_there.left

pub stand_front : (lanes : List Entries) (rs : List (ℕ × Live)) (r : ℕ × Live) → Stand lanes (rs ++ r ∷ []) → Stand lanes rs
stand_front lanes [] r stand = tt
stand_front lanes (s ∷ rs) r stand = (stand.0, stand_front lanes rs r stand.1)

pub stand_all : (lanes : List Entries) (ks : List ℕ) → IsKeyed itself (λ k. find_in k lanes) ks → Stand lanes (zip ks (map (λ (e : ℕ × Live). e.1) (listed itself (λ k. find_in k lanes) ks)))
stand_all lanes [] kept = tt
stand_all lanes (k ∷ ks) kept =
    let e = entry_of itself (λ j. find_in j lanes) k kept.0 in
    rw e.1 (ap (option_map (λ (x : ℕ × Live). x.1)) e.1, stand_all lanes ks kept.2)
