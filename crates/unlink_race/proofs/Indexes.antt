-- What the index has of the requests, as one comes, as one ends, and as one is looked for.
use Rattle.std.proofs.Common.{◌≡◌, ◌≢◌, ◌==◌, ◌&&◌, ℕ, zero, suc, ◌+◌, ◌<◌, ◌≤◌, Bool, true, false, cond, List, [], ◌∷◌, ◌++◌, length, filter, set, Some, option_map, is_some, refl, ap, sym, subst, ◌∙◌, arith, inl, inr}
use Rattle.std.specs.List.{find, list_any, remove, slice_get, zip}
use Rattle.std.proofs.lemmas.Bool.{eq-eqb, ne_eqb, cases_eq, cases_Bool, false≢true}
use lib.ListN.{length-set}
use Rattle.std.proofs.lemmas.List.{length-append, length-map}
use Rattle.std.proofs.lemmas.List.Edits.{length-remove}
use Rattle.std.proofs.lemmas.List.Sums.{count_by-le-length}
use Rattle.std.proofs.lemmas.List.Elements.{filter-append}
use Rattle.std.proofs.lemmas.Option.{slice_get_within, get_or_from_slice_get}
use Rattle.std.proofs.lemmas.Slice.Zip.{length-zip}
use Rattle.std.proofs.Math.Bool.{and-false, or-true}
use Rattle.unlink_race.specs.declared.live.Live.{Live}
use Rattle.unlink_race.specs.declared.by_number.By.{By}
use Rattle.unlink_race.specs.declared.by_number.By.TheVariants.{Seqnum, Id}
use Rattle.unlink_race.specs.declared.index.Index.{Index}
use Rattle.unlink_race.specs.Firsts.{without_first}
use Rattle.unlink_race.specs.Searches.{changes}
use Rattle.unlink_race.specs.Inner.Indexed.{number_by, any_by, found_by, column, is_pair, with_number, IsOrdering, IsOrderOf, IsIndexed}
use Rattle.urb_arena.specs.Distinct.{Distinct}
use Rattle.unlink_race.proofs.Counts.{count_pushed, count_removed, count_changed}
use Rattle.unlink_race.proofs.Firsts.{first_passing, filter-without_first}
use Rattle.unlink_race.proofs.Rows.{absent_at}
use Rattle.unlink_race.proofs.Zipped.{key_of, zip_pushed, zip_removed}

abbrev pub Pairs : Type 0
Pairs = List (ℕ × ℕ)

pub ordering_back : {ps qs : Pairs} → IsOrdering ps qs → IsOrdering qs ps
ordering_back o = record { each = λ n. sym (o.each n); size = sym o.size }

-- ---- lists without the first that passes

module _ {X : Type 0} (p q : X → Bool) (within : (x : X) → p x ≡ true → q x ≡ true) where
  filter_within : (xs : List X) → filter q (without_first p xs) ≡ without_first p (filter q xs)
  filter_within [] = refl
  filter_within (x ∷ xs) =
      elim (cases_Bool (p x)) [
        | inl here ↦ rw (here, within x here, here) refl
        | inr other ↦
            elim (cases_Bool (q x)) [
              | inl kept ↦ rw (other, kept, other) (ap (λ ys. x ∷ ys) (filter_within xs))
              | inr away ↦ rw (other, away) (filter_within xs)
            ]
      ]

  any_within : (xs : List X) → list_any p (filter q xs) ≡ list_any p xs
  any_within [] = refl
  any_within (x ∷ xs) =
      elim (cases_Bool (p x)) [
        | inl here ↦ rw (within x here, here) refl
        | inr other ↦
            elim (cases_Bool (q x)) [
              | inl kept ↦ rw (kept, other) (any_within xs)
              | inr away ↦ rw (away, other) (any_within xs)
            ]
      ]

one_fewer : {X : Type 0} (p : X → Bool) (xs : List X) → list_any p xs ≡ true → length (without_first p xs) + 1 ≡ length xs
one_fewer p [] any = absurd (false≢true any)
one_fewer p (x ∷ xs) any =
    elim (cases_Bool (p x)) [
      | inl here ↦ rw here (omega arith)
      | inr other ↦ (let later = one_fewer p xs (rw other at any) in rw other (omega (arith, later)))
    ]

-- ---- pairs of one number

of_number : (m k : ℕ) (p : ℕ × ℕ) → is_pair m k p ≡ true → (p.0 == m) ≡ true
of_number m k p is =
    elim (cases_Bool (p.0 == m)) [
      | inl same ↦ same
      | inr other ↦ absurd (false≢true (sym (ap (λ b. b && (p.1 == k)) other) ∙ is))
    ]

of_no_other : (n m k : ℕ) → n ≢ m → (p : ℕ × ℕ) → (p.0 == n) ≡ true → is_pair m k p ≡ false
of_no_other n m k other p is =
    elim (cases_eq p.0 m) [
      | inl same ↦
          elim (cases_eq p.0 n) [
            | inl this ↦ absurd (other (sym this ∙ same))
            | inr away ↦ absurd (false≢true (sym (ne_eqb p.0 n away) ∙ is))
          ]
      | inr away ↦ ap (λ b. b && (p.1 == k)) (ne_eqb p.0 m away)
    ]

without_is : (n m k : ℕ) (ps qs : Pairs) → with_number n ps ≡ with_number n qs → with_number n (without_first (is_pair m k) ps) ≡ with_number n (without_first (is_pair m k) qs)
without_is n m k ps qs same =
    elim (cases_eq n m) [
      | inl this ↦ (
          let within : (p : ℕ × ℕ) → is_pair m k p ≡ true → (p.0 == n) ≡ true = λ p is. ap (λ j. p.0 == j) this ∙ of_number m k p is in
          filter_within (is_pair m k) (λ (p : ℕ × ℕ). p.0 == n) within ps ∙ ap (without_first (is_pair m k)) same ∙ sym (filter_within (is_pair m k) (λ (p : ℕ × ℕ). p.0 == n) within qs))
      | inr other ↦
          filter-without_first (is_pair m k) (λ (p : ℕ × ℕ). p.0 == n) (of_no_other n m k other) ps ∙ same ∙ sym (filter-without_first (is_pair m k) (λ (p : ℕ × ℕ). p.0 == n) (of_no_other n m k other) qs)
    ]

module _ {ps qs : Pairs} (o : IsOrdering ps qs) where
  pub ordering_pushed : (ps' more : Pairs) → ((n : ℕ) → with_number n ps' ≡ with_number n (ps ++ more)) → length ps' ≡ length ps + length more → IsOrdering ps' (qs ++ more)
  ordering_pushed ps' more each longer =
      record {
        each = λ n. each n ∙ filter-append (λ (p : ℕ × ℕ). p.0 == n) ps more ∙ ap (λ rs. rs ++ with_number n more) (o.each n) ∙ sym (filter-append (λ (p : ℕ × ℕ). p.0 == n) qs more);
        size = (let long = length-append qs more in let same = o.size in omega (arith, longer, long, same));
      }

  -- a pair of the one is in the other
  pub pair_there : (m k : ℕ) → list_any (is_pair m k) qs ≡ true → list_any (is_pair m k) ps ≡ true
  pair_there m k there =
      sym (any_within (is_pair m k) (λ (p : ℕ × ℕ). p.0 == m) (of_number m k) ps) ∙ ap (list_any (is_pair m k)) (o.each m) ∙ any_within (is_pair m k) (λ (p : ℕ × ℕ). p.0 == m) (of_number m k) qs ∙ there

  pub ordering_removed : (m k : ℕ) → list_any (is_pair m k) qs ≡ true → IsOrdering (without_first (is_pair m k) ps) (without_first (is_pair m k) qs)
  ordering_removed m k there =
      record {
        each = λ n. without_is n m k ps qs (o.each n);
        size = (let here = one_fewer (is_pair m k) ps (pair_there m k there) in let away = one_fewer (is_pair m k) qs there in let same = o.size in omega (arith, here, away, same));
      }

  -- the first of a number is the first of the other
  pub same_first : (n : ℕ) → find (λ (p : ℕ × ℕ). p.0 == n) ps ≡ find (λ (p : ℕ × ℕ). p.0 == n) qs
  same_first n =
      sym (first_passing (λ (p : ℕ × ℕ). p.0 == n) ps) ∙ ap (λ rs. slice_get rs 0) (o.each n) ∙ first_passing (λ (p : ℕ × ℕ). p.0 == n) qs

-- ---- the column of the requests

module _ (any : Live → Bool) (number : Live → ℕ) where
  pub column_pushed : (rs : List (ℕ × Live)) (r : ℕ × Live) → column any number (rs ++ r ∷ []) ≡ column any number rs ++ cond (any r.1) ((number r.1, r.0) ∷ []) []
  column_pushed [] r = refl
  column_pushed (s ∷ rs) r =
      elim (cases_Bool (any s.1)) [
        | inl here ↦ rw here (ap (λ ps. (number s.1, s.0) ∷ ps) (column_pushed rs r))
        | inr other ↦ rw other (column_pushed rs r)
      ]

  pub column_short : (rs : List (ℕ × Live)) → length (column any number rs) ≤ length rs
  column_short [] = omega arith
  column_short (r ∷ rs) =
      let later = column_short rs in
      elim (cases_Bool (any r.1)) [
        | inl here ↦ rw here (omega (arith, later))
        | inr other ↦ rw other (omega (arith, later))
      ]

  itself_there : (m k : ℕ) → is_pair m k (m, k) ≡ true
  itself_there m k = rw (eq-eqb m m refl, eq-eqb k k refl) refl

  pub column_has : (rs : List (ℕ × Live)) (i : ℕ) (r : ℕ × Live) → slice_get rs i ≡ Some r → any r.1 ≡ true → list_any (is_pair (number r.1) r.0) (column any number rs) ≡ true
  column_has [] i r is here = absurd (cc)
  column_has (s ∷ rs) zero r is here =
      let e : Some s ≡ Some r = is in
      let same : s ≡ r = cc in
      rw (same, here, itself_there (number r.1) r.0) refl
  column_has (s ∷ rs) (suc i) r is here =
      let later = column_has rs i r is here in
      elim (cases_Bool (any s.1)) [
        | inl first ↦ rw (first, later) (or-true (is_pair (number r.1) r.0 (number s.1, s.0)))
        | inr other ↦ rw other later
      ]

  pub column_removed : (rs : List (ℕ × Live)) (i : ℕ) (r : ℕ × Live) → slice_get rs i ≡ Some r → Distinct key_of rs → column any number (remove rs i) ≡ cond (any r.1) (without_first (is_pair (number r.1) r.0) (column any number rs)) (column any number rs)
  column_removed [] i r is apart = absurd (cc)
  column_removed (s ∷ rs) zero r is apart =
      let e : Some s ≡ Some r = is in
      let same : s ≡ r = cc in
      rw same (
      elim (cases_Bool (any r.1)) [
        | inl here ↦ rw (here, itself_there (number r.1) r.0) refl
        | inr other ↦ rw other refl
      ])
  column_removed (s ∷ rs) (suc i) r is apart =
      let within : i < length rs = slice_get_within rs i r is in
      let away : r.0 ≢ s.0 = absent_at key_of s.0 rs i r within (sym (get_or_from_slice_get rs i r r is)) apart.0 in
      let stays : is_pair (number r.1) r.0 (number s.1, s.0) ≡ false = ap (λ b. (number s.1 == number r.1) && b) (ne_eqb s.0 r.0 (λ h. away (sym h))) ∙ and-false (number s.1 == number r.1) in
      let later = column_removed rs i r is apart.1 in
      elim (cases_Bool (any s.1)) [
        | inl first ↦ rw (first, later) (ahead (any r.1) stays)
        | inr other ↦ rw other later
      ]
    where
      ahead : (b : Bool) → is_pair (number r.1) r.0 (number s.1, s.0) ≡ false → (number s.1, s.0) ∷ cond b (without_first (is_pair (number r.1) r.0) (column any number rs)) (column any number rs) ≡ cond b (without_first (is_pair (number r.1) r.0) ((number s.1, s.0) ∷ column any number rs)) ((number s.1, s.0) ∷ column any number rs)
      ahead true stays = rw stays refl
      ahead false stays = refl

  pub column_changed : (ks : List ℕ) (xs : List Live) (i : ℕ) (x y : Live) → slice_get xs i ≡ Some x → any y ≡ any x → number y ≡ number x → column any number (zip ks (set xs i y)) ≡ column any number (zip ks xs)
  column_changed [] xs i x y is same one = refl
  column_changed (k ∷ ks) [] i x y is same one = absurd (cc)
  column_changed (k ∷ ks) (z ∷ xs) zero x y is same one =
      let e : Some z ≡ Some x = is in
      let here : z ≡ x = cc in
      rw (here, same, one) refl
  column_changed (k ∷ ks) (z ∷ xs) (suc i) x y is same one = ap (λ ps. cond (any z) ((number z, k) ∷ ps) ps) (column_changed ks xs i x y is same one)

  pub column_found : (n : ℕ) (rs : List (ℕ × Live)) → option_map (λ (p : ℕ × ℕ). p.1) (find (λ (p : ℕ × ℕ). p.0 == n) (column any number rs)) ≡ option_map (λ (r : ℕ × Live). r.0) (find (λ (r : ℕ × Live). any r.1 && (number r.1 == n)) rs)
  column_found n [] = refl
  column_found n (r ∷ rs) =
      elim (cases_Bool (any r.1)) [
        | inl here ↦
            elim (cases_Bool (number r.1 == n)) [
              | inl same ↦ rw (here, same) refl
              | inr other ↦ rw (here, other) (column_found n rs)
            ]
        | inr other ↦ rw other (column_found n rs)
      ]

-- ---- the index

pub zip_short : (keys : List ℕ) (lives : List Live) → length keys ≡ length lives → length (zip keys lives) ≤ length lives
zip_short keys lives long = let e = length-zip keys lives in omega (arith, e, long)

module _ {by : By} {requests : List (ℕ × Live)} {keys : List ℕ} (o : IsOrderOf by requests keys) where
  long_order : length keys ≡ length o.pairs
  long_order = ap length o.keys_are ∙ length-map o.pairs (λ (p : ℕ × ℕ). p.1)

  pub order_short : length keys ≤ length requests
  order_short = let a = long_order in let b = o.ordering in let c = b.size in let d = column_short (any_by by) (number_by by) requests in omega (arith, a, c, d)

  -- by each name of the column
  pub same_column : (others : List (ℕ × Live)) → column (any_by by) (number_by by) others ≡ column (any_by by) (number_by by) requests → IsOrderOf by others keys
  same_column others same = record { pairs = o.pairs; keys_are = o.keys_are; rises = o.rises; ordering = rw same o.ordering }

  pub leads : (n : ℕ) → option_map (λ (p : ℕ × ℕ). p.1) (find (λ (p : ℕ × ℕ). p.0 == n) o.pairs) ≡ option_map (λ (r : ℕ × Live). r.0) (find (λ (r : ℕ × Live). found_by by n r.1) requests)
  leads n = ap (option_map (λ (p : ℕ × ℕ). p.1)) (same_first o.ordering n) ∙ column_found (any_by by) (number_by by) n requests

pub order_of : {by : By} {requests others : List (ℕ × Live)} {keys : List ℕ} → others ≡ requests → IsOrderOf by requests keys → IsOrderOf by others keys
order_of {by = by} {keys = keys} same o = let P : List (ℕ × Live) → Type 0 = λ rs. IsOrderOf by rs keys in subst P (sym same) o

module _ {keys : List ℕ} {lives : List Live} {index : Index} (s : IsIndexed keys lives index) where
  pub index_changed : (i : ℕ) (x y : Live) → slice_get lives i ≡ Some x → y.kind ≡ x.kind → y.seqnum ≡ x.seqnum → y.id ≡ x.id → IsIndexed keys (set lives i y) index
  index_changed i x y is kind seqnum same_id =
      record {
        long = s.long ∙ sym (length-set lives i y);
        seqnums = same_column s.seqnums (zip keys (set lives i y)) (column_changed (any_by Seqnum) (number_by Seqnum) keys lives i x y is refl seqnum);
        held = same_column s.held (zip keys (set lives i y)) (column_changed (any_by Id) (number_by Id) keys lives i x y is (rw kind refl) same_id);
        changes = s.changes ∙ sym (count_changed changes lives i x y is (rw kind refl));
      }

  pub seqnum_room : length index.seqnums ≤ length lives
  seqnum_room = let a = order_short s.seqnums in let b = zip_short keys lives s.long in omega (arith, a, b)

  pub held_room : length index.held ≤ length lives
  held_room = let a = order_short s.held in let b = zip_short keys lives s.long in omega (arith, a, b)

  pub changes_few : index.changes ≤ length lives
  changes_few = let a = s.changes in let b = count_by-le-length changes lives in omega (arith, a, b)

  -- the parts are written out, so that the callers' clauses fit
  pub index_pushed : (index' : Index) (k : ℕ) (x : Live) → IsOrderOf Seqnum (zip keys lives ++ (k, x) ∷ []) index'.seqnums → IsOrderOf Id (zip keys lives ++ (k, x) ∷ []) index'.held → index'.changes ≡ index.changes + cond (changes x) 1 0 → IsIndexed (keys ++ k ∷ []) (lives ++ x ∷ []) index'
  index_pushed index' k x numbers held more =
      let whole = zip_pushed keys lives k x s.long in
      record {
        long = (let a = length-append keys (k ∷ []) in let b = length-append lives (x ∷ []) in let c = s.long in omega (arith, a, b, c));
        seqnums = order_of whole numbers;
        held = order_of whole held;
        changes = more ∙ ap (λ n. n + cond (changes x) 1 0) s.changes ∙ sym (count_pushed changes lives x);
      }

  module _ (i k : ℕ) (x : Live) (key : slice_get keys i ≡ Some k) (live : slice_get lives i ≡ Some x) where
    -- one that changes the interfaces is among those that are counted
    pub change_counted : cond (changes x) 1 0 ≤ index.changes
    change_counted = omega (arith, s.changes, count_removed changes lives i x live)

    pub index_removed : (index' : Index) → IsOrderOf Seqnum (remove (zip keys lives) i) index'.seqnums → IsOrderOf Id (remove (zip keys lives) i) index'.held → index'.changes + cond (changes x) 1 0 ≡ index.changes → IsIndexed (remove keys i) (remove lives i) index'
    index_removed index' numbers held less =
        let left = zip_removed keys lives i in
        record {
          long = (let a = length-remove keys i (slice_get_within keys i k key) in let b = length-remove lives i (slice_get_within lives i x live) in let c = s.long in omega (arith, a, b, c));
          seqnums = order_of left numbers;
          held = order_of left held;
          changes = omega (arith, less, s.changes, count_removed changes lives i x live);
        }

-- ---- one is looked for

pub zip_any : (test : Live → Bool) (keys : List ℕ) (lives : List Live) → length keys ≡ length lives → is_some (option_map (λ (r : ℕ × Live). r.0) (find (λ (r : ℕ × Live). test r.1) (zip keys lives))) ≡ list_any test lives
zip_any test [] [] long = refl
zip_any test [] (x ∷ xs) long = absurd (omega (arith, long))
zip_any test (k ∷ ks) [] long = absurd (omega (arith, long))
zip_any test (k ∷ ks) (x ∷ xs) long =
    elim (cases_Bool (test x)) [
      | inl here ↦ rw here refl
      | inr other ↦ rw other (zip_any test ks xs (omega (arith, long)))
    ]
