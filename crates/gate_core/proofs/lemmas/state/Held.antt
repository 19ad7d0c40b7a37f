-- The requests in flight, of which one has its place among both lists: it is the first that passes a test, and is taken
-- out there.
use Rattle.std.proofs.Common.{◌≡◌, ℕ, zero, suc, ◌+◌, ◌-◌, ◌<◌, ◌≤◌, Bool, true, false, cond, not, ltb, List, [], ◌∷◌, ◌++◌, length, Some, None, slice_get, refl, sym, ap, subst, ◌∙◌, ◌^◌, arith}
use Rattle.std.specs.List.{find, position, position_or_len, remove}
use Rattle.std.proofs.lemmas.Bool.{lt-ltb, le-ltb}
use Rattle.std.proofs.lemmas.List.{length-append}
use Rattle.std.proofs.lemmas.List.Folds.{find_at}
use Rattle.std.proofs.lemmas.Option.{slice_get_within}
use Rattle.unlink_race.specs.declared.live.Live.{Live}
use Rattle.unlink_race.specs.Firsts.{without_first}
use Rattle.unlink_race.specs.Requests.{Requests, in_flight, without_at}
use Rattle.unlink_race.proofs.Firsts.{remove_first, position_found, find_past, took_first}
use Rattle.usbip_urb.specs.declared.code.TheConstants.{MAX_LIVE}
use Rattle.gate_core.specs.declared.state.kept.Kept.{Kept}
use Rattle.gate_core.specs.inner.state.Holds.{IsRow, IsKept}
use Rattle.gate_history.proofs.lemmas.Lists.{Each}

-- ---- the place of the first that passes, in two lists one behind the other

module _ {X : Type 0} (p : X → Bool) where
  ahead : (xs ys : List X) → position_or_len p (xs ++ ys) < length xs → position_or_len p xs ≡ position_or_len p (xs ++ ys)
  ahead [] ys lt = absurd (omega (arith, lt))
  ahead (x ∷ xs) ys lt =
      let rest = ahead xs ys in
      elim (p x) as (λ b. cond (not b) (1 + position_or_len p (xs ++ ys)) 0 < length (x ∷ xs) → cond (not b) (1 + position_or_len p xs) 0 ≡ cond (not b) (1 + position_or_len p (xs ++ ys)) 0) [
        | true ↦ λ h. refl
        | false ↦ λ h. ap (λ n. 1 + n) (rest (omega (arith, h)))
      ] lt

  behind : (xs ys : List X) → length xs ≤ position_or_len p (xs ++ ys) → (length xs ≤ position_or_len p xs) × (position_or_len p (xs ++ ys) ≡ position_or_len p ys + length xs)
  behind [] ys le = (omega arith, omega arith)
  behind (x ∷ xs) ys le =
      let rest = behind xs ys in
      elim (p x) as (λ b. length (x ∷ xs) ≤ cond (not b) (1 + position_or_len p (xs ++ ys)) 0 → (length (x ∷ xs) ≤ cond (not b) (1 + position_or_len p xs) 0) × (cond (not b) (1 + position_or_len p (xs ++ ys)) 0 ≡ position_or_len p ys + length (x ∷ xs))) [
        | true ↦ λ h. absurd (omega (arith, h))
        | false ↦ λ h. (let r = rest (omega (arith, h)) in (omega (arith, r.0), omega (arith, r.1)))
      ] le

  pub first-ahead : (xs ys : List X) (i : ℕ) → position p (xs ++ ys) ≡ Some i → i < length xs → (find p xs ≡ slice_get xs i) × (remove xs i ≡ without_first p xs)
  first-ahead xs ys i is lt =
      let at = (position_found p (xs ++ ys) i is).0 in
      let same : i ≡ position_or_len p xs = at ∙ sym (ahead xs ys (omega (arith, lt, at))) in
      (find_at p xs ∙ ap (slice_get xs) (sym same), ap (remove xs) same ∙ remove_first p xs)

  pub first-behind : (xs ys : List X) (i : ℕ) → position p (xs ++ ys) ≡ Some i → length xs ≤ i → (find p xs ≡ None) × (remove ys (i - length xs) ≡ without_first p ys)
  first-behind xs ys i is le =
      let at = (position_found p (xs ++ ys) i is).0 in
      let past = behind xs ys (omega (arith, le, at)) in
      let same : i - length xs ≡ position_or_len p ys = omega (arith, at, past.1) in
      ((find_past p xs past.0).0, ap (remove ys) same ∙ remove_first p ys)

-- ---- it is read, and taken out

not_there : {X : Type 0} (xs : List X) (i : ℕ) → slice_get xs i ≡ None → length xs ≤ i
not_there [] i none = omega arith
not_there (x ∷ xs) zero none = let e : Some x ≡ None = none in absurd (cc)
not_there (x ∷ xs) (suc i) none = let rest = not_there xs i none in omega (arith, rest)

pub there : {X : Type 0} (xs : List X) (i : ℕ) → i < length xs → (x : X) × (slice_get xs i ≡ Some x)
there [] i within = absurd (omega (arith, within))
there (x ∷ xs) zero within = (x, refl)
there (x ∷ xs) (suc i) within = there xs i (omega (arith, within))

pub there-too : {X : Type 0} (xs ys : List X) (i : ℕ) (x : X) → slice_get xs i ≡ Some x → slice_get (xs ++ ys) i ≡ Some x
there-too [] ys i x is = let e : None ≡ Some x = is in absurd (cc)
there-too (y ∷ xs) ys zero x is = is
there-too (y ∷ xs) ys (suc i) x is = there-too xs ys i x is

pub each-at : {X : Type 0} (P : X → Type 0) (xs : List X) (i : ℕ) (x : X) → Each P xs → slice_get xs i ≡ Some x → P x
each-at P [] i x h is = let e : None ≡ Some x = is in absurd (cc)
each-at P (y ∷ ys) zero x h is =
    let e : Some y ≡ Some x = is in
    let same : y ≡ x = cc in
    subst P same h.0
each-at P (y ∷ ys) (suc i) x h is = each-at P ys i x h.1 is

-- the one that has the place
pub record IsThere (p : Live → Bool) (r : Requests) (i : ℕ) : Type 0 where
  pub live : Live
  pub at : slice_get (in_flight r) i ≡ Some live
  pub found : find p (in_flight r) ≡ Some live

without-live : (r : Requests) (i : ℕ) → i < length r.live → without_at i r ≡ record r { live = remove r.live i }
without-live r i lt = rw (lt-ltb i (length r.live) lt) refl

without-left : (r : Requests) (i : ℕ) → length r.live ≤ i → without_at i r ≡ record r { abandoned = remove r.abandoned (i - length r.live) }
without-left r i le = rw (le-ltb i (length r.live) le) refl

module _ (p : Live → Bool) (r : Requests) (i : ℕ) (is : position p (in_flight r) ≡ Some i) where
  within-both : i < length (in_flight r)
  within-both = (position_found p (in_flight r) i is).1

  pub is-there : IsThere p r i
  is-there =
      let one = there (in_flight r) i within-both in
      record { live = one.0; at = one.1; found = sym (took_first p (in_flight r) i is).0 ∙ one.1 }

  pub live-taken : (l : Live) → slice_get r.live i ≡ Some l → (find p r.live ≡ Some l) × (without_at i r ≡ record r { live = without_first p r.live })
  live-taken l there =
      let within = slice_get_within r.live i l there in
      let first = first-ahead p r.live r.abandoned i is within in
      (first.0 ∙ there, without-live r i within ∙ ap (λ (ls : List Live). record r { live = ls }) first.1)

  pub left-taken : slice_get r.live i ≡ None → (find p r.live ≡ None) × (without_at i r ≡ record r { abandoned = without_first p r.abandoned })
  left-taken none =
      let past = not_there r.live i none in
      let first = first-behind p r.live r.abandoned i is past in
      (first.0, without-left r i past ∙ ap (λ (ls : List Live). record r { abandoned = ls }) first.1)

-- a live one is found, and is no more
pub number-taken : (p : Live → Bool) (r : Requests) (i : ℕ) → position p r.live ≡ Some i → without_at i r ≡ record r { live = without_first p r.live }
number-taken p r i is = without-live r i (position_found p r.live i is).1 ∙ ap (λ (ls : List Live). record r { live = ls }) (took_first p r.live i is).1

-- it stands among both lists, too
pub among-both : (p : Live → Bool) (r : Requests) (i : ℕ) → position p r.live ≡ Some i → i < length (in_flight r)
among-both p r i is = let within = (position_found p r.live i is).1 in let both = length-append r.live r.abandoned in omega (arith, within, both)

-- what has its place among both lists is what has it among the live
pub among-live : (p : Live → Bool) (r : Requests) (i : ℕ) (l : Live) → position p r.live ≡ Some i → slice_get (in_flight r) i ≡ Some l → slice_get r.live i ≡ Some l
among-live p r i l is both = let one = there r.live i (position_found p r.live i is).1 in one.1 ∙ sym (there-too r.live r.abandoned i one.0 one.1) ∙ both

-- ---- what stays so of those that are left

each-removed : {X : Type 0} (P : X → Type 0) (xs : List X) (i : ℕ) → Each P xs → Each P (remove xs i)
each-removed P [] zero h = tt
each-removed P [] (suc i) h = tt
each-removed P (x ∷ xs) zero h = h.1
each-removed P (x ∷ xs) (suc i) h = (h.0, each-removed P xs i h.1)

length-removed : {X : Type 0} (xs : List X) (i : ℕ) → length (remove xs i) ≤ length xs
length-removed [] zero = omega arith
length-removed [] (suc i) = omega arith
length-removed (x ∷ xs) zero = omega arith
length-removed (x ∷ xs) (suc i) = let rest = length-removed xs i in omega (arith, rest)

none-removed : {X : Type 0} (xs : List X) (i : ℕ) → xs ≡ [] → remove xs i ≡ []
none-removed [] zero e = refl
none-removed [] (suc i) e = refl
none-removed (x ∷ xs) i e = absurd (cc)

pub record IsFewer (P : Live → Type 0) (r left : Requests) : Type 0 where
  pub each : Each P r.live → Each P left.live
  pub few : length left.live ≤ length r.live
  pub left_few : length left.abandoned ≤ length r.abandoned
  pub none_left : r.abandoned ≡ [] → left.abandoned ≡ []

pub is-fewer : (P : Live → Type 0) (r : Requests) (i : ℕ) → IsFewer P r (without_at i r)
is-fewer P r i = of (ltb i (length r.live))
  where
    of : (b : Bool) → IsFewer P r (cond b (record r { live = remove r.live i }) (record r { abandoned = remove r.abandoned (i - length r.live) }))
    of true = record { each = each-removed P r.live i; few = length-removed r.live i; left_few = omega arith; none_left = λ h. h }
    of false = record { each = λ h. h; few = omega arith; left_few = length-removed r.abandoned (i - length r.live); none_left = none-removed r.abandoned (i - length r.live) }

-- ---- what is kept stays sound

-- with other requests and counts
pub with-requests : (t : Kept) (lives : Requests) (answered unlinked : ℕ) → IsKept t → Each (IsRow t.sides.agreed) lives.live → (t.sides.imported ≡ true → lives.abandoned ≡ []) →
    length lives.live ≤ MAX_LIVE → length lives.abandoned ≤ MAX_LIVE → answered ≤ 2 ^ 64 - 1 → unlinked ≤ 2 ^ 64 - 1 → IsKept (record t { lives = lives; answered = answered; unlinked = unlinked })
with-requests t lives answered unlinked k rows apart few left answered_fits unlinked_fits = record {
  rows = rows;
  apart = apart;
  few = few;
  left = left;
  places = k.places;
  started = k.started;
  stopped = k.stopped;
  answered_fits = answered_fits;
  unlinked_fits = unlinked_fits;
  dropped_fits = k.dropped_fits;
}

-- with one less
pub without-one : (t : Kept) (i : ℕ) (lives : Requests) (answered unlinked : ℕ) → IsKept t → lives ≡ without_at i t.lives →
    answered ≤ 2 ^ 64 - 1 → unlinked ≤ 2 ^ 64 - 1 → IsKept (record t { lives = lives; answered = answered; unlinked = unlinked })
without-one t i lives answered unlinked k is answered_fits unlinked_fits =
    let fewer = is-fewer (IsRow t.sides.agreed) t.lives i in
    subst (λ (r : Requests). IsKept (record t { lives = r; answered = answered; unlinked = unlinked })) (sym is)
    (with-requests t (without_at i t.lives) answered unlinked k (fewer.each k.rows) (λ h. fewer.none_left (k.apart h))
    (omega (arith, k.few, fewer.few)) (omega (arith, k.left, fewer.left_few)) answered_fits unlinked_fits)
