-- Lists, of which one in the middle is taken out.
use Rattle.std.proofs.Common.{◌≡◌, ℕ, zero, suc, ◌≤◌, not, Bool, true, false, cond, List, [], ◌∷◌, ◌++◌, filter, Some, refl, ap, ◌∙◌, arith}
use Rattle.std.specs.List.{find, count_by, AllByRecursion as Each}
use Rattle.std.specs.Prelude.{slice_set}
use Rattle.direct_device.specs.Direct.{Live, is_number}
use Rattle.direct_proof.proofs.lists.Counts.{count-cons, count-append, zero-count}

-- ---- lists

abbrev pub AreApart : List Live → Type 0
AreApart ls = (n : ℕ) → count_by (λ (l : Live). is_number n l.load) ls ≤ 1

pub set-twice : {X : Type 0} (xs : List X) (i : ℕ) (a b : X) → slice_set (slice_set xs i a) i b ≡ slice_set xs i b
set-twice [] i a b = refl
set-twice (x ∷ xs) zero a b = refl
set-twice {X = X} (x ∷ xs) (suc i) a b = ap (λ (l : List X). x ∷ l) (set-twice xs i a b)

pub find-middle : {X : Type 0} (p : X → Bool) (xs : List X) (x : X) (ys : List X) → Each (λ y. p y ≡ false) xs → p x ≡ true → find p (xs ++ x ∷ ys) ≡ Some x
find-middle p [] x ys h k = ap (λ (b : Bool). cond b (Some x) (find p ys)) k
find-middle p (z ∷ xs) x ys h k = ap (λ (b : Bool). cond b (Some z) (find p (xs ++ x ∷ ys))) h.0 ∙ find-middle p xs x ys h.1 k

none-left : {X : Type 0} (p : X → Bool) (xs : List X) → Each (λ y. p y ≡ false) xs → filter (λ y. not (p y)) xs ≡ xs
none-left p [] h = refl
none-left {X = X} p (x ∷ xs) h = (λ i. cond (not (h.0 i)) (x ∷ none-left p xs h.1 i) (none-left p xs h.1 i))

pub filter-middle : {X : Type 0} (p : X → Bool) (xs : List X) (x : X) (ys : List X) → Each (λ y. p y ≡ false) xs → p x ≡ true → Each (λ y. p y ≡ false) ys → filter (λ y. not (p y)) (xs ++ x ∷ ys) ≡ xs ++ ys
filter-middle p [] x ys h k n = ap (λ (b : Bool). cond (not b) (x ∷ filter (λ y. not (p y)) ys) (filter (λ y. not (p y)) ys)) k ∙ none-left p ys n
filter-middle {X = X} p (z ∷ xs) x ys h k n = (λ i. cond (not (h.0 i)) (z ∷ filter-middle p xs x ys h.1 k n i) (filter-middle p xs x ys h.1 k n i))

abbrev pub weight : Bool → ℕ
weight b = cond b 1 0

-- the others have other numbers
pub others : {X : Type 0} (p : X → Bool) (xs : List X) (x : X) (ys : List X) → count_by p (xs ++ x ∷ ys) ≤ 1 → p x ≡ true → Each (λ y. p y ≡ false) xs × Each (λ y. p y ≡ false) ys
others p xs x ys few k =
    let w : weight (p x) ≡ 1 = ap weight k in
    let c = count-append p xs (x ∷ ys) in
    let d = count-cons p x ys in
    (zero-count p xs (omega (arith, few, w, c, d)), zero-count p ys (omega (arith, few, w, c, d)))

pub apart-middle : (xs : List Live) (x : Live) (ys : List Live) → AreApart (xs ++ x ∷ ys) → AreApart (xs ++ ys)
apart-middle xs x ys h = λ n. let p : Live → Bool = λ l. is_number n l.load in let few = h n in omega (arith, few, count-append p xs (x ∷ ys), count-append p xs ys, count-cons p x ys)
