-- How a text is cut into lines.
use Rattle.std.proofs.Common.{◌≡◌, ℕ, ◌+◌, ◌<◌, ◌≤◌, suc, Bool, true, false, cond, not, List, [], ◌∷◌, ◌++◌, length, get_or, take, nat_eq, nat_lt, position, Some, None, refl, sym, ap, ◌∙◌, eq-eqb, add-one, arith}
use Rattle.std.proofs.lemmas.List.{get_or-take, length-take}
use Rattle.std.proofs.lemmas.List.Quantifiers.{position-Some}
use Rattle.std.proofs.lemmas.List.Sums.{prefix_len_passes}
use Rattle.std.proofs.lemmas.Option.{none-some}
use Rattle.std.proofs.Math.Seq.{take-suc}
use Rattle.std.proofs.lemmas.Bool.{eqb-true, ltb-false, false_from_ne_true, not-true}
use Rattle.std.specs.List.{position_or_len, onto_first}
use Rattle.tape_run.specs.tape.Tape.{lines_of}
use Rattle.tape_run.specs.Run.{EndsALine, HasNoLF}

-- ---- LFs

not_lf : (b : ℕ) → (b ≡ 10 → ⊥) → nat_eq b 10 ≡ false
not_lf b ne = false_from_ne_true (nat_eq b 10) (λ e. ne (eqb-true b 10 e))

pub HasNoLF-append : (xs ys : List ℕ) → HasNoLF xs → HasNoLF ys → HasNoLF (xs ++ ys)
HasNoLF-append [] ys p q = q
HasNoLF-append (x ∷ xs) ys p q = (p.0, HasNoLF-append xs ys p.1 q)

pub EndsALine-append : (whole line : List ℕ) → EndsALine whole → EndsALine (line ++ 10 ∷ []) → EndsALine (whole ++ (line ++ 10 ∷ []))
EndsALine-append [] line p q = q
EndsALine-append (b ∷ []) [] p q = q
EndsALine-append (b ∷ []) (x ∷ xs) p q = q
EndsALine-append (b ∷ c ∷ bs) line p q = EndsALine-append (c ∷ bs) line p q

pub EndsALine-line : (line : List ℕ) → EndsALine (line ++ 10 ∷ [])
EndsALine-line [] = refl
EndsALine-line (b ∷ []) = refl
EndsALine-line (b ∷ c ∷ bs) = EndsALine-line (c ∷ bs)

-- ---- the first line

pub lines_of-line : (part rest : List ℕ) → HasNoLF part → lines_of (part ++ 10 ∷ rest) ≡ (part ++ 10 ∷ []) ∷ lines_of rest
lines_of-line [] rest p = refl
lines_of-line (b ∷ bs) rest p =
    ap (λ (t : Bool). cond t ((10 ∷ []) ∷ lines_of (bs ++ 10 ∷ rest)) (onto_first b (lines_of (bs ++ 10 ∷ rest)))) (not_lf b p.0)
    ∙ ap (onto_first b) (lines_of-line bs rest p.1)

pub lines_of-last : (b : ℕ) (bs : List ℕ) → HasNoLF (b ∷ bs) → lines_of (b ∷ bs) ≡ (b ∷ bs) ∷ []
lines_of-last b [] p = ap (λ (t : Bool). cond t ((10 ∷ []) ∷ []) ((b ∷ []) ∷ [])) (not_lf b p.0)
lines_of-last b (c ∷ bs) p =
    ap (λ (t : Bool). cond t ((10 ∷ []) ∷ lines_of (c ∷ bs)) (onto_first b (lines_of (c ∷ bs)))) (not_lf b p.0) ∙ ap (onto_first b) (lines_of-last c bs p.1)

-- the first line, and the others
pub record First (text : List ℕ) (front : List ℕ) : Type 0 where
  pub more : List ℕ
  pub others : List (List ℕ)
  pub is : lines_of text ≡ (front ++ more) ∷ others

first_of : (b : ℕ) (lines : List (List ℕ)) → (more : List ℕ) × (others : List (List ℕ)) × (onto_first b lines ≡ (b ∷ more) ∷ others)
first_of b [] = ([], [], refl)
first_of b (line ∷ lines) = (line, lines, refl)

-- it begins with all that has come of it
pub first-part : (b : ℕ) (bs later : List ℕ) → HasNoLF (b ∷ bs) → First ((b ∷ bs) ++ later) (b ∷ bs)
first-part b [] later p =
    let f = first_of b (lines_of later) in
    record {
      more = f.0;
      others = f.1;
      is = ap (λ (t : Bool). cond t ((10 ∷ []) ∷ lines_of later) (onto_first b (lines_of later))) (not_lf b p.0) ∙ f.2;
    }
first-part b (c ∷ bs) later p =
    let f = first-part c bs later p.1 in
    record {
      more = f.more;
      others = f.others;
      is = ap (λ (t : Bool). cond t ((10 ∷ []) ∷ lines_of ((c ∷ bs) ++ later)) (onto_first b (lines_of ((c ∷ bs) ++ later)))) (not_lf b p.0) ∙ ap (onto_first b) f.is;
    }

-- ---- where the first LF is

no_lf : (xs : List ℕ) → ((k : ℕ) → k < length xs → nat_eq (get_or xs k 0) 10 ≡ false) → HasNoLF xs
no_lf [] h = tt
no_lf (x ∷ xs) h =
    let none : nat_eq x 10 ≡ false = h 0 (omega arith) in (
      λ e. let one : nat_eq x 10 ≡ true = eq-eqb x 10 e in cc,
      no_lf xs (λ k lt. h (suc k) (omega arith)),
    )

pub line_end-some : (xs : List ℕ) (i : ℕ) → position (λ b. nat_eq b 10) xs ≡ Some i → (i < length xs) × HasNoLF (take i xs) × (take (i + 1) xs ≡ take i xs ++ 10 ∷ [])
line_end-some xs i e =
    let at = position-Some (λ b. nat_eq b 10) xs i 0 e in (
      at.0,
      no_lf (take i xs) (λ k lt. let below : k < i = omega (arith, length-take i xs) in ap (λ (b : ℕ). nat_eq b 10) (get_or-take i xs k 0 below) ∙ at.2 k below),
      ap (λ (n : ℕ). take n xs) (add-one i) ∙ take-suc xs i 0 at.0 ∙ ap (λ (b : ℕ). take i xs ++ b ∷ []) (eqb-true (get_or xs i 0) 10 at.1),
    )

none_found : (xs : List ℕ) (n : ℕ) (t : Bool) → nat_lt n (length xs) ≡ t → cond t (Some n) None ≡ None → length xs ≤ n
none_found xs n true e none = absurd (none-some n (sym none))
none_found xs n false e none = ltb-false n (length xs) e

pub line_end-none : (xs : List ℕ) → position (λ b. nat_eq b 10) xs ≡ None → HasNoLF xs
line_end-none xs e =
    let all = none_found xs (position_or_len (λ b. nat_eq b 10) xs) _ refl e in
    no_lf xs (λ k lt. let below : k < position_or_len (λ b. nat_eq b 10) xs = omega arith in not-true _ (prefix_len_passes (λ b. not (nat_eq b 10)) xs k 0 below))
