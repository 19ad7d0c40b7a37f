-- Decimal texts of numbers, and the numbers of texts.
use Rattle.std.proofs.Common.{◌≡◌, ◌≢◌, ℕ, zero, suc, ◌<◌, ◌≤◌, ◌^◌, Bool, true, false, cond, nat_lt, ◌&&◌, Decides, List, length, get_or, Option, Some, None, Result, Ok, Err, MatchOption, refl, sym, ap, subst, ◌∙◌, arith, rules, tests}
use Rattle.std.specs.Fmt.{decimal}
use Rattle.std.specs.Str.{IsUtf8, bytes_eq}
use Rattle.std.specs.Str.Parse.{AllDigits, digits_value, IsNumeral, ParsesUnsigned}
use Rattle.std.specs.Result.{OkIff, result_ok}
use Rattle.std.proofs.lemmas.Bool.{false≢true}
use Rattle.std.proofs.lemmas.Bool.Decides.{Decides-and, Decides-ltb}
use Rattle.std.proofs.lemmas.Fmt.{decimal_digit, decimal_is_IsNumeral, first_decimal, IsAscii-decimal, decimal-digits_value, decimal_injective}
use Rattle.std.proofs.lemmas.Slice.Eq.{bytes_eq-Decides}
use Rattle.std.proofs.lemmas.Str.{IsUtf8-from_ascii}
use Rattle.std.proofs.lemmas.Str.Parse.{IsNumeralModel, numerals_by_value, tells_digits, digit_at, parse_plain}
use Rattle.packet_show.specs.Number.{IsNumber, is_written, number_of, begins_a_number}

own : IsNumeralModel (AllDigits 10) (digits_value 10)
own = numerals_by_value (AllDigits 10) tells_digits

-- what is read of a text is the number that is written so, and nothing where none is
abbrev pub Exact : List ℕ → Option ℕ → Type 0
Exact text r = MatchOption r ((n : ℕ) → IsNumber n → text ≢ decimal n) (λ n. IsNumber n × (text ≡ decimal n))

small : (n : ℕ) → IsNumber n → n < 2 ^ 64
small n is = omega (arith, is.fits)

numeral : (n : ℕ) → IsNumber n → IsNumeral 10 (decimal n) × (digits_value 10 (decimal n) ≡ n)
numeral n is = decimal_is_IsNumeral n (small n is)

decided : (text : List ℕ) (n : ℕ) → Decides (is_written text n) ((0 < n) × (n < 2 ^ 32) × (decimal n ≡ text))
decided text n =
    let range = Decides-and (nat_lt 0 n) (nat_lt n (2 ^ 32)) (Decides-ltb 0 n) (Decides-ltb n (2 ^ 32)) in
    let all = Decides-and (nat_lt 0 n && nat_lt n (2 ^ 32)) (bytes_eq (decimal n) text) range (bytes_eq-Decides (decimal n) text) in (
      λ is. let h = all.0 is in (h.0.0, h.0.1, h.1),
      λ h. all.1 ((h.0, h.1), h.2),
    )

written : (text : List ℕ) (n : ℕ) → IsNumber n → text ≡ decimal n → is_written text n ≡ true
written text n is e = (decided text n).1 (is.positive, is.fits, sym e)

read : (text : List ℕ) (n : ℕ) → is_written text n ≡ true → IsNumber n × (text ≡ decimal n)
read text n is = let h = (decided text n).0 is in (record { positive = h.0; fits = h.1 }, sym h.2)

number_by : (text : List ℕ) (n : ℕ) (t : Bool) → is_written text n ≡ t → digits_value 10 text ≡ n → Exact text (cond t (Some n) None)
number_by text n true is e = read text n is
number_by text n false is e = λ m fits same.
    let value = ap (digits_value 10) same ∙ (numeral m fits).1 in
    false≢true (sym is ∙ ap (is_written text) (sym e ∙ value) ∙ written text m fits same)

pub number_of-exact : (text : List ℕ) → Exact text (number_of text)
unfolding number_of
number_of-exact text = number_by text (digits_value 10 text) _ refl refl

-- there is one such answer
pub exact_once : (text : List ℕ) (r s : Option ℕ) → Exact text r → Exact text s → r ≡ s
exact_once text None None p q = refl
exact_once text None (Some n) p q = absurd (p n q.0 q.1)
exact_once text (Some n) None p q = absurd (q n p.0 p.1)
exact_once text (Some m) (Some n) p q = ap Some (decimal_injective m n (small m p.0) (small n q.0) (sym p.1 ∙ q.1))

-- what is read of a text is what the definition says
pub is_number_of : (text : List ℕ) (r : Option ℕ) → Exact text r → r ≡ number_of text
is_number_of text r exact = exact_once text r (number_of text) exact (number_of-exact text)

begins : (n : ℕ) → IsNumber n → begins_a_number (decimal n) ≡ true
begins n is =
    let digits = numeral n is in
    let first = first_decimal n is.positive (small n is) in
    let within = digit_at (decimal n) 0 digits.0.1 digits.0.0 in
    search (rules, tests)

-- no number's text begins otherwise
pub none_begins : (text : List ℕ) → begins_a_number text ≡ false → Exact text None
none_begins text other n is e = false≢true (sym other ∙ ap begins_a_number e ∙ begins n is)

pub none_utf8 : (text : List ℕ) → (IsUtf8 text → ⊥) → Exact text None
none_utf8 text other n is e = other (subst IsUtf8 (sym e) (IsUtf8-from_ascii (decimal n) (IsAscii-decimal n (small n is))))

first_is : (text : List ℕ) → begins_a_number text ≡ true → (49 ≤ get_or text 0 0) × (get_or text 0 0 ≤ 57)
first_is text is = search (rules, tests)

positive : (text : List ℕ) (v : ℕ) → decimal v ≡ text → 49 ≤ get_or text 0 0 → 0 < v
positive text zero e first = absurd (omega (arith, ap (λ (t : List ℕ). get_or t 0 0) (sym e ∙ decimal_digit 0 (omega arith))))
positive text (suc v) e first = omega arith

parsed_by : {E : Type 0} (text : List ℕ) (r : Result ℕ E) → OkIff r (AllDigits 10 text × (0 < length text) × (digits_value 10 text < 2 ^ 32)) (digits_value 10 text) → (49 ≤ get_or text 0 0) × (get_or text 0 0 ≤ 57) → Exact text (result_ok r)
parsed_by text (Ok v) ok first =
    let digits = ok.0 in
    let e : decimal v ≡ text = ap decimal ok.1 ∙ decimal-digits_value own text digits.0 digits.1 (λ zero_first. absurd (omega arith)) (omega arith) in
    (record { positive = positive text v e first.0; fits = omega (arith, ok.1, digits.2) }, sym e)
parsed_by text (Err e) err first = λ n is same.
    let digits = numeral n is in
    let value = ap (digits_value 10) same ∙ digits.1 in
    err (subst (λ (t : List ℕ). AllDigits 10 t) (sym same) digits.0.1, omega (arith, ap length same, digits.0.0), omega (arith, value, is.fits))

parsed : {E : Type 0} (text : List ℕ) (r : Result ℕ E) → ParsesUnsigned 32 10 text r → begins_a_number text ≡ true → Exact text (result_ok r)
parsed text r parses is =
    let first = first_is text is in
    parsed_by text r (parse_plain own 32 text r parses (λ plus. omega arith)) first

pub read_digits : {E : Type 0} (text digits : List ℕ) (r : Result ℕ E) (o : Option ℕ) → digits ≡ text → ParsesUnsigned 32 10 digits r → o ≡ result_ok r → begins_a_number text ≡ true → Exact text o
read_digits text digits r o same parses is begins =
    subst (Exact text) (sym is) (parsed text r (subst (λ (t : List ℕ). ParsesUnsigned 32 10 t r) same parses) begins)
