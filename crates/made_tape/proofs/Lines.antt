-- Lines read again.
use Rattle.std.proofs.Common.{◌≡◌, ℕ, zero, suc, ◌/◌, ◌%◌, ◌<◌, ◌≤◌, Bool, true, false, ◌||◌, List, [], ◌∷◌, length, nat_eq, nat_lt, cond, slice_index, option_map, Some, None, Result, refl, sym, ap, ◌∙◌, arith}
use Rattle.std.specs.List.{list_any}
use Rattle.std.specs.Fmt.{decimal}
use Rattle.std.specs.Int.{IsInRange}
use Rattle.std.specs.Str.Parse.{AllDigits}
use Rattle.std.proofs.lemmas.Fmt.{decimal_is_IsNumeral, length-decimal-le}
use Rattle.std.proofs.lemmas.Str.Parse.{digit_at}
use Rattle.std.proofs.lemmas.Bool.{eqb-true, false_from_ne_true}
use Rattle.std.proofs.lemmas.List.{length-append}
use Rattle.hex.specs.Hex.{decode_of, decode_sized, encode_lower, encode_with, hex_digit_value, lower_digits}
use Rattle.hex.specs.declared.error.FromHexError.{FromHexError}
use Rattle.hex.proofs.HexLemmas.{IsDigits-lower_digits, decode_of-encode_lower, decode_sized-twice, length-encode_with}
use Rattle.usb_base.specs.Number.{AreBytes}
use Rattle.packet_show.specs.declared.tape.ModelLine.{ModelLine}
use Rattle.packet_show.specs.declared.tape.ModelLine.TheVariants.{Client, ToHost, ToGate, Perform}
use Rattle.packet_show.specs.Number.{IsNumber, number_of}
use Rattle.packet_show.specs.Tape.{address, some_bytes}
use Rattle.packet_show.proofs.Numbers.{is_number_of}
use Rattle.made_tape.specs.Lines.{words_of, line_of}
use Rattle.made_tape.specs.Again.{IsReadAgain}
use Rattle.made_tape.proofs.Bytes.{ArePiece}

-- what is written is read again, and is short
pub record IsLine (said : ModelLine) : Type 0 where
  pub again : IsReadAgain said
  pub short : length (line_of said) ≤ 1123

-- ---- no LF

abbrev pub has_lf : List ℕ → Bool
has_lf bytes = list_any (λ b. nat_eq b 10) bytes

digit-plain : (d : ℕ) → d < 16 → nat_eq (slice_index lower_digits d) 10 ≡ false
digit-plain d lt =
    false_from_ne_true (nat_eq (slice_index lower_digits d) 10)
    (λ e. let none : Some d ≡ None = sym (IsDigits-lower_digits d lt) ∙ ap hex_digit_value (eqb-true (slice_index lower_digits d) 10 e) in cc)

plain-encode : (bytes : List ℕ) → AreBytes bytes → has_lf (encode_lower bytes) ≡ false
unfolding encode_with
plain-encode [] are = refl
plain-encode (b ∷ bs) are =
    let below : b < 256 = are 0 in
    let high = digit-plain (b / 16) (omega arith) in
    let low = digit-plain (b % 16) (omega arith) in
    let others = plain-encode bs (λ i. are (suc i)) in
    rw (high, low, others) refl

-- ---- bytes

client-said : (bytes : List ℕ) → AreBytes bytes → 0 < length bytes → option_map Client (some_bytes (decode_of (encode_lower bytes))) ≡ Some (Client bytes)
client-said [] are some = absurd (omega arith)
client-said (b ∷ bs) are some = ap (λ (r : Result (List ℕ) FromHexError). option_map Client (some_bytes r)) (decode_of-encode_lower (b ∷ bs) are)

pub client-line : (bytes : List ℕ) → ArePiece bytes → IsLine (Client bytes)
client-line bytes p = record {
  again = record { one_line = plain-encode bytes p.are; says = client-said bytes p.are p.some };
  short = omega (arith, length-append (words_of (Client bytes)) (10 ∷ []), length-encode_with lower_digits bytes, p.few);
}

-- ---- endpoints

perform-said : (ep : ℕ) → ep < 256 → nat_lt (ep % 128) 16 ≡ true → option_map Perform (address (decode_sized (encode_lower (ep ∷ [])) 1)) ≡ Some (Perform ep)
perform-said ep below is =
    ap (λ (r : Result (List ℕ) FromHexError). option_map Perform (address r)) (decode_sized-twice (encode_lower (ep ∷ [])) 1 (length-encode_with lower_digits (ep ∷ [])) ∙ decode_of-encode_lower (ep ∷ []) (one ep below))
    ∙ ap (λ (t : Bool). option_map Perform (cond t (Some ep) None)) is
  where
    one : (ep : ℕ) → ep < 256 → AreBytes (ep ∷ [])
    one ep below zero = below
    one ep below (suc i) = omega arith

pub perform-line : (ep : ℕ) → ep < 256 → nat_lt (ep % 128) 16 ≡ true → IsLine (Perform ep)
perform-line ep below is = record {
  again = record { one_line = plain-encode (ep ∷ []) one; says = perform-said ep below is };
  short = omega (arith, length-append (words_of (Perform ep)) (10 ∷ []), length-encode_with lower_digits (ep ∷ []));
}
  where
    one : AreBytes (ep ∷ [])
    one zero = below
    one (suc i) = omega arith

-- ---- numbers

number-said : (n : ℕ) → IsNumber n → number_of (decimal n) ≡ Some n
number-said n is = sym (is_number_of (decimal n) (Some n) (is, refl))

plain-digits : (ds : List ℕ) → AllDigits 10 ds → has_lf ds ≡ false
plain-digits [] all = refl
plain-digits (d ∷ ds) all =
    let within : IsInRange 48 57 d = digit_at (d ∷ ds) 0 all (omega arith) in
    let plain : nat_eq d 10 ≡ false = false_from_ne_true (nat_eq d 10) (λ e. let same = eqb-true d 10 e in absurd (omega (arith, within))) in
    ap (λ (t : Bool). t || has_lf ds) plain ∙ plain-digits ds all.1

plain-decimal : (n : ℕ) → IsNumber n → has_lf (decimal n) ≡ false
plain-decimal n is = plain-digits (decimal n) (decimal_is_IsNumeral n (omega (arith, is.fits))).0.1

few-digits : (n : ℕ) → IsNumber n → length (decimal n) ≤ 10
few-digits n is = length-decimal-le 10 n (omega arith) (omega (arith, is.fits)) (omega (arith, is.fits))

pub to_host-line : (n : ℕ) → IsNumber n → IsLine (ToHost n)
to_host-line n is = record {
  again = record { one_line = plain-decimal n is; says = ap (option_map ToHost) (number-said n is) };
  short = omega (arith, length-append (words_of (ToHost n)) (10 ∷ []), few-digits n is);
}

pub to_gate-line : (n : ℕ) → IsNumber n → IsLine (ToGate n)
to_gate-line n is = record {
  again = record { one_line = plain-decimal n is; says = ap (option_map ToGate) (number-said n is) };
  short = omega (arith, length-append (words_of (ToGate n)) (10 ∷ []), few-digits n is);
}
