-- Which texts are the hexadecimal digits of a byte at least.
use Rattle.std.proofs.Common.{◌≡◌, ℕ, ◌+◌, ◌*◌, ◌%◌, Bool, true, false, cond, ◌&&◌, ◌||◌, List, [], ◌∷◌, length, nat_le, Result, Ok, Err, Some, None, is_some, refl, sym, ap, ◌∙◌, arith}
use Rattle.std.specs.List.{list_all}
use Rattle.std.specs.Char.{is_ascii_hexdigit}
use Rattle.std.proofs.lemmas.List.Sums.{AllPass-from_list_all, list_all-from_AllPass}
use Rattle.hex.specs.Hex.{decode_of, is_hex_digit}
use Rattle.hex.specs.declared.error.FromHexError.{FromHexError}
use Rattle.hex.proofs.HexLemmas.{decode_of-odd, decode_of-ok, decode_of-digits}
use Rattle.packet_show.specs.Tape.{some_bytes}

-- in a range of digits, of upper or of lower case
classes : (digit upper lower : Bool) (u l d : ℕ) → ((digit || upper) || lower) ≡ is_some (cond upper (Some u) (cond lower (Some l) (cond digit (Some d) None)))
classes true true true u l d = refl
classes true true false u l d = refl
classes true false true u l d = refl
classes true false false u l d = refl
classes false true true u l d = refl
classes false true false u l d = refl
classes false false true u l d = refl
classes false false false u l d = refl

is_digit : (c : ℕ) → is_ascii_hexdigit c ≡ is_hex_digit c
is_digit c = classes (nat_le 48 c && nat_le c 57) (nat_le 65 c && nat_le c 70) (nat_le 97 c && nat_le c 102) _ _ _

all_digits : (s : List ℕ) → list_all is_ascii_hexdigit s ≡ list_all is_hex_digit s
all_digits [] = refl
all_digits (c ∷ cs) = ap (λ (t : Bool). t && list_all is_ascii_hexdigit cs) (is_digit c) ∙ ap (λ (t : Bool). is_hex_digit c && t) (all_digits cs)

bytes_decoded : (bytes : List ℕ) (n : ℕ) → n + 1 ≡ 2 * length bytes → true ≡ is_some (some_bytes (Ok bytes))
bytes_decoded [] n e = absurd (omega arith)
bytes_decoded (b ∷ bs) n e = refl

by_digits : (c : ℕ) (cs : List ℕ) (t : Bool) (o : Result (List ℕ) FromHexError) → list_all is_hex_digit (c ∷ cs) ≡ t → decode_of (c ∷ cs) ≡ o → length (c ∷ cs) % 2 ≡ 0 → t ≡ is_some (some_bytes o)
by_digits c cs true o digits is even =
    let d = decode_of-digits (c ∷ cs) even (AllPass-from_list_all is_hex_digit (c ∷ cs) digits) in
    let ok = decode_of-ok (c ∷ cs) d.0 d.1 in
    bytes_decoded d.0 (length cs) (omega (arith, ok.2)) ∙ ap (λ (r : Result (List ℕ) FromHexError). is_some (some_bytes r)) (sym d.1 ∙ is)
by_digits c cs false (Err e) digits is even = refl
by_digits c cs false (Ok bytes) digits is even =
    let ok = decode_of-ok (c ∷ cs) bytes is in
    let all = list_all-from_AllPass is_hex_digit (c ∷ cs) ok.1 in cc

pub digits-even : (s : List ℕ) → (s ≡ [] → ⊥) → length s % 2 ≡ 0 → list_all is_ascii_hexdigit s ≡ is_some (some_bytes (decode_of s))
digits-even [] some even = absurd (some refl)
digits-even (c ∷ cs) some even = all_digits (c ∷ cs) ∙ by_digits c cs _ _ refl refl even

pub digits-odd : (s : List ℕ) → length s % 2 ≡ 1 → false ≡ is_some (some_bytes (decode_of s))
digits-odd s odd = ap (λ (r : Result (List ℕ) FromHexError). is_some (some_bytes r)) (sym (decode_of-odd s odd))

digits-none : (o : Result (List ℕ) FromHexError) → decode_of [] ≡ o → false ≡ is_some (some_bytes o)
digits-none (Ok []) is = refl
digits-none (Ok (b ∷ bs)) is = let ok = decode_of-ok [] (b ∷ bs) is in absurd (omega (arith, ok.2))
digits-none (Err e) is = refl

pub digits-empty : (s : List ℕ) → s ≡ [] → false ≡ is_some (some_bytes (decode_of s))
digits-empty s none = digits-none (decode_of []) refl ∙ ap (λ (l : List ℕ). is_some (some_bytes (decode_of l))) (sym none)
