-- Descriptors that stand one behind another: one further, spelled again, and read again.
use Rattle.std.proofs.Common.{◌≡◌, ℕ, zero, suc, ◌+◌, ◌-◌, ◌*◌, ◌^◌, ◌<◌, ◌≤◌, List, [], ◌∷◌, ◌++◌, length, take, drop, refl, sym, ap, ◌∙◌, append_assoc, arith, rules, Fits, All}
use Rattle.std.specs.Int.{w32, cast_signed, cast_unsigned}
use Rattle.std.specs.Int.RustNames.{FitsSigned}
use Rattle.std.proofs.Math.Facts.{sfits_to_z}
use Rattle.std.proofs.lemmas.Int.{of_z-to_z, to_z-of_z}
use Rattle.std.proofs.lemmas.List.{drop_at, length-append, length-drop, take-append-drop, append-nil}
use Rattle.std.proofs.lemmas.List.Elements.{All-nil, All-cons, All-same, All-head, All-tail}
use Rattle.usb_base.specs.Number.{be_at, AreBytes}
use Rattle.usb_base.proofs.Numbers.{AreBytes-drop, be_at-append_32, be_at-below_32}
use Rattle.usbip_urb.specs.declared.packet.IsoDesc.{IsoDesc}
use Rattle.usbip_urb.specs.Spelling.{words, desc_words, descs_bytes}
use Rattle.usbip_urb.specs.Fields.{desc_at, descs_at}
use Rattle.usbip_urb.specs.Ranges.{IsWord, DescFits}
use Rattle.usbip_urb.specs.Sound.Words.{words_at, words_spelled, words_below, length-words, word_in}

-- ---- one descriptor further

-- it sees its own bytes alone
desc-append : (x more : List ℕ) → length x ≡ 16 → desc_at (x ++ more) ≡ desc_at x
desc-append x more long =
    let offset : be_at w32 0 (x ++ more) ≡ be_at w32 0 x = be_at-append_32 0 x more (omega arith) in
    let size : be_at w32 4 (x ++ more) ≡ be_at w32 4 x = be_at-append_32 4 x more (omega arith) in
    let actual : be_at w32 8 (x ++ more) ≡ be_at w32 8 x = be_at-append_32 8 x more (omega arith) in
    let status : be_at w32 12 (x ++ more) ≡ be_at w32 12 x = be_at-append_32 12 x more (omega arith) in
    λ t. record { offset = offset t; length = size t; actual = actual t; status = cast_signed w32 (status t) }

descs_next : (n m : ℕ) (x rest : List ℕ) → n ≡ suc m → length x ≡ 16 → descs_at n (x ++ rest) ≡ desc_at x ∷ descs_at m rest
descs_next n m x rest e long =
    ap (λ (k : ℕ). descs_at k (x ++ rest)) e
    ∙ ap (λ (d : IsoDesc). d ∷ descs_at m (drop 16 (x ++ rest))) (desc-append x rest long)
    ∙ ap (λ (b : List ℕ). desc_at x ∷ descs_at m b) (drop_at x rest 16 long)

pub descs_further : (n i j : ℕ) (x rest b : List ℕ) (ds all : List IsoDesc) → i < n → j ≡ i + 1 → length x ≡ 16 → b ≡ x ++ rest → all ≡ ds ++ descs_at (n - i) b →
    all ≡ (ds ++ desc_at x ∷ []) ++ descs_at (n - j) rest
descs_further n i j x rest b ds all less next long e left =
    let count : n - i ≡ suc (n - j) = omega arith in
    left ∙ ap (λ (y : List ℕ). ds ++ descs_at (n - i) y) e
    ∙ ap (λ (ys : List IsoDesc). ds ++ ys) (descs_next (n - i) (n - j) x rest count long)
    ∙ sym (append_assoc ds (desc_at x ∷ []) (descs_at (n - j) rest))

-- ---- what is read is spelled so

pub signed_again : (n : ℕ) → n < 2 ^ 32 → cast_unsigned w32 (cast_signed w32 n) ≡ n
signed_again n less = of_z-to_z w32 n less

pub signed_fits : (n : ℕ) → n < 2 ^ 32 → FitsSigned w32 (cast_signed w32 n)
signed_fits n less = let fits : Fits w32 n = search rules in sfits_to_z fits

desc_words_found : (b : List ℕ) → AreBytes b → desc_words (desc_at b) ≡ words_at 4 0 b
desc_words_found b are = ap (λ (n : ℕ). be_at w32 0 b ∷ be_at w32 4 b ∷ be_at w32 8 b ∷ n ∷ []) (signed_again (be_at w32 12 b) (be_at-below_32 12 b are))

abbrev pub desc_bytes : IsoDesc → List ℕ
desc_bytes d = words (desc_words d)

desc_found : (b : List ℕ) → AreBytes b → 16 ≤ length b → (desc_bytes (desc_at b) ≡ take 16 b) × DescFits (desc_at b)
desc_found b are there = (
  ap words (desc_words_found b are) ∙ words_spelled 4 0 b are there,
  record {
    words = All-same IsWord (desc_words (desc_at b)) (words_at 4 0 b) (desc_words_found b are) (words_below 4 0 b are);
    status = signed_fits (be_at w32 12 b) (be_at-below_32 12 b are);
  },
)

pub descs_found : (n : ℕ) (b : List ℕ) → AreBytes b → length b ≡ n * 16 → (descs_bytes (descs_at n b) ≡ b) × All DescFits (descs_at n b)
descs_found zero [] are long = (refl, All-nil DescFits)
descs_found zero (x ∷ b) are long = absurd (omega arith)
descs_found (suc n) b are long =
    let first = desc_found b are (omega arith) in
    let later = descs_found n (drop 16 b) (AreBytes-drop 16 b are) (omega (arith, length-drop 16 b)) in (
      ap (λ (x : List ℕ). x ++ descs_bytes (descs_at n (drop 16 b))) first.0 ∙ ap (λ (x : List ℕ). take 16 b ++ x) later.0 ∙ take-append-drop 16 b,
      All-cons DescFits (desc_at b) (descs_at n (drop 16 b)) first.1 later.1,
    )

pub descs_counted : (n : ℕ) (b : List ℕ) → length (descs_at n b) ≡ n
descs_counted zero b = refl
descs_counted (suc n) b = ap suc (descs_counted n (drop 16 b))

-- ---- what is spelled so is read

desc_long : (d : IsoDesc) → length (desc_bytes d) ≡ 16
desc_long d = length-words (desc_words d)

pub descs_long : (ds : List IsoDesc) → length (descs_bytes ds) ≡ length ds * 16
descs_long [] = refl
descs_long (d ∷ ds) = omega (arith, length-append (desc_bytes d) (descs_bytes ds), desc_long d, descs_long ds)

desc_again : (d : IsoDesc) → DescFits d → desc_at (desc_bytes d) ≡ d
desc_again d fits =
    let b = desc_bytes d in
    let e : b ≡ b ++ [] = sym (append-nil b) in
    let offset : be_at w32 0 b ≡ d.offset = word_in 0 (desc_words d) [] b e fits.words (omega arith) in
    let size : be_at w32 4 b ≡ d.length = word_in 1 (desc_words d) [] b e fits.words (omega arith) in
    let actual : be_at w32 8 b ≡ d.actual = word_in 2 (desc_words d) [] b e fits.words (omega arith) in
    let bits : be_at w32 12 b ≡ cast_unsigned w32 d.status = word_in 3 (desc_words d) [] b e fits.words (omega arith) in
    let status : cast_signed w32 (be_at w32 12 b) ≡ d.status = ap (cast_signed w32) bits ∙ to_z-of_z w32 d.status fits.status in
    λ t. record { offset = offset t; length = size t; actual = actual t; status = status t }

pub descs_again : (ds : List IsoDesc) → All DescFits ds → descs_at (length ds) (descs_bytes ds) ≡ ds
descs_again [] fits = refl
descs_again (d ∷ ds) fits =
    descs_next (suc (length ds)) (length ds) (desc_bytes d) (descs_bytes ds) refl (desc_long d)
    ∙ ap (λ (y : IsoDesc). y ∷ descs_at (length ds) (descs_bytes ds)) (desc_again d (All-head DescFits d ds fits))
    ∙ ap (λ (ys : List IsoDesc). d ∷ ys) (descs_again ds (All-tail DescFits d ds fits))
