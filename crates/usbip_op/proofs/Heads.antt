-- The first 8 bytes of a packet, spelled again and read again.
use Rattle.std.proofs.Common.{◌≡◌, ℕ, ◌^◌, ◌<◌, ◌≤◌, ◌==◌, ◌||◌, ◌⊎◌, true, List, ◌∷◌, ◌++◌, length, take, refl, sym, ap, ◌∙◌, append_assoc, arith, None, length-append}
use Rattle.std.proofs.lemmas.Grind.{common_steps}
use Rattle.std.specs.Int.{w16, w32}
use Rattle.usb_base.specs.Number.{be, be_at, part, AreBytes}
use Rattle.packet_stream.specs.Format.{Check, wrong_at, StaysWrong}
use Rattle.usb_base.specs.declared.reason.Reason.{Reason}
use Rattle.usb_base.proofs.Numbers.{then, be_spelled_16, be_spelled_32, be_at-be_16, be_at-be_32, length-be, be_past, be_at-append_16}
use Rattle.packet_stream.proofs.Formats.{none_from, AreSteady, stays_wrong}
use Rattle.usbip_op.specs.Spelling.{head_bytes}
use Rattle.usbip_op.specs.Requests.{version_check, code_check}

pub head_spelled : (b : List ℕ) (code : ℕ) → AreBytes b → 8 ≤ length b → be_at w16 0 b ≡ 0x0111 → be_at w16 2 b ≡ code → head_bytes code (be_at w32 4 b) ≡ take 8 b
head_spelled b code are long version is =
    let v : be w16 0x0111 ≡ take 2 b = ap (be w16) (sym version) ∙ be_spelled_16 0 b are (omega arith) in
    let o : be w16 code ≡ part 2 2 b = ap (be w16) (sym is) ∙ be_spelled_16 2 b are (omega arith) in
    then 4 4 b _ _ (then 2 2 b _ _ v o) (be_spelled_32 4 b are (omega arith))

pub length-head : (code status : ℕ) → length (head_bytes code status) ≡ 8
length-head code status = omega (arith, length-append (be w16 0x0111 ++ be w16 code) (be w32 status), length-append (be w16 0x0111) (be w16 code), length-be w16 0x0111, length-be w16 code, length-be w32 status)

pub version_again : (code status : ℕ) (rest : List ℕ) → be_at w16 0 (head_bytes code status ++ rest) ≡ 0x0111
version_again code status rest =
    let low : 0x0111 < 2 ^ 16 = omega arith in
    let e : head_bytes code status ++ rest ≡ be w16 0x0111 ++ (be w16 code ++ (be w32 status ++ rest)) = simp append_assoc refl in
    ap (be_at w16 0) e ∙ be_at-be_16 0x0111 (be w16 code ++ (be w32 status ++ rest)) low

pub code_again : (code status : ℕ) (rest : List ℕ) → code < 2 ^ 16 → be_at w16 2 (head_bytes code status ++ rest) ≡ code
code_again code status rest low =
    let e : head_bytes code status ++ rest ≡ be w16 0x0111 ++ (be w16 code ++ (be w32 status ++ rest)) = simp append_assoc refl in
    ap (be_at w16 2) e ∙ be_past w16 2 0 (be w16 0x0111) (be w16 code ++ (be w32 status ++ rest)) (length-be w16 0x0111) ∙ be_at-be_16 code (be w32 status ++ rest) low

pub status_again : (code status : ℕ) (rest : List ℕ) → status < 2 ^ 32 → be_at w32 4 (head_bytes code status ++ rest) ≡ status
status_again code status rest low =
    let front : length (be w16 0x0111 ++ be w16 code) ≡ 4 = omega (arith, length-append (be w16 0x0111) (be w16 code), length-be w16 0x0111, length-be w16 code) in
    ap (be_at w32 4) (append_assoc (be w16 0x0111 ++ be w16 code) (be w32 status) rest) ∙ be_past w32 4 0 (be w16 0x0111 ++ be w16 code) (be w32 status ++ rest) front ∙ be_at-be_32 status rest low

-- the checks of both ways pass where the version and the code are right
pub head_right : (list import : ℕ) (more : List (Check Reason)) (b : List ℕ) → be_at w16 0 b ≡ 0x0111 → ((be_at w16 2 b == list) || (be_at w16 2 b == import)) ≡ true → wrong_at more b ≡ None → wrong_at (version_check ∷ code_check list import ∷ more) b ≡ None
head_right list import more b version code later =
    none_from version_check (code_check list import ∷ more) b (λ _ _. ap (λ (n : ℕ). n == 0x0111) version) (none_from (code_check list import) more b (λ _ _. code) later)

pub is_version : (n : ℕ) → (n == 0x0111) ≡ true → n ≡ 0x0111
is_version n e = grind (arith, common_steps)

pub is_code : (list import code : ℕ) → ((code == list) || (code == import)) ≡ true → (code ≡ list) ⊎ (code ≡ import)
is_code list import code e = grind (arith, common_steps)

-- the checks of both ways see only the bytes that they need
pub heads_steady : (list import : ℕ) (more : List (Check Reason)) → AreSteady 4 more → AreSteady 0 (version_check ∷ code_check list import ∷ more)
heads_steady list import more later = (
  omega arith,
  λ b rest h. (refl, ap (λ (n : ℕ). n == 0x0111) (be_at-append_16 0 b rest h)),
  (
    omega arith,
    λ b rest h. (refl, ap (λ (n : ℕ). (n == list) || (n == import)) (be_at-append_16 2 b rest h)),
    later,
  ),
)

pub head_steady : (list import : ℕ) (more : List (Check Reason)) → AreSteady 4 more → StaysWrong (version_check ∷ code_check list import ∷ more)
head_steady list import more later = stays_wrong (version_check ∷ code_check list import ∷ more) 0 (heads_steady list import more later)
