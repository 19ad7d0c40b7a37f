-- The lines of a recording have their LF at the end alone.
use Rattle.std.proofs.Common.{◌≡◌, ℕ, zero, suc, ◌+◌, ◌-◌, ◌/◌, ◌%◌, Bool, true, false, cond, not, ◌&&◌, ◌==◌, List, [], ◌∷◌, ◌++◌, length, take, slice_index, nat_eq, nat_lt, codes, Option, Some, None, refl, ap, ◌∙◌, eq-eqb, arith}
use Rattle.std.proofs.lemmas.Bool.{and_parts, cond_both, lt-ltb, not-true}
use Rattle.std.proofs.Math.Seq.{get_or-append_seam, take-append_seam}
use Rattle.std.proofs.lemmas.List.{length-append}
use Rattle.std.specs.Fmt.{decimal, digits, digits_onto, digit_glyph}
use Rattle.hex.specs.Hex.{encode_with, encode_lower, lower_digits}
use Rattle.usb_base.specs.declared.side.Side.{Side}
use Rattle.usb_base.specs.declared.side.Side.TheVariants.{Client, Host}
use Rattle.usb_base.specs.declared.reason.Reason.{Reason}
use Rattle.usb_base.specs.declared.reason.Reason.TheVariants.{Version, OpCode, Command, Device, Direction, Endpoint, TooLong, Packets, NotImported, AlreadyImported, DuplicateSeq, HelloFirst, UnknownType, NotAgreed, WrongWay, BadLength, Count, TooLong26, DataLength, Mismatch, Stray, Length}
use Rattle.usb_base.specs.declared.refusal.Refusal.{Refusal}
use Rattle.usb_base.specs.Reason.{number_of, name_of}
use Rattle.usb_base.specs.Refusal.{side_name, kept_text}
use Rattle.tape_run.specs.tape.Tape.{content}
use Rattle.tape_run.specs.Run.{HasNoLF}
use Rattle.tape_run.proofs.lemmas.tape.Lines.{HasNoLF-append}

-- ---- a line without its LF

pub content-line : (line : List ℕ) → content (line ++ 10 ∷ []) ≡ line
content-line line =
    let whole = line ++ 10 ∷ [] in
    let long : length whole ≡ length line + 1 = length-append line (10 ∷ []) in
    let before : length whole - 1 ≡ length line = omega (arith, long) in
    let some : nat_lt 0 (length whole) ≡ true = lt-ltb 0 (length whole) (omega (arith, long)) in
    let last : slice_index whole (length whole - 1) ≡ 10 = ap (λ (n : ℕ). slice_index whole n) before ∙ get_or-append_seam line 10 [] 0 in
    let ends : (nat_lt 0 (length whole) && (slice_index whole (length whole - 1) == 10)) ≡ true =
    ap (λ (t : Bool). t && (slice_index whole (length whole - 1) == 10)) some ∙ ap (λ (n : ℕ). n == 10) last in
    ap (λ (t : Bool). cond t (take (length whole - 1) whole) whole) ends ∙ ap (λ (n : ℕ). take n whole) before ∙ take-append_seam line (10 ∷ [])

-- ---- what is tested by computing

abbrev has_no_lf : List ℕ → Bool
has_no_lf [] = true
has_no_lf (b ∷ bs) = not (b == 10) && has_no_lf bs

pub no-lf-tested : (bytes : List ℕ) → has_no_lf bytes ≡ true → HasNoLF bytes
no-lf-tested [] h = tt
no-lf-tested (b ∷ bs) h =
    let parts = and_parts (not (b == 10)) (has_no_lf bs) h in
    let none : nat_eq b 10 ≡ false = not-true (b == 10) parts.0 in (
      λ e. let one : nat_eq b 10 ≡ true = eq-eqb b 10 e in cc,
      no-lf-tested bs parts.1,
    )

-- ---- hexadecimal digits

place : (bytes : List ℕ) → HasNoLF bytes → (k : ℕ) → slice_index bytes k ≡ 10 → ⊥
place [] h k e = cc
place (b ∷ bs) h zero e = h.0 e
place (b ∷ bs) h (suc k) e = place bs h.1 k e

pub no-lf-hex : (bytes : List ℕ) → HasNoLF (encode_lower bytes)
unfolding encode_with
no-lf-hex [] = tt
no-lf-hex (b ∷ bs) =
    let table = no-lf-tested lower_digits refl in
    (place lower_digits table (b / 16), (place lower_digits table (b % 16), no-lf-hex bs))

-- ---- decimal digits

no-lf-glyph : (n : ℕ) → digit_glyph false (n % 10) ≡ 10 → ⊥
no-lf-glyph n = cond_both (nat_lt (n % 10) 10) (48 + n % 10) (87 + n % 10) (λ (g : ℕ). g ≡ 10 → ⊥) (λ low e. omega arith) (λ high e. omega arith)

no-lf-onto : (k n : ℕ) (later : List ℕ) → HasNoLF later → HasNoLF (digits_onto k 10 false n later)
no-lf-onto zero n later h = h
no-lf-onto (suc k) n later h =
    let more : HasNoLF (digit_glyph false (n % 10) ∷ later) = (no-lf-glyph n, h) in
    cond_both (n / 10 == 0) (digit_glyph false (n % 10) ∷ later) (digits_onto k 10 false (n / 10) (digit_glyph false (n % 10) ∷ later)) HasNoLF (λ one. more) (λ several. no-lf-onto k (n / 10) (digit_glyph false (n % 10) ∷ later) more)

pub no-lf-decimal : (n : ℕ) → HasNoLF (decimal n)
unfolding digits
no-lf-decimal n = no-lf-onto 64 n [] tt

-- ---- refusals

no-lf-side : (side : Side) → HasNoLF (side_name side)
no-lf-side Client = no-lf-tested (codes "client") refl
no-lf-side Host = no-lf-tested (codes "host") refl

no-lf-name : (reason : Reason) → HasNoLF (name_of reason)
no-lf-name Version = no-lf-tested (codes "Version") refl
no-lf-name OpCode = no-lf-tested (codes "OpCode") refl
no-lf-name Command = no-lf-tested (codes "Command") refl
no-lf-name Device = no-lf-tested (codes "Device") refl
no-lf-name Direction = no-lf-tested (codes "Direction") refl
no-lf-name Endpoint = no-lf-tested (codes "Endpoint") refl
no-lf-name TooLong = no-lf-tested (codes "TooLong") refl
no-lf-name Packets = no-lf-tested (codes "Packets") refl
no-lf-name NotImported = no-lf-tested (codes "NotImported") refl
no-lf-name AlreadyImported = no-lf-tested (codes "AlreadyImported") refl
no-lf-name DuplicateSeq = no-lf-tested (codes "DuplicateSeq") refl
no-lf-name HelloFirst = no-lf-tested (codes "HelloFirst") refl
no-lf-name UnknownType = no-lf-tested (codes "UnknownType") refl
no-lf-name NotAgreed = no-lf-tested (codes "NotAgreed") refl
no-lf-name WrongWay = no-lf-tested (codes "WrongWay") refl
no-lf-name BadLength = no-lf-tested (codes "BadLength") refl
no-lf-name Count = no-lf-tested (codes "Count") refl
no-lf-name TooLong26 = no-lf-tested (codes "TooLong26") refl
no-lf-name DataLength = no-lf-tested (codes "DataLength") refl
no-lf-name Mismatch = no-lf-tested (codes "Mismatch") refl
no-lf-name Stray = no-lf-tested (codes "Stray") refl
no-lf-name Length = no-lf-tested (codes "Length") refl

space : HasNoLF (codes " ")
space = no-lf-tested (codes " ") refl

no-lf-kept : (kept : Option (ℕ × ℕ)) → HasNoLF (kept_text kept)
no-lf-kept None = tt
no-lf-kept (Some kept) =
    HasNoLF-append (codes " " ++ decimal kept.0 ++ codes " ") (decimal kept.1)
    (HasNoLF-append (codes " " ++ decimal kept.0) (codes " ") (HasNoLF-append (codes " ") (decimal kept.0) space (no-lf-decimal kept.0)) space) (no-lf-decimal kept.1)

-- a refusal's line without its LF, and without what makes it a comment
abbrev pub refusal_words : Refusal → List ℕ
refusal_words r =
    codes "! " ++ side_name r.side ++ codes " " ++ decimal r.place ++ codes " " ++ decimal (number_of r.reason) ++ codes " " ++ name_of r.reason ++ kept_text r.kept

pub no-lf-refusal : (r : Refusal) → HasNoLF (refusal_words r)
no-lf-refusal r =
    let a = HasNoLF-append (codes "! ") (side_name r.side) (no-lf-tested (codes "! ") refl) (no-lf-side r.side) in
    let b = HasNoLF-append (codes "! " ++ side_name r.side) (codes " ") a space in
    let c = HasNoLF-append (codes "! " ++ side_name r.side ++ codes " ") (decimal r.place) b (no-lf-decimal r.place) in
    let d = HasNoLF-append (codes "! " ++ side_name r.side ++ codes " " ++ decimal r.place) (codes " ") c space in
    let e = HasNoLF-append (codes "! " ++ side_name r.side ++ codes " " ++ decimal r.place ++ codes " ") (decimal (number_of r.reason)) d (no-lf-decimal (number_of r.reason)) in
    let f = HasNoLF-append (codes "! " ++ side_name r.side ++ codes " " ++ decimal r.place ++ codes " " ++ decimal (number_of r.reason)) (codes " ") e space in
    let g = HasNoLF-append (codes "! " ++ side_name r.side ++ codes " " ++ decimal r.place ++ codes " " ++ decimal (number_of r.reason) ++ codes " ") (name_of r.reason) f (no-lf-name r.reason) in
    HasNoLF-append (codes "! " ++ side_name r.side ++ codes " " ++ decimal r.place ++ codes " " ++ decimal (number_of r.reason) ++ codes " " ++ name_of r.reason) (kept_text r.kept) g (no-lf-kept r.kept)
