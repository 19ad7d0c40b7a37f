-- Numbers that stand one behind another, four bytes each: spelled again, and read again.
use Rattle.std.proofs.Common.{◌≡◌, ℕ, zero, suc, ◌+◌, ◌*◌, ◌<◌, ◌≤◌, List, [], ◌∷◌, ◌++◌, length, get_or, refl, ap, ◌∙◌, append_assoc, arith, All}
use Rattle.std.specs.Int.{w32}
use Rattle.std.proofs.lemmas.List.{length-append}
use Rattle.std.proofs.lemmas.List.Elements.{All-nil, All-cons, All-head, All-tail}
use Rattle.usb_base.specs.Number.{be, be_at, part, AreBytes}
use Rattle.usb_base.proofs.Numbers.{join, be_spelled_32, be_at-be_32, be_past, length-be, be_at-below_32}
use Rattle.usbip_urb.specs.declared.packet.Head.{Head}
use Rattle.usbip_urb.specs.Spelling.{words}
use Rattle.usbip_urb.specs.Ranges.{IsWord}

-- the n numbers from a place on
abbrev pub words_at : ℕ → ℕ → List ℕ → List ℕ
words_at zero place b = []
words_at (suc n) place b = be_at w32 place b ∷ words_at n (place + 4) b

pub length-words : (ns : List ℕ) → length (words ns) ≡ length ns * 4
length-words [] = refl
length-words (n ∷ ns) = omega (arith, length-append (be w32 n) (words ns), length-be w32 n, length-words ns)

pub words_spelled : (n place : ℕ) (b : List ℕ) → AreBytes b → place + n * 4 ≤ length b → words (words_at n place b) ≡ part place (n * 4) b
words_spelled zero place b are there = refl
words_spelled (suc n) place b are there =
    let size : 4 + n * 4 ≡ suc n * 4 = omega arith in
    join place 4 (n * 4) b _ _ (be_spelled_32 place b are (omega arith)) (words_spelled n (place + 4) b are (omega arith)) ∙ ap (λ (k : ℕ). part place k b) size

pub words_below : (n place : ℕ) (b : List ℕ) → AreBytes b → All IsWord (words_at n place b)
words_below zero place b are = All-nil IsWord
words_below (suc n) place b are = All-cons IsWord (be_at w32 place b) (words_at n (place + 4) b) (be_at-below_32 place b are) (words_below n (place + 4) b are)

pub word_found : (k : ℕ) (ns more : List ℕ) → All IsWord ns → k < length ns → be_at w32 (k * 4) (words ns ++ more) ≡ get_or ns k 0
word_found k [] more fit less = absurd (omega arith)
word_found zero (n ∷ ns) more fit less = ap (be_at w32 0) (append_assoc (be w32 n) (words ns) more) ∙ be_at-be_32 n (words ns ++ more) (All-head IsWord n ns fit)
word_found (suc k) (n ∷ ns) more fit less =
    let place : suc k * 4 ≡ 4 + k * 4 = omega arith in
    ap (λ (p : ℕ). be_at w32 p ((be w32 n ++ words ns) ++ more)) place
    ∙ ap (be_at w32 (4 + k * 4)) (append_assoc (be w32 n) (words ns) more)
    ∙ be_past w32 4 (k * 4) (be w32 n) (words ns ++ more) (length-be w32 n)
    ∙ word_found k ns more (All-tail IsWord n ns fit) (omega arith)

-- the k-th of the numbers that bytes begin with
pub word_in : (k : ℕ) (ns more b : List ℕ) → b ≡ words ns ++ more → All IsWord ns → k < length ns → be_at w32 (k * 4) b ≡ get_or ns k 0
word_in k ns more b e fit less = ap (be_at w32 (k * 4)) e ∙ word_found k ns more fit less

-- what the first five numbers of a packet are: which it is, and its head
pub record HeadIn (code : ℕ) (h : Head) (b : List ℕ) : Type 0 where
  pub command : be_at w32 0 b ≡ code
  pub seqnum : be_at w32 4 b ≡ h.seqnum
  pub devid : be_at w32 8 b ≡ h.devid
  pub direction : be_at w32 12 b ≡ h.direction
  pub ep : be_at w32 16 b ≡ h.ep

pub head_in : (code : ℕ) (h : Head) (ns more b : List ℕ) → b ≡ words (code ∷ h.seqnum ∷ h.devid ∷ h.direction ∷ h.ep ∷ ns) ++ more → All IsWord (code ∷ h.seqnum ∷ h.devid ∷ h.direction ∷ h.ep ∷ ns) → HeadIn code h b
head_in code h ns more b e fit =
    let all = code ∷ h.seqnum ∷ h.devid ∷ h.direction ∷ h.ep ∷ ns in
    record {
      command = word_in 0 all more b e fit (omega arith);
      seqnum = word_in 1 all more b e fit (omega arith);
      devid = word_in 2 all more b e fit (omega arith);
      direction = word_in 3 all more b e fit (omega arith);
      ep = word_in 4 all more b e fit (omega arith);
    }

-- and the five behind it, of a submit and of its answer
pub record FieldsIn (first second third fourth fifth : ℕ) (b : List ℕ) : Type 0 where
  pub at_20 : be_at w32 20 b ≡ first
  pub at_24 : be_at w32 24 b ≡ second
  pub at_28 : be_at w32 28 b ≡ third
  pub at_32 : be_at w32 32 b ≡ fourth
  pub at_36 : be_at w32 36 b ≡ fifth

pub fields_in : (code : ℕ) (h : Head) (first second third fourth fifth : ℕ) (more b : List ℕ) → b ≡ words (code ∷ h.seqnum ∷ h.devid ∷ h.direction ∷ h.ep ∷ first ∷ second ∷ third ∷ fourth ∷ fifth ∷ []) ++ more → All IsWord (code ∷ h.seqnum ∷ h.devid ∷ h.direction ∷ h.ep ∷ first ∷ second ∷ third ∷ fourth ∷ fifth ∷ []) → FieldsIn first second third fourth fifth b
fields_in code h first second third fourth fifth more b e fit =
    let all = code ∷ h.seqnum ∷ h.devid ∷ h.direction ∷ h.ep ∷ first ∷ second ∷ third ∷ fourth ∷ fifth ∷ [] in
    record {
      at_20 = word_in 5 all more b e fit (omega arith);
      at_24 = word_in 6 all more b e fit (omega arith);
      at_28 = word_in 7 all more b e fit (omega arith);
      at_32 = word_in 8 all more b e fit (omega arith);
      at_36 = word_in 9 all more b e fit (omega arith);
    }
