-- Parts of bytes and numbers at places: joined again, spelled again, read again, behind a front, and before what comes
-- later.
use Rattle.std.proofs.Common.{◌≡◌, ℕ, zero, suc, ◌+◌, ◌-◌, ◌^◌, ◌<◌, ◌≤◌, List, ◌++◌, length, take, drop, refl, sym, ap, ◌∙◌, append_assoc, arith, inl, inr}
use Rattle.std.specs.Int.{Width, w16, w32, byte_len, from_be_bytes, from_le_bytes, byte_at, bytes_high_first, bytes_low_first}
use Rattle.std.proofs.lemmas.Bool.{cases_lt}
use Rattle.std.proofs.lemmas.List.{take_at, drop_at, take-append-le, drop-append-le, drop-drop, length-take, length-drop, get_or-drop, get_or-take, get_or_past, get_or_append_left, get_or-append-add, get_or-append_right}
use Rattle.std.proofs.lemmas.Nat.{be_bytes_2, be_bytes_4, le_bytes_2, le_bytes_4, from_be_bytes-to_be_bytes_2, from_be_bytes-to_be_bytes_4, from_le_bytes-to_le_bytes_2}
use Rattle.std.proofs.Math.Seq.{take-add, drop-append-add}
use Rattle.usb_base.specs.Number.{be, le, part, be_at, le_at, AreBytes}

-- ---- lists of bytes

pub AreBytes-drop : (n : ℕ) (bytes : List ℕ) → AreBytes bytes → AreBytes (drop n bytes)
AreBytes-drop n bytes h i = rw (get_or-drop n bytes i 0) (h (n + i))

pub AreBytes-part : (place n : ℕ) (bytes : List ℕ) → AreBytes bytes → AreBytes (part place n bytes)
AreBytes-part place n bytes h i =
    elim (cases_lt i n) [
      | inl lt ↦ rw (get_or-take n (drop place bytes) i 0 lt, get_or-drop place bytes i 0) (h (place + i))
      | inr le ↦ rw (get_or_past (part place n bytes) i 0 (omega (arith, length-take n (drop place bytes)))) (omega arith)
    ]

pub AreBytes-take : (n : ℕ) (bytes : List ℕ) → AreBytes bytes → AreBytes (take n bytes)
AreBytes-take n bytes h = AreBytes-part 0 n bytes h

pub AreBytes-append : (xs ys : List ℕ) → AreBytes xs → AreBytes ys → AreBytes (xs ++ ys)
AreBytes-append xs ys h k i =
    elim (cases_lt i (length xs)) [
      | inl lt ↦ rw (get_or_append_left xs ys 0 i lt) (h i)
      | inr le ↦ rw (get_or-append_right xs ys (length xs) i 0 refl le) (k (i - length xs))
    ]

pub AreBytes-left : (xs ys : List ℕ) → AreBytes (xs ++ ys) → AreBytes xs
AreBytes-left xs ys h i =
    elim (cases_lt i (length xs)) [
      | inl lt ↦ rw (sym (get_or_append_left xs ys 0 i lt)) (h i)
      | inr le ↦ rw (get_or_past xs i 0 le) (omega arith)
    ]

pub AreBytes-right : (xs ys : List ℕ) → AreBytes (xs ++ ys) → AreBytes ys
AreBytes-right xs ys h i = rw (sym (get_or-append-add xs ys i 0)) (h (length xs + i))

-- ---- parts

pub length-part : (place n : ℕ) (bytes : List ℕ) → place + n ≤ length bytes → length (part place n bytes) ≡ n
length-part place n bytes h = omega (arith, length-take n (drop place bytes), length-drop place bytes)

-- what spells the first n bytes, and then the m after them
pub then : (n m : ℕ) (bytes x y : List ℕ) → x ≡ take n bytes → y ≡ part n m bytes → x ++ y ≡ take (n + m) bytes
then n m bytes x y p q = rw (p, q) (sym (take-add n m bytes))

-- two parts that meet
pub join : (p n m : ℕ) (bytes x y : List ℕ) → x ≡ part p n bytes → y ≡ part (p + n) m bytes → x ++ y ≡ part p (n + m) bytes
join p n m bytes x y e f = rw (e, f, take-add n m (drop p bytes), drop-drop n p bytes) refl

-- ---- what later bytes leave as it is

pub part-append : (place n : ℕ) (b more : List ℕ) → place + n ≤ length b → part place n (b ++ more) ≡ part place n b
part-append place n b more h =
    let first : place ≤ length b = omega arith in
    let enough : n ≤ length (drop place b) = omega (arith, length-drop place b) in
    ap (take n) (drop-append-le place b more first) ∙ take-append-le n (drop place b) more enough

pub be_at-append_16 : (place : ℕ) (b more : List ℕ) → place + 2 ≤ length b → be_at w16 place (b ++ more) ≡ be_at w16 place b
unfolding be_at
be_at-append_16 place b more h = ap (from_be_bytes w16) (part-append place 2 b more h)

pub be_at-append_32 : (place : ℕ) (b more : List ℕ) → place + 4 ≤ length b → be_at w32 place (b ++ more) ≡ be_at w32 place b
unfolding be_at
be_at-append_32 place b more h = ap (from_be_bytes w32) (part-append place 4 b more h)

pub le_at-append_16 : (place : ℕ) (b more : List ℕ) → place + 2 ≤ length b → le_at w16 place (b ++ more) ≡ le_at w16 place b
unfolding le_at
le_at-append_16 place b more h = ap (from_le_bytes w16) (part-append place 2 b more h)

pub le_at-append_32 : (place : ℕ) (b more : List ℕ) → place + 4 ≤ length b → le_at w32 place (b ++ more) ≡ le_at w32 place b
unfolding le_at
le_at-append_32 place b more h = ap (from_le_bytes w32) (part-append place 4 b more h)

-- ---- numbers spelled again: the number at a place is spelled by the bytes there

pub be_spelled_16 : (place : ℕ) (bytes : List ℕ) → AreBytes bytes → place + 2 ≤ length bytes → be w16 (be_at w16 place bytes) ≡ part place 2 bytes
unfolding be be_at
be_spelled_16 place bytes h l = be_bytes_2 (part place 2 bytes) _ (length-part place 2 bytes l) (AreBytes-part place 2 bytes h) refl

pub be_spelled_32 : (place : ℕ) (bytes : List ℕ) → AreBytes bytes → place + 4 ≤ length bytes → be w32 (be_at w32 place bytes) ≡ part place 4 bytes
unfolding be be_at
be_spelled_32 place bytes h l = be_bytes_4 (part place 4 bytes) _ (length-part place 4 bytes l) (AreBytes-part place 4 bytes h) refl

pub le_spelled_16 : (place : ℕ) (bytes : List ℕ) → AreBytes bytes → place + 2 ≤ length bytes → le w16 (le_at w16 place bytes) ≡ part place 2 bytes
unfolding le le_at
le_spelled_16 place bytes h l = le_bytes_2 (part place 2 bytes) _ (length-part place 2 bytes l) (AreBytes-part place 2 bytes h) refl

pub le_spelled_32 : (place : ℕ) (bytes : List ℕ) → AreBytes bytes → place + 4 ≤ length bytes → le w32 (le_at w32 place bytes) ≡ part place 4 bytes
unfolding le le_at
le_spelled_32 place bytes h l = le_bytes_4 (part place 4 bytes) _ (length-part place 4 bytes l) (AreBytes-part place 4 bytes h) refl

-- ---- numbers read again

pub be_at-be_16 : (n : ℕ) (more : List ℕ) → n < 2 ^ 16 → be_at w16 0 (be w16 n ++ more) ≡ n
unfolding be be_at
be_at-be_16 n more fits = from_be_bytes-to_be_bytes_2 n fits

pub be_at-be_32 : (n : ℕ) (more : List ℕ) → n < 2 ^ 32 → be_at w32 0 (be w32 n ++ more) ≡ n
unfolding be be_at
be_at-be_32 n more fits = from_be_bytes-to_be_bytes_4 n fits

pub le_at-le_16 : (n : ℕ) (more : List ℕ) → n < 2 ^ 16 → le_at w16 0 (le w16 n ++ more) ≡ n
unfolding le le_at
le_at-le_16 n more fits = from_le_bytes-to_le_bytes_2 n fits

length-high : (k n : ℕ) → length (bytes_high_first k n) ≡ k
length-high zero n = refl
length-high (suc k) n = ap suc (length-high k n)

length-low : (i k n : ℕ) → length (bytes_low_first i k n) ≡ k
length-low i zero n = refl
length-low i (suc k) n = ap suc (length-low (suc i) k n)

pub length-be : (w : Width) (n : ℕ) → length (be w n) ≡ byte_len w
unfolding be
length-be w n = length-high (byte_len w) n

pub length-le : (w : Width) (n : ℕ) → length (le w n) ≡ byte_len w
unfolding le
length-le w n = length-low 0 (byte_len w) n

byte_below : (k n : ℕ) → byte_at k n < 256
byte_below zero n = omega arith
byte_below (suc k) n = omega arith

AreBytes-high : (k n : ℕ) → AreBytes (bytes_high_first k n)
AreBytes-high zero n i = omega arith
AreBytes-high (suc k) n zero = byte_below k n
AreBytes-high (suc k) n (suc i) = AreBytes-high k n i

-- what spells a number is bytes
pub AreBytes-be : (w : Width) (n : ℕ) → AreBytes (be w n)
unfolding be
AreBytes-be w n = AreBytes-high (byte_len w) n

-- ---- behind a front

pub part_skip : (p n : ℕ) (xs ys : List ℕ) → part (length xs + p) n (xs ++ ys) ≡ part p n ys
part_skip p n xs ys = ap (take n) (drop-append-add xs ys p)

pub be_skip : (w : Width) (p : ℕ) (xs ys : List ℕ) → be_at w (length xs + p) (xs ++ ys) ≡ be_at w p ys
unfolding be_at
be_skip w p xs ys = ap (from_be_bytes w) (part_skip p (byte_len w) xs ys)

-- behind a front of k bytes
pub part_past : (k p n : ℕ) (xs ys : List ℕ) → length xs ≡ k → part (k + p) n (xs ++ ys) ≡ part p n ys
part_past k p n xs ys e = ap (λ (m : ℕ). part (m + p) n (xs ++ ys)) (sym e) ∙ part_skip p n xs ys

pub be_past : (w : Width) (k p : ℕ) (xs ys : List ℕ) → length xs ≡ k → be_at w (k + p) (xs ++ ys) ≡ be_at w p ys
be_past w k p xs ys e = ap (λ (m : ℕ). be_at w (m + p) (xs ++ ys)) (sym e) ∙ be_skip w p xs ys

be_here : (w : Width) (k : ℕ) (xs ys : List ℕ) → length xs ≡ k → be_at w k (xs ++ ys) ≡ be_at w 0 ys
unfolding be_at
be_here w k xs ys e = ap (λ (zs : List ℕ). from_be_bytes w (take (byte_len w) zs)) (drop_at xs ys k e)

le_here : (w : Width) (k : ℕ) (xs ys : List ℕ) → length xs ≡ k → le_at w k (xs ++ ys) ≡ le_at w 0 ys
unfolding le_at
le_here w k xs ys e = ap (λ (zs : List ℕ). from_le_bytes w (take (byte_len w) zs)) (drop_at xs ys k e)

-- a number or a part between a front of k bytes and what comes after
pub part_found : (k n : ℕ) (xs ys more : List ℕ) → length xs ≡ k → length ys ≡ n → part k n (xs ++ ys ++ more) ≡ ys
part_found k n xs ys more e f = ap (part k n) (append_assoc xs ys more) ∙ ap (take n) (drop_at xs (ys ++ more) k e) ∙ take_at ys more n f

pub be_found_16 : (k n : ℕ) (xs more : List ℕ) → length xs ≡ k → n < 2 ^ 16 → be_at w16 k (xs ++ be w16 n ++ more) ≡ n
be_found_16 k n xs more e fits = ap (be_at w16 k) (append_assoc xs (be w16 n) more) ∙ be_here w16 k xs (be w16 n ++ more) e ∙ be_at-be_16 n more fits

pub be_found_32 : (k n : ℕ) (xs more : List ℕ) → length xs ≡ k → n < 2 ^ 32 → be_at w32 k (xs ++ be w32 n ++ more) ≡ n
be_found_32 k n xs more e fits = ap (be_at w32 k) (append_assoc xs (be w32 n) more) ∙ be_here w32 k xs (be w32 n ++ more) e ∙ be_at-be_32 n more fits

pub le_found_16 : (k n : ℕ) (xs more : List ℕ) → length xs ≡ k → n < 2 ^ 16 → le_at w16 k (xs ++ le w16 n ++ more) ≡ n
le_found_16 k n xs more e fits = ap (le_at w16 k) (append_assoc xs (le w16 n) more) ∙ le_here w16 k xs (le w16 n ++ more) e ∙ le_at-le_16 n more fits

-- ---- bounds

pub be_at-below_16 : (place : ℕ) (bytes : List ℕ) → AreBytes bytes → be_at w16 place bytes < 2 ^ 16
unfolding be_at
be_at-below_16 place bytes h = let f = AreBytes-part place 2 bytes h in omega (arith, f 0, f 1)

pub be_at-below_32 : (place : ℕ) (bytes : List ℕ) → AreBytes bytes → be_at w32 place bytes < 2 ^ 32
unfolding be_at
be_at-below_32 place bytes h = let f = AreBytes-part place 4 bytes h in omega (arith, f 0, f 1, f 2, f 3)

pub le_at-below_16 : (place : ℕ) (bytes : List ℕ) → AreBytes bytes → le_at w16 place bytes < 2 ^ 16
unfolding le_at
le_at-below_16 place bytes h = let f = AreBytes-part place 2 bytes h in omega (arith, f 0, f 1)

pub le_at-below_32 : (place : ℕ) (bytes : List ℕ) → AreBytes bytes → le_at w32 place bytes < 2 ^ 32
unfolding le_at
le_at-below_32 place bytes h = let f = AreBytes-part place 4 bytes h in omega (arith, f 0, f 1, f 2, f 3)
