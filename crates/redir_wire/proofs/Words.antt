-- Numbers of one width read, spelled again and read again.
use Rattle.std.proofs.Common.{◌≡◌, ℕ, zero, suc, ◌+◌, ◌*◌, ◌^◌, ◌<◌, ◌≤◌, List, [], ◌∷◌, ◌++◌, length, take, drop, get_or, replicate, refl, sym, ap, ◌∙◌, append_assoc, arith, add-one}
use Rattle.std.specs.Int.{Width, w16, w32, byte_len, from_le_bytes}
use Rattle.std.proofs.lemmas.List.{drop-drop, drop_at, get_or-drop, get_or-take, length-append, length-drop, take_more}
use Rattle.std.proofs.lemmas.Nat.{from_le_bytes-to_le_bytes_2, from_le_bytes-to_le_bytes_4}
use Rattle.byteorder.specs.Endian.{little_number, IsRead}
use Rattle.usb_base.specs.Number.{le, le_at, part, AreBytes}
use Rattle.usb_base.proofs.Numbers.{AreBytes-drop, then, le_spelled_16, le_spelled_32, length-le, le_at-below_16, le_at-below_32}
use Rattle.redir_wire.specs.Words.{numbers, numbers_of, AreNumbers}

-- ---- how many

pub length-numbers_of : (w : Width) (n : ℕ) (b : List ℕ) → length (numbers_of w n b) ≡ n
unfolding numbers_of
length-numbers_of w zero b = refl
length-numbers_of w (suc n) b = ap suc (length-numbers_of w n (drop (byte_len w) b))

pub length-numbers : (w : Width) (ns : List ℕ) → length (numbers w ns) ≡ length ns * byte_len w
length-numbers w [] = omega arith
length-numbers w (n ∷ ns) = omega (arith, length-append (le w n) (numbers w ns), length-le w n, length-numbers w ns)

-- ---- one after another

-- the number after the first n
le_at-drop : (w : Width) (n : ℕ) (b : List ℕ) → le_at w (n * byte_len w) (drop (byte_len w) b) ≡ le_at w (suc n * byte_len w) b
unfolding le_at
le_at-drop w n b = ap (λ (x : List ℕ). from_le_bytes w (take (byte_len w) x)) (drop-drop (n * byte_len w) (byte_len w) b ∙ ap (λ (m : ℕ). drop m b) (omega arith))

next : (w : Width) (n : ℕ) (b : List ℕ) → numbers_of w (suc n) b ≡ numbers_of w n b ++ le_at w (n * byte_len w) b ∷ []
unfolding numbers_of
next w zero b = let none : 0 ≡ 0 * byte_len w = omega arith in ap (λ (m : ℕ). le_at w m b ∷ []) none
next w (suc n) b =
    ap (λ (x : List ℕ). le_at w 0 b ∷ x) (next w n (drop (byte_len w) b) ∙ ap (λ (m : ℕ). numbers_of w n (drop (byte_len w) b) ++ m ∷ []) (le_at-drop w n b))

pub next_word : (n : ℕ) (b : List ℕ) → numbers_of w32 (n + 1) b ≡ numbers_of w32 n b ++ le_at w32 (n * 4) b ∷ []
next_word n b = ap (λ (m : ℕ). numbers_of w32 m b) (add-one n) ∙ next w32 n b

-- the half at a place of a part, by its two bytes
half_of : (b : List ℕ) (n k : ℕ) → 2 * k + 2 ≤ n → little_number 2 (drop (2 * k) (take n b)) ≡ le_at w16 (k * 2) b
unfolding le_at
half_of b n k within =
    let byte : (i : ℕ) → i < 2 → get_or (drop (2 * k) (take n b)) i 0 ≡ get_or (take 2 (drop (k * 2) b)) i 0 =
    λ i less. get_or-drop (2 * k) (take n b) i 0 ∙ get_or-take n b (2 * k + i) 0 (omega arith) ∙ ap (λ (m : ℕ). get_or b m 0) (omega arith)
    ∙ sym (get_or-take 2 (drop (k * 2) b) i 0 less ∙ get_or-drop (k * 2) b i 0) in
    omega (arith, byte 0 (omega arith), byte 1 (omega arith))

-- each by its place
pub halves_at : (b hs : List ℕ) (size n : ℕ) → 2 * n ≤ size → n ≤ length hs → IsRead little_number 2 (take size b) hs → take n hs ≡ numbers_of w16 n b
unfolding numbers_of
halves_at b hs size zero within there read = refl
halves_at b hs size (suc n) within there read =
    let here : get_or hs n 0 ≡ le_at w16 (n * 2) b = read n there ∙ half_of b size n (omega arith) in
    ap (λ (m : ℕ). take m hs) (sym (add-one n)) ∙ take_more hs n 0 there ∙ (λ i. halves_at b hs size n (omega arith) (omega arith) read i ++ here i ∷ []) ∙ sym (next w16 n b)

-- ---- spelled again, and read again

-- what is known of the numbers of a width
pub record AreExact (w : Width) : Type 0 where
  pub spelled : (b : List ℕ) → AreBytes b → byte_len w ≤ length b → le w (le_at w 0 b) ≡ part 0 (byte_len w) b
  pub below : (b : List ℕ) → AreBytes b → le_at w 0 b < 256 ^ byte_len w
  pub again : (n : ℕ) (more : List ℕ) → n < 256 ^ byte_len w → le_at w 0 (le w n ++ more) ≡ n

pub halves_exact : AreExact w16
unfolding le le_at
halves_exact = record { spelled = λ b are there. le_spelled_16 0 b are there; below = le_at-below_16 0; again = λ n more fits. from_le_bytes-to_le_bytes_2 n fits }

pub words_exact : AreExact w32
unfolding le le_at
words_exact = record { spelled = λ b are there. le_spelled_32 0 b are there; below = le_at-below_32 0; again = λ n more fits. from_le_bytes-to_le_bytes_4 n fits }

pub numbers_spelled : (w : Width) → AreExact w → (n : ℕ) (b : List ℕ) → AreBytes b → n * byte_len w ≤ length b → numbers w (numbers_of w n b) ≡ take (n * byte_len w) b
unfolding numbers_of
numbers_spelled w exact zero b bytes there = let none : 0 ≡ 0 * byte_len w = omega arith in ap (λ (m : ℕ). take m b) none
numbers_spelled w exact (suc n) b bytes there =
    let k = byte_len w in
    let left : n * k ≤ length (drop k b) = omega (arith, there, length-drop k b) in
    then k (n * k) b _ _ (exact.spelled b bytes (omega (arith, there))) (numbers_spelled w exact n (drop k b) (AreBytes-drop k b bytes) left)
    ∙ ap (λ (m : ℕ). take m b) (omega arith)

pub numbers_ranges : (w : Width) → AreExact w → (n : ℕ) (b : List ℕ) → AreBytes b → AreNumbers w (numbers_of w n b)
unfolding numbers_of
numbers_ranges w exact zero b bytes = tt
numbers_ranges w exact (suc n) b bytes = (exact.below b bytes, numbers_ranges w exact n (drop (byte_len w) b) (AreBytes-drop (byte_len w) b bytes))

pub numbers_again : (w : Width) → AreExact w → (ns more : List ℕ) → AreNumbers w ns → numbers_of w (length ns) (numbers w ns ++ more) ≡ ns
unfolding numbers_of
numbers_again w exact [] more fits = refl
numbers_again w exact (n ∷ ns) more fits =
    let rest = numbers w ns ++ more in
    let all = append_assoc (le w n) (numbers w ns) more in
    let first = ap (le_at w 0) all ∙ exact.again n rest fits.0 in
    let behind = ap (drop (byte_len w)) all ∙ drop_at (le w n) rest (byte_len w) (length-le w n) in
    let later = ap (numbers_of w (length ns)) behind ∙ numbers_again w exact ns more fits.1 in
    λ i. first i ∷ later i

pub zeros_fit : (n : ℕ) → AreNumbers w16 (replicate n 0)
zeros_fit zero = tt
zeros_fit (suc n) = (omega arith, zeros_fit n)
