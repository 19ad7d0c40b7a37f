-- Counted lists: one row further, spelled again, and read again.
use Rattle.std.proofs.Common.{◌≡◌, ℕ, zero, suc, ◌+◌, ◌-◌, ◌<◌, ◌≤◌, List, [], ◌∷◌, ◌++◌, length, take, drop, refl, sym, ap, ◌∙◌, append_assoc, arith, length-append, flat_map, All}
use Rattle.std.proofs.lemmas.List.{drop-drop, length-drop, drop_at}
use Rattle.std.proofs.Math.Seq.{take-add}
use Rattle.usb_base.specs.Number.{AreBytes}
use Rattle.usb_base.proofs.Numbers.{AreBytes-drop}
use Rattle.usbip_op.specs.Rows.{RowForm, IsSoundRow, rows_size, rows_at}

-- ---- one row further

rows_next : {X : Type 0} (f : RowForm X) (n m : ℕ) (b : List ℕ) → n ≡ suc m → rows_at f n b ≡ f.row b ∷ rows_at f m (drop (f.size b) b)
rows_next f n m b e = ap (λ (k : ℕ). rows_at f k b) e

size_next : {X : Type 0} (f : RowForm X) (n m : ℕ) (b : List ℕ) → n ≡ suc m → rows_size f n b ≡ f.size b + rows_size f m (drop (f.size b) b)
size_next f n m b e = ap (λ (k : ℕ). rows_size f k b) e

pub rows_further : {X : Type 0} (f : RowForm X) (n i : ℕ) (b : List ℕ) (rows all : List X) (row : X) → i < n → row ≡ f.row b → all ≡ rows ++ rows_at f (n - i) b →
    all ≡ (rows ++ row ∷ []) ++ rows_at f (n - (i + 1)) (drop (f.size b) b)
rows_further f n i b rows all row lt is e =
    let left : n - i ≡ suc (n - (i + 1)) = omega arith in
    let later = rows_at f (n - (i + 1)) (drop (f.size b) b) in
    e ∙ ap (λ (xs : List _). rows ++ xs) (rows_next f (n - i) (n - (i + 1)) b left ∙ ap (λ (x : _). x ∷ later) (sym is)) ∙ sym (append_assoc rows (row ∷ []) later)

-- where the rows are all there, the first is, and those behind it
pub first_there : {X : Type 0} (f : RowForm X) (n i : ℕ) (b : List ℕ) → i < n → rows_size f (n - i) b ≤ length b → f.size b ≤ length b
first_there f n i b lt there =
    let left : n - i ≡ suc (n - (i + 1)) = omega arith in
    let step = size_next f (n - i) (n - (i + 1)) b left in
    omega (arith, step, there)

pub later_there : {X : Type 0} (f : RowForm X) (n i : ℕ) (b : List ℕ) → i < n → rows_size f (n - i) b ≤ length b → rows_size f (n - (i + 1)) (drop (f.size b) b) ≤ length (drop (f.size b) b)
later_there f n i b lt there =
    let left : n - i ≡ suc (n - (i + 1)) = omega arith in
    let step = size_next f (n - i) (n - (i + 1)) b left in
    omega (arith, step, there, length-drop (f.size b) b)

pub size_further : {X : Type 0} (f : RowForm X) (n i at total : ℕ) (b : List ℕ) → i < n → total ≡ at + rows_size f (n - i) (drop at b) →
    total ≡ (at + f.size (drop at b)) + rows_size f (n - (i + 1)) (drop (at + f.size (drop at b)) b)
size_further f n i at total b lt e =
    let left : n - i ≡ suc (n - (i + 1)) = omega arith in
    let step : rows_size f (n - i) (drop at b) ≡ f.size (drop at b) + rows_size f (n - (i + 1)) (drop (f.size (drop at b)) (drop at b)) = size_next f (n - i) (n - (i + 1)) (drop at b) left in
    let rest : rows_size f (n - (i + 1)) (drop (f.size (drop at b)) (drop at b)) ≡ rows_size f (n - (i + 1)) (drop (at + f.size (drop at b)) b) = ap (rows_size f (n - (i + 1))) (drop-drop (f.size (drop at b)) at b) in
    omega (arith, e, step, rest)

-- where a row isn't all there, the rows aren't
pub short_here : {X : Type 0} (f : RowForm X) (n i at total : ℕ) (b : List ℕ) → i < n → at ≤ length b → length (drop at b) < f.size (drop at b) → total ≡ at + rows_size f (n - i) (drop at b) → length b < total
short_here f n i at total b lt there less e =
    let left : n - i ≡ suc (n - (i + 1)) = omega arith in
    let step = size_next f (n - i) (n - (i + 1)) (drop at b) left in
    omega (arith, length-drop at b, less, e, step)

-- ---- what is read is spelled so

pub All-cons : {X : Type 0} (P : X → Type 0) (x : X) (xs : List X) → P x → All P xs → All P (x ∷ xs)
All-cons P x xs h hs zero d lt = h
All-cons P x xs h hs (suc k) d lt = hs k d (omega arith)

abbrev pub AreFound : {X : Type 0} → RowForm X → ℕ → List ℕ → Type 0
AreFound f n b = (flat_map f.spelling (rows_at f n b) ≡ take (rows_size f n b) b) × (length (rows_at f n b) ≡ n) × All f.Fits (rows_at f n b)

pub rows_found : {X : Type 0} (f : RowForm X) → IsSoundRow f → (n : ℕ) (b : List ℕ) → AreBytes b → rows_size f n b ≤ length b → AreFound f n b
rows_found f sound zero b are there = (refl, refl, λ k d lt. absurd (omega arith))
rows_found f sound (suc n) b are there =
    let s = f.size b in
    let first = sound.found b are (omega arith) in
    let later = rows_found f sound n (drop s b) (AreBytes-drop s b are) (omega (arith, length-drop s b)) in (
      ap (λ (xs : List ℕ). xs ++ flat_map f.spelling (rows_at f n (drop s b))) first.0 ∙ ap (λ (xs : List ℕ). take s b ++ xs) later.0 ∙ sym (take-add s (rows_size f n (drop s b)) b),
      ap suc later.1,
      All-cons f.Fits (f.row b) (rows_at f n (drop s b)) first.1 later.2,
    )

-- ---- what is spelled so is read

first_fits : {X : Type 0} (P : X → Type 0) (x : X) (xs : List X) → All P (x ∷ xs) → P x
first_fits P x xs h = h 0 x (omega arith)

later_fit : {X : Type 0} (P : X → Type 0) (x : X) (xs : List X) → All P (x ∷ xs) → All P xs
later_fit P x xs h k d lt = h (suc k) d (omega arith)

-- behind a row stand the rows after it
behind : {X : Type 0} (f : RowForm X) → IsSoundRow f → (x : X) (rest : List ℕ) → f.Fits x → drop (f.size (f.spelling x ++ rest)) (f.spelling x ++ rest) ≡ rest
behind f sound x rest fits = drop_at (f.spelling x) rest (f.size (f.spelling x ++ rest)) (sym (sound.size x rest fits))

pub size_again : {X : Type 0} (f : RowForm X) → IsSoundRow f → (xs : List X) (more : List ℕ) → All f.Fits xs → rows_size f (length xs) (flat_map f.spelling xs ++ more) ≡ length (flat_map f.spelling xs)
size_again f sound [] more fits = refl
size_again f sound (x ∷ xs) more fits =
    let rest = flat_map f.spelling xs ++ more in
    let here = first_fits f.Fits x xs fits in
    let later = size_again f sound xs more (later_fit f.Fits x xs fits) in
    ap (rows_size f (suc (length xs))) (append_assoc (f.spelling x) (flat_map f.spelling xs) more)
    ∙ ap (λ (d : List ℕ). f.size (f.spelling x ++ rest) + rows_size f (length xs) d) (behind f sound x rest here)
    ∙ ap (λ (n : ℕ). n + rows_size f (length xs) rest) (sound.size x rest here)
    ∙ ap (λ (n : ℕ). length (f.spelling x) + n) later
    ∙ sym (length-append (f.spelling x) (flat_map f.spelling xs))

pub rows_again : {X : Type 0} (f : RowForm X) → IsSoundRow f → (xs : List X) (more : List ℕ) → All f.Fits xs → rows_at f (length xs) (flat_map f.spelling xs ++ more) ≡ xs
rows_again f sound [] more fits = refl
rows_again f sound (x ∷ xs) more fits =
    let rest = flat_map f.spelling xs ++ more in
    let here = first_fits f.Fits x xs fits in
    let later = rows_again f sound xs more (later_fit f.Fits x xs fits) in
    ap (rows_at f (suc (length xs))) (append_assoc (f.spelling x) (flat_map f.spelling xs) more)
    ∙ ap (λ (d : List ℕ). f.row (f.spelling x ++ rest) ∷ rows_at f (length xs) d) (behind f sound x rest here)
    ∙ ap (λ (y : _). y ∷ rows_at f (length xs) rest) (sound.row x rest here)
    ∙ ap (λ (ys : List _). x ∷ ys) later
