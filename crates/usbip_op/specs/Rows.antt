-- Counted lists, whose rows each tell their own size.
use Rattle.std.specs.Prelude.{◌≡◌, ℕ, zero, suc, ◌+◌, ◌≤◌, ◌<◌, List, [], ◌∷◌, ◌++◌, length, take, drop, Option, Some, None}
use Rattle.usb_base.specs.Number.{AreBytes}

pub record RowForm (X : Type 0) : Type 1 where
  -- how many bytes the row has that begins so, as far as they tell
  pub size : List ℕ → ℕ
  -- the row whose fields stand at their places
  pub row : List ℕ → X
  -- the bytes of a row, its fields in wire order
  pub spelling : X → List ℕ
  -- the ranges of a row's fields
  pub Fits : X → Type 0

-- how many bytes n rows have
abbrev pub rows_size : {X : Type 0} → RowForm X → ℕ → List ℕ → ℕ
rows_size f zero bytes = 0
rows_size f (suc n) bytes = f.size bytes + rows_size f n (drop (f.size bytes) bytes)

-- the n rows that stand one behind another
abbrev pub rows_at : {X : Type 0} → RowForm X → ℕ → List ℕ → List X
rows_at f zero bytes = []
rows_at f (suc n) bytes = f.row bytes ∷ rows_at f n (drop (f.size bytes) bytes)

-- how many bytes the n rows have, or None where they are not all there
abbrev pub IsRowsSize : {X : Type 0} → RowForm X → ℕ → List ℕ → Option ℕ → Type 0
IsRowsSize f n bytes None = length bytes < rows_size f n bytes
IsRowsSize f n bytes (Some size) = (size ≡ rows_size f n bytes) × (size ≤ length bytes)

-- ---- the laws of a row

pub record IsSoundRow {X : Type 0} (f : RowForm X) : Type 0 where
  -- what is read is spelled so, and fits
  pub found : (bytes : List ℕ) → AreBytes bytes → f.size bytes ≤ length bytes → (f.spelling (f.row bytes) ≡ take (f.size bytes) bytes) × f.Fits (f.row bytes)
  -- what is spelled so is read, whatever comes after it
  pub size : (x : X) (more : List ℕ) → f.Fits x → f.size (f.spelling x ++ more) ≡ length (f.spelling x)
  pub row : (x : X) (more : List ℕ) → f.Fits x → f.row (f.spelling x ++ more) ≡ x
