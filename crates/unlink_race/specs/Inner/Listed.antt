-- A list that is kept as rows: each row has a key, and a table has an entry at the key.
use Rattle.std.specs.Prelude.{ℕ, List, [], ◌∷◌, Option, ⊤, IsSome, filter_map}
use Rattle.urb_arena.specs.Distinct.{Absent}

-- each row's key has an entry, and no two rows have one key
abbrev pub IsKeyed : {R X : Type 0} → (R → ℕ) → (ℕ → Option X) → List R → Type 0
IsKeyed key table [] = ⊤
IsKeyed key table (r ∷ rs) = IsSome (table (key r)) × Absent key (key r) rs × IsKeyed key table rs

-- the entries in the rows' order
abbrev pub listed : {R X : Type 0} → (R → ℕ) → (ℕ → Option X) → List R → List X
listed key table rows = filter_map (λ r. table (key r)) rows
