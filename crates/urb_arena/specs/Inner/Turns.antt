-- Cells in rings: what the links say, and what a change of them makes.
use Prim.Native.Nat.{zero, suc}
use Rattle.std.specs.Prelude.{◌≡◌, ◌==◌, nat_lt, ℕ, ◌+◌, ◌-◌, ◌<◌, ◌≤◌, get_or, ◌⊎◌, List, [], ◌∷◌, ◌++◌, length, slice_set, Option, Some, None, if◌then◌else◌}
use Rattle.urb_arena.specs.Distinct.{Distinct, itself}
use Rattle.urb_arena.specs.Inner.Columns.{There}
use Rattle.urb_arena.specs.declared.cells.Links.{Links}

abbrev pub Cells : Type 0
Cells = List (Option Links)

abbrev pub links_or : Option Links → Links
links_or None = record { prev = 0; next = 0; ring = 0 }
links_or (Some l) = l

-- the links of the i-th cell
abbrev pub link_at : Cells → ℕ → Links
link_at ls i = links_or (get_or ls i None)

abbrev pub next_of : Cells → ℕ → ℕ
next_of ls i = (link_at ls i).next

abbrev pub prev_of : Cells → ℕ → ℕ
prev_of ls i = (link_at ls i).prev

abbrev pub ring_of : Cells → ℕ → ℕ
ring_of ls i = (link_at ls i).ring

abbrev pub with_link : Cells → ℕ → Links → Cells
with_link ls i l = slice_set ls i (Some l)

abbrev pub with_next : Cells → ℕ → ℕ → Cells
with_next ls i v = with_link ls i (record { prev = prev_of ls i; next = v; ring = ring_of ls i })

abbrev pub with_prev : Cells → ℕ → ℕ → Cells
with_prev ls i v = with_link ls i (record { prev = v; next = next_of ls i; ring = ring_of ls i })

-- k is taken out of its ring: its neighbours are joined
unfoldable pub unlinked : Cells → ℕ → Cells
unlinked ls k = with_prev (with_next ls (prev_of ls k) (next_of ls k)) (next_of ls k) (prev_of ls k)

-- k stands before the end e
unfoldable pub linked : Cells → ℕ → ℕ → Cells
linked ls k e = with_link (with_prev (with_next ls (prev_of ls e) k) e k) k (record { prev = prev_of ls e; next = e; ring = e })

-- the cell k moves to the back of the ring of the end e
abbrev pub moved : Cells → ℕ → ℕ → Cells
moved ls k e = linked (unlinked ls k) k e

-- each cell has links, and they lead to cells
pub record Sound (ls : Cells) : Type 0 where
  pub there : (i : ℕ) → i < length ls → There ls i
  pub inside : (i : ℕ) → i < length ls → (next_of ls i < length ls) × (prev_of ls i < length ls)

-- from a the links lead through ks to b, and back
abbrev pub Path : (ℕ → ℕ) → (ℕ → ℕ) → ℕ → List ℕ → ℕ → Type 0
Path next prev a [] b = (next a ≡ b) × (prev b ≡ a)
Path next prev a (k ∷ ks) b = (next a ≡ k) × (prev k ≡ a) × Path next prev k ks b

-- k is one of the places
abbrev pub In : ℕ → List ℕ → Type 0
In k [] = ⊥
In k (j ∷ js) = (j ≡ k) ⊎ In k js

-- the places from `at` on, until `stop`, at most n
abbrev pub follow : ℕ → (ℕ → ℕ) → ℕ → ℕ → List ℕ
follow zero next at stop = []
follow (suc n) next at stop = if at == stop then [] else (at ∷ follow n next (next at) stop)

-- the places in the ring of the end r
unfoldable pub row : Cells → ℕ → List ℕ
row ls r = follow (length ls) (next_of ls) (next_of ls r) r

module _ {Y : Type 0} where
  -- f 0 to f (n - 1)
  abbrev pub listed : (ℕ → Y) → ℕ → List Y
  listed f zero = []
  listed f (suc n) = listed f n ++ f n ∷ []

  -- how many those lists have together
  abbrev pub total : (ℕ → List Y) → ℕ → ℕ
  total f zero = 0
  total f (suc n) = total f n + length (f n)

-- m rings and one of free cells: the ends are the places 0 to m, and cap cells follow
pub record Tied (ls : Cells) (m cap : ℕ) (rows : ℕ → List ℕ) : Type 0 where
  pub size : length ls ≡ m + 1 + cap
  pub sound : Sound ls
  pub ends : (r : ℕ) → r ≤ m → ring_of ls r ≡ r
  pub paths : (r : ℕ) → r ≤ m → Path (next_of ls) (prev_of ls) r (rows r) r
  pub members : (r : ℕ) → r ≤ m → (k : ℕ) → In k (rows r) → (m < k) × (k < length ls) × (ring_of ls k ≡ r)
  pub found : (k : ℕ) → m < k → k < length ls → (ring_of ls k ≤ m) × In k (rows (ring_of ls k))
  pub distinct : (r : ℕ) → r ≤ m → Distinct itself (rows r)
  pub count : total rows (m + 1) ≡ cap

-- the rings once k is gone from that of f, where xs stood before it and ys after it
abbrev pub without_cell : (ℕ → List ℕ) → ℕ → List ℕ → List ℕ → ℕ → List ℕ
without_cell rows f xs ys r = if r == f then xs ++ ys else rows r

-- and once k comes last in that of e
abbrev pub with_cell : (ℕ → List ℕ) → ℕ → ℕ → ℕ → List ℕ
with_cell rows k e r = if r == e then rows e ++ k ∷ [] else rows r

-- the links of the i-th of n cells at first: m rings are empty, and that of the end m has all that follow
abbrev pub start : ℕ → ℕ → ℕ → Links
start m n i = if nat_lt i m then record { prev = i; next = i; ring = i } else record { prev = if i == m then n - 1 else i - 1; next = if i + 1 == n then m else i + 1; ring = m }

-- the first i cells have these
abbrev pub Started : Cells → ℕ → ℕ → ℕ → Type 0
Started ls m n i = (j : ℕ) → j < i → get_or ls j None ≡ Some (start m n j)
