-- What the fields of a table mean: one list of pairs for each lane.
use Rattle.std.specs.Prelude.{◌≡◌, ℕ, ◌<◌, ◌≤◌, get_or, ◌⊎◌, List, [], ◌∷◌, length, Option, Some, None}
use Rattle.urb_arena.specs.Inner.Columns.{There}
use Rattle.urb_arena.specs.Inner.Turns.{Cells, ring_of, row, listed, total, Tied}
use Rattle.urb_arena.specs.declared.table.Table.{Table}
use Rattle.urb_arena.specs.declared.arena.TheConstants.{MOST}

module _ {X : Type 0} where
  abbrev pub consed : ℕ → Option X → List (ℕ × X) → List (ℕ × X)
  consed k None ps = ps
  consed k (Some x) ps = (k, x) ∷ ps

  -- the places with their values
  abbrev pub pairs : List (Option X) → List ℕ → List (ℕ × X)
  pairs vs [] = []
  pairs vs (k ∷ ks) = consed k (get_or vs k None) (pairs vs ks)

  -- a cell holds a value exactly where it stands in a lane
  pub record Filled (ls : Cells) (vs : List (Option X)) (m : ℕ) : Type 0 where
    pub long : length vs ≡ length ls
    pub live : (k : ℕ) → m < k → k < length ls → ring_of ls k < m → There vs k
    pub bare : (k : ℕ) → k < length ls → (k ≤ m) ⊎ (ring_of ls k ≡ m) → get_or vs k None ≡ None

  unfoldable pub lanes_of : Table X → List (List (ℕ × X))
  lanes_of t = listed (λ r. pairs t.block.values (row t.block.links r)) t.lanes

  -- what holds of the fields of each table
  pub record IsTable (t : Table X) : Type 0 where
    pub block : (t.base.ptr ≡ t.block.at) × (t.deed.at ≡ t.base.ptr) × (t.deed.len ≡ length t.block.links) × (t.deed.alloc ≡ t.alloc)
    pub small : (t.lanes ≤ MOST) × (t.capacity ≤ MOST)
    pub tied : Tied t.block.links t.lanes t.capacity (row t.block.links)
    pub filled : Filled t.block.links t.block.values t.lanes
    pub len : t.len ≡ total (row t.block.links) t.lanes
