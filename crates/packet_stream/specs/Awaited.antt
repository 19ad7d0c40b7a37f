-- How many bytes a packet awaits of which less than all is there: the least number at which anything of it is decided.
use Rattle.std.specs.Prelude.{◌≡◌, ℕ, ◌≤◌, ◌<◌, true, ◌&&◌, nat_lt, if◌then◌else◌, List, [], ◌∷◌, ◌++◌, length, ◌⊎◌}
use Rattle.packet_stream.specs.Format.{Check, Format, Short, reading}

-- a check that is tried in a packet which begins so has its bytes at n of them
abbrev pub IsComplete : {R : Type 0} → List (Check R) → List ℕ → ℕ → Type 0
IsComplete [] bytes n = ⊥
IsComplete (c ∷ cs) bytes n = ((c.tried bytes ≡ true) × (c.needed ≡ n)) ⊎ IsComplete cs bytes n

-- at n bytes a check has its bytes, or the packet with the fields that are there is whole
abbrev pub Decides : {P R : Type 0} → Format P R → List ℕ → ℕ → Type 0
Decides f bytes n = IsComplete f.checks bytes n ⊎ (f.size bytes ≡ n)

-- the least of the numbers above low of which this holds
pub record IsLeastAbove (low : ℕ) (Holds : ℕ → Type 0) (n : ℕ) : Type 0 where
  pub above : low < n
  pub holds : Holds n
  pub least : (m : ℕ) → low < m → Holds m → n ≤ m

-- so many bytes are awaited
abbrev pub IsAwaited : {P R : Type 0} → Format P R → List ℕ → ℕ → Type 0
IsAwaited f bytes n = IsLeastAbove (length bytes) (Decides f bytes) n

-- whatever comes, nothing is whole or wrong while fewer than n bytes are there
abbrev pub StaysShort : {P R : Type 0} → Format P R → List ℕ → ℕ → Type 0
StaysShort f bytes n = (more : List ℕ) → length (bytes ++ more) < n → reading f (bytes ++ more) ≡ Short

-- ---- the same as a computation, for checks that need rising numbers of bytes

-- the first check that is tried and hasn't its bytes yet, else the packet's size
abbrev pub first_awaited : {R : Type 0} → List (Check R) → List ℕ → ℕ → ℕ
first_awaited [] bytes size = size
first_awaited (c ∷ cs) bytes size = if c.tried bytes && nat_lt (length bytes) c.needed then c.needed else first_awaited cs bytes size

abbrev pub awaited : {P R : Type 0} → Format P R → List ℕ → ℕ
awaited f bytes = first_awaited f.checks bytes (f.size bytes)
