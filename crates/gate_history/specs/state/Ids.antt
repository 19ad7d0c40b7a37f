-- How ids are drawn: in turn from 1 to the greatest, past those that are in flight.
use Rattle.std.specs.Prelude.{◌≡◌, ℕ, zero, suc, ◌+◌, ◌-◌, ◌^◌, ◌≤◌, ◌==◌, nat_lt, nat_eq, Bool, true, false, if◌then◌else◌, List, [], ◌∷◌, length, fold}
use Rattle.std.specs.List.{list_any, AllByRecursion, IsDistinct}

-- the id after this one; 1 comes after m
abbrev pub id_after : ℕ → ℕ → ℕ
id_after m id = if nat_lt id m then id + 1 else 1

abbrev pub holds : List ℕ → ℕ → Bool
holds ids id = list_any (λ x. id == x) ids

-- the first id from this one on that isn't in flight, where at most n are passed over
abbrev pub free_from : ℕ → List ℕ → ℕ → ℕ → ℕ
free_from m flying zero id = id
free_from m flying (suc n) id = if holds flying id then free_from m flying n (id_after m id) else id

-- the next id: the first after the last drawn that isn't in flight. No more are passed over than are in flight
abbrev pub draw : ℕ → List ℕ → ℕ → ℕ
draw m flying last = free_from m flying (length flying) (id_after m last)

-- n ids in turn, the first drawn first
abbrev pub draws : ℕ → List ℕ → ℕ → ℕ → List ℕ
draws m flying last zero = []
draws m flying last (suc n) = draw m flying last ∷ draws m flying (draw m flying last) n

-- the last drawn, after these were drawn
abbrev pub last_of : ℕ → List ℕ → ℕ
last_of last ids = fold (λ before id. id) last ids

-- the greatest id, without 64-bit ids and with them
abbrev pub greatest : Bool → ℕ
greatest wide = if wide then 2 ^ 64 - 1 else 2 ^ 32 - 1

-- ---- the same by a relation

-- `found` comes k turns after `from`, isn't in flight, and all before it are
abbrev pub ReachesId : ℕ → List ℕ → ℕ → ℕ → ℕ → Type 0
ReachesId m flying zero from found = (found ≡ from) × (holds flying found ≡ false)
ReachesId m flying (suc k) from found = (holds flying from ≡ true) × ReachesId m flying k (id_after m from) found

abbrev pub IsNext : ℕ → List ℕ → ℕ → ℕ → Type 0
IsNext m flying last found = (k : ℕ) × ReachesId m flying k (id_after m last) found

-- an id that a packet can have
pub record Fits (m id : ℕ) : Type 0 where
  pub low : 1 ≤ id
  pub high : id ≤ m

-- they are from 1 to m, in flight nowhere, and no two are one
pub record AreFresh (m : ℕ) (flying ids : List ℕ) : Type 0 where
  pub fit : AllByRecursion (Fits m) ids
  pub free : AllByRecursion (λ id. holds flying id ≡ false) ids
  pub differ : IsDistinct nat_eq ids

-- how often an id is in a list
abbrev pub times : ℕ → List ℕ → ℕ
times id [] = 0
times id (x ∷ xs) = (if id == x then 1 else 0) + times id xs

-- no id is in it twice
abbrev pub Once : List ℕ → Type 0
Once ids = (id : ℕ) → times id ids ≤ 1
