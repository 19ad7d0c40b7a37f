-- What a writer leaves: the items behind what was there, all of them or none, or some of them.
use Rattle.std.specs.Prelude.{◌≡◌, List, ◌++◌, Result, Ok, Err}

-- it appends these items to the list, or leaves the list as it was
abbrev pub Appends : {X T E : Type 0} → Result T E → List X → List X → List X → Type 0
Appends (Ok v) old new items = new ≡ old ++ items
Appends (Err e) old new items = new ≡ old

-- the second list is the first with more behind it
pub record Begins {X : Type 0} (front list : List X) : Type 0 where
  pub more : List X
  pub is : list ≡ front ++ more

-- it appends these items to the list, or some that have to be cut off again
abbrev pub AppendsSome : {X T E : Type 0} → Result T E → List X → List X → List X → Type 0
AppendsSome (Ok v) old new items = new ≡ old ++ items
AppendsSome (Err e) old new items = Begins old new
