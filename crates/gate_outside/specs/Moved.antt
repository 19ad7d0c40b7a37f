-- What sources and sinks were asked, call by call, and what they answered. Lists of calls have the latest first.
use Rattle.std.specs.Prelude.{◌≡◌, ℕ, List, [], ◌∷◌, ◌++◌, Result, Ok}
use Rattle.gate_outside.specs.declared.fault.Failed.{Failed}
use Rattle.gate_outside.specs.Calls.{Called, front_of}

-- the bytes that a call had before it: a read the buffer that it left, and a write its piece; and how many it moved
pub record Move : Type 0 where
  pub bytes : List ℕ
  pub answer : Result ℕ Failed

-- these moves were made, one after the other
abbrev pub Moved : {S : Type 0} → (S → List ℕ → Result ℕ Failed → S → Type 0) → List Move → S → S → Type 0
Moved gives moves old new = Called (λ before (move : Move) behind. gives before move.bytes move.answer behind) moves old new

-- all bytes that they moved, in order
abbrev pub moved : List Move → List ℕ
moved [] = []
moved (move ∷ moves) = moved moves ++ front_of move.answer move.bytes

-- what may come behind these reads: nothing, where the last one found the end
abbrev pub MayFollow : List Move → List ℕ → Type 0
MayFollow [] later = Unit {0}
MayFollow (move ∷ moves) later = move.answer ≡ Ok 0 → later ≡ []

-- these bytes were moved, and no others
pub record Moves {S : Type 0} (gives : S → List ℕ → Result ℕ Failed → S → Type 0) (bytes : List ℕ) (old new : S) : Type 0 where
  pub moves : List Move
  pub called : Moved gives moves old new
  pub all : moved moves ≡ bytes

-- a front of them
pub record MovesFront {S : Type 0} (gives : S → List ℕ → Result ℕ Failed → S → Type 0) (bytes : List ℕ) (old new : S) : Type 0 where
  pub front : List ℕ
  pub back : List ℕ
  pub parts : bytes ≡ front ++ back
  pub moves : Moves gives front old new
