-- Where the reader of scripts stands.
use Rattle.std.specs.Prelude.{◌≡◌, ◌<◌, ◌≤◌, ℕ, zero, suc, Bool, true, false, List, [], ◌∷◌, length, drop, slice_index_or}
use Rattle.gate_outside.specs.declared.turn.Turn.{Turn}
use Rattle.gate_outside.specs.declared.turn.Turn.TheVariants.{Piece, Wait, Fail}
use Rattle.gate_outside.specs.declared.script_reader.Place.{Place}
use Rattle.gate_outside.specs.Doors.{first}

-- the turns without the first n bytes of the front one
abbrev pub cut : ℕ → List Turn → List Turn
cut n [] = []
cut n (Piece piece ∷ turns) = Piece (drop n piece) ∷ turns
cut n (Wait ∷ turns) = Wait ∷ turns
cut n (Fail ∷ turns) = Fail ∷ turns

-- the front turn has so many bytes
abbrev pub HasBytes : ℕ → List Turn → Type 0
HasBytes n (Piece piece ∷ turns) = n ≤ length piece
HasBytes n _ = n ≡ 0

-- the turns left at a place
abbrev pub left : Place → List Turn → List Turn
left place turns = cut place.given (drop place.at turns)

-- there is such a place
pub record IsPlace (place : Place) (turns : List Turn) : Type 0 where
  pub at : place.at ≤ length turns
  pub given : HasBytes place.given (drop place.at turns)

-- the script that was begun last
abbrev pub current : ℕ → List (List Turn) → List Turn
current zero scripts = []
current (suc k) scripts = slice_index_or scripts k []

pub record Reading : Type 0 where
  -- the turns left of the script that was begun last
  pub turns : List Turn
  -- the scripts that haven't begun
  pub to_come : List (List Turn)

-- the next script begins, while one is left
abbrev pub NextBegins : Bool → Reading → Reading → Type 0
NextBegins true old new = (0 < length old.to_come) × (new ≡ record { turns = first old.to_come; to_come = drop 1 old.to_come })
NextBegins false old new = (old.to_come ≡ []) × (new ≡ old)
