-- What the turns of a link give, poll by poll.
use Rattle.std.specs.Prelude.{ℕ, min, List, [], ◌∷◌, length, take, drop}
use Rattle.gate_outside.specs.declared.turn.Turn.{Turn}
use Rattle.gate_outside.specs.declared.turn.Turn.TheVariants.{Piece, Wait, Fail}
use Rattle.gate_outside.specs.declared.turn.Polled.{Polled}
use Rattle.gate_outside.specs.declared.turn.Polled.TheVariants.{Took, NotYet, Ended, Failed}

-- the turns from the first on that is no empty piece
abbrev pub pending : List Turn → List Turn
pending (Piece [] ∷ turns) = pending turns
pending turns = turns

-- what a poll with so much room answers at pending turns
abbrev pub answer : ℕ → List Turn → Polled
answer room [] = Ended
answer room (Piece piece ∷ turns) = Took (min (length piece) room)
answer room (Wait ∷ turns) = NotYet
answer room (Fail ∷ turns) = Failed

-- the bytes that it gives: as much of a piece as there is room for
abbrev pub given : ℕ → List Turn → List ℕ
given room (Piece piece ∷ turns) = take room piece
given room turns = []

-- the turns after it: what is left of a piece stays, even if that is none
abbrev pub after : ℕ → List Turn → List Turn
after room [] = []
after room (Piece piece ∷ turns) = Piece (drop room piece) ∷ turns
after room (turn ∷ turns) = turns

-- how many bytes a poll gave
abbrev pub taken : Polled → ℕ
taken (Took n) = n
taken polled = 0
