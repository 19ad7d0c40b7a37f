use Rattle.std.proofs.Common.{◌≡◌, ◌+◌, ◌∷◌, drop, sym, ap, ◌∙◌, arith}
use Rattle.gate_outside.specs.declared.turn.Turn.{Turn}
use Rattle.gate_outside.specs.declared.turn.Turn.TheVariants.{Piece}
use Rattle.gate_outside.specs.Turns.{pending}
use Rattle.gate_outside.specs.Reading.{left}
use Rattle.gate_outside.proofs.Reading.{pending-cut}
use Rattle.gate_outside.proofs.script_reader.Place.skip_empty.Goals as goal

pub returns-then-self-len-clause-left : goal.returns-then-self-len-clause-left
returns-then-self-len-clause-left c =
    let place = c.loop-piece.self in
    let turns = c.args.turns.now in
    let rest = drop (place.at + 1) turns in
    let front : drop place.at turns ≡ Piece c.in-Some-Piece.piece ∷ rest =
    c.in-Some-Piece.ensures.1 ∙ ap (λ (turn : Turn). turn ∷ rest) c.in-Some-Piece.field-0-is in
    let pends : pending (left place turns) ≡ left place turns = rw front (pending-cut place.given c.in-Some-Piece.piece rest (omega arith)) in
    sym pends ∙ c.loop-piece.invariant.same
