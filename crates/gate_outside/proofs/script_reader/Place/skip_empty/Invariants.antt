use Rattle.std.proofs.Common.{◌≡◌, ◌-◌, length}
use Rattle.gate_outside.specs.Turns.{pending}
use Rattle.gate_outside.specs.Reading.{left, IsPlace}
use Rattle.gate_outside.proofs.script_reader.Place.skip_empty.Given as goal

abbrev pub invariant-loop-piece : goal.invariant-loop-piece
invariant-loop-piece l = record {
  place : IsPlace l.self l.turns;
  same : pending (left l.self l.turns) ≡ pending (left l.initial.self l.turns);
}

abbrev pub decreases-loop-piece : goal.decreases-loop-piece
decreases-loop-piece l = length l.turns - l.self.at
