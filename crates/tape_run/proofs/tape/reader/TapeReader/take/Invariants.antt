use Rattle.std.proofs.Common.{◌≤◌, ◌-◌, ◌++◌, List, ℕ, length, take}
use Rattle.tape_run.specs.Run.{EndsALine}
use Rattle.tape_run.specs.inner.tape.TapeReader.{Stage}
use Rattle.tape_run.proofs.tape.reader.TapeReader.take.Given as goal

abbrev pub invariant-loop-len : goal.invariant-loop-len
invariant-loop-len g l = record {
  within : l.from ≤ length l.piece;
  own_lines : EndsALine (take l.from l.piece);
  stage : (task : g.C.TapeCommand.Task) (read written : List ℕ) → Stage (g.C.TapeCommand.means task) (g.C.TapeCommand.Keeps task) l.initial.self read written → Stage (g.C.TapeCommand.means task) (g.C.TapeCommand.Keeps task) l.self (read ++ take l.from l.piece) written;
}

abbrev pub decreases-loop-len : goal.decreases-loop-len
decreases-loop-len g l = length l.piece - l.from
