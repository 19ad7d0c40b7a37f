use Rattle.std.proofs.Common.{◌≡◌, ◌<◌, [], length}
use Rattle.tape_run.specs.inner.tape.TapeReader.{Stage}
use Rattle.tape_run.proofs.lemmas.tape.Stages.{room_of}
use Rattle.tape_run.proofs.lemmas.runs.Going.{Goes}
use Rattle.tape_run.proofs.runs.read_pieces.Given as goal

abbrev pub invariant-loop-reader : goal.invariant-loop-reader
invariant-loop-reader g l = record {
  room : 0 < length l.buf;
  goes : (task : g.C.TapeCommand.Task) → Stage (g.C.TapeCommand.means task) (g.C.TapeCommand.Keeps task) l.initial.reader [] [] → Goes (g.C.TapeCommand.means task) (g.C.TapeCommand.Keeps task) g.S.Source.read_gives g.K.Sink.write_gives g.S.Source.remaining g.K.Sink.contents l.initial.tape l.tape l.initial.out l.out l.reader;
  tape : g.S.Source.faults l.tape ≡ g.S.Source.faults l.initial.tape;
  out : g.K.Sink.faults l.out ≡ g.K.Sink.faults l.initial.out;
}

abbrev pub decreases-loop-reader : goal.decreases-loop-reader
decreases-loop-reader g l = room_of l.reader
