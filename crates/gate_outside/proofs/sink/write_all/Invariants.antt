use Rattle.std.proofs.Common.{length, take, ◌-◌, ◌≡◌, ◌≤◌}
use Rattle.std.specs.Io.KnownBytes.{Appends}
use Rattle.gate_outside.specs.Moved.{Moves}
use Rattle.gate_outside.proofs.sink.write_all.Given as goal

abbrev pub invariant-loop-done : goal.invariant-loop-done
invariant-loop-done g l = record {
  within : l.done ≤ length l.bytes;
  wrote : Appends (g.K.Sink.contents l.initial.sink) (g.K.Sink.contents l.sink) (take l.done l.bytes);
  writes : Moves g.K.Sink.write_gives (take l.done l.bytes) l.initial.sink l.sink;
  stands : g.K.Sink.faults l.sink ≡ g.K.Sink.faults l.initial.sink;
}

abbrev pub decreases-loop-done : goal.decreases-loop-done
decreases-loop-done g l = length l.bytes - l.done
