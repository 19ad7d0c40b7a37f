use Rattle.std.proofs.Common.{◌≡◌, ◌≤◌, ◌-◌, List, length, take}
use Rattle.gate_outside.specs.Calls.{Call, Called}
use Rattle.gate_outside.specs.Link.{other}
use Rattle.bridge_run.specs.inner.Links.{wrote}
use Rattle.bridge_run.specs.inner.Logging.{WroteMore}
use Rattle.bridge_run.proofs.written.link.write_link.Given as goal

abbrev pub invariant-loop-done : goal.invariant-loop-done
invariant-loop-done g l = record {
  within : l.done ≤ length l.bytes;
  wrote : g.D.Doors.link l.doors l.side ≡ wrote (take l.done l.bytes) (g.D.Doors.link l.initial.doors l.side);
  other : g.D.Doors.link l.doors (other l.side) ≡ g.D.Doors.link l.initial.doors (other l.side);
  door : g.D.Doors.door l.doors ≡ g.D.Doors.door l.initial.doors;
  log : (begun : g.row.D.Denot) (calls : List Call) → Called g.D.Doors.call_gives calls begun l.initial.doors → WroteMore g.D.Doors.call_gives l.side (take l.done l.bytes) calls begun l.doors;
}

abbrev pub decreases-loop-done : goal.decreases-loop-done
decreases-loop-done g l = length l.bytes - l.done
