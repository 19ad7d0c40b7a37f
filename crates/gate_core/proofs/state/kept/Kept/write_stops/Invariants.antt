use Rattle.std.proofs.Common.{◌≡◌, ◌++◌, take}
use Rattle.gate_history.specs.state.Ups.{is_ended}
use Rattle.gate_history.specs.write.Packets.{stops}
use Rattle.gate_core.specs.inner.state.SentIds.{sent_ids_of, after_stops, bytes_of}
use Rattle.gate_core.proofs.state.kept.Kept.write_stops.Given as goal

-- the stops so far
abbrev pub invariant-loop-stream : goal.invariant-loop-stream
invariant-loop-stream l = record {
  sent_ids : l.sent_ids ≡ after_stops l.self (sent_ids_of l.self) (stops (is_ended l.by) (take l.stream-index l.self.streams));
  sent : l.to_host ≡ l.fn.to_host ++ bytes_of l.self l.self.last (stops (is_ended l.by) (take l.stream-index l.self.streams));
}
