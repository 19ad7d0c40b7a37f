use Rattle.std.proofs.Common.{◌≡◌, ◌++◌, length, take}
use Rattle.gate_history.specs.state.Ids.{last_of}
use Rattle.gate_history.specs.write.Packets.{iso_packets}
use Rattle.gate_core.specs.inner.state.SentIds.{ids_after, bytes_of}
use Rattle.gate_core.proofs.state.kept.Kept.write_packets.Given as goal

-- the packets so far
abbrev pub invariant-loop-place : goal.invariant-loop-place
invariant-loop-place l = record {
  last : l.last ≡ last_of l.fn.last (ids_after l.self l.fn.last (length (take l.place (iso_packets l.request))));
  sent : l.to_host ≡ l.fn.to_host ++ bytes_of l.self l.fn.last (take l.place (iso_packets l.request));
}
