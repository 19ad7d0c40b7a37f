use Rattle.std.proofs.Common.{◌≡◌}
use Rattle.gate_outside.specs.Link.{other}
use Rattle.gate_sockets.specs.State.{state_of}
use Rattle.gate_sockets.specs.Writing.{Waited}
use Rattle.gate_sockets.proofs.tcp_doors.TcpDoorsDoors.write.Given as goal

abbrev pub invariant-loop-tried : goal.invariant-loop-tried
invariant-loop-tried g l =
    let r = g.N.Stream.Connection.read_gives in
    let w = g.N.Stream.Connection.write_gives in
    Waited r w l.tried (state_of l.fn.self l.side) (state_of l.self l.side) × Waited r w 0 (state_of l.fn.self (other l.side)) (state_of l.self (other l.side)) × (l.self.door ≡ l.fn.self.door)
