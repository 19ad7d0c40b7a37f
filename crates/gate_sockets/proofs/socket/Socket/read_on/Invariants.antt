use Rattle.gate_sockets.specs.Writing.{ReadOn}
use Rattle.gate_sockets.proofs.socket.Socket.read_on.Given as goal

abbrev pub invariant-loop : goal.invariant-loop
invariant-loop g l = ReadOn g.S.Connection.read_gives g.S.Connection.write_gives l.fn.self l.self
