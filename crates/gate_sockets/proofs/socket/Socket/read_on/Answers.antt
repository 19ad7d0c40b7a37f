use Rattle.gate_sockets.proofs.Calling.{waited-join, waited-none}
use Rattle.gate_sockets.proofs.socket.Socket.read_on.Goals as goal

pub loop-init : goal.loop-init
loop-init g c = waited-none _ _ _

pub loop-preserved : goal.loop-preserved
loop-preserved g c = waited-join {n = 0} {m = 0} c.loop.invariant c.read_ahead.ensures

pub returns-then-not-read_ahead : goal.returns-then-not-read_ahead
returns-then-not-read_ahead g c = waited-join {n = 0} {m = 0} c.loop.invariant c.read_ahead.ensures
