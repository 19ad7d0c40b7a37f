use Rattle.std.proofs.Common.{◌≡◌, true}
use Rattle.call_tests.proofs.tests.sockets.poll_to_end.Given as goal

abbrev pub invariant-loop : goal.invariant-loop
invariant-loop g l = (g.D.Doors.link l.doors l.side).up ≡ true
