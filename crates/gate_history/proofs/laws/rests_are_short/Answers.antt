use Rattle.std.proofs.Common.{arith}
use Rattle.gate_history.proofs.lemmas.step.Rests.{client-rest, host-rest}
use Rattle.gate_history.proofs.laws.rests_are_short.Goals as goal

pub returns-clause-client : goal.returns-clause-client
returns-clause-client c bytes are = omega (arith, client-rest bytes are)

pub returns-clause-host : goal.returns-clause-host
returns-clause-host c bytes are = omega (arith, host-rest bytes are)
