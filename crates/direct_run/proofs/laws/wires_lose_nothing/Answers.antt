use Rattle.direct_run.proofs.Carried.{host-gets, gate-gets}
use Rattle.direct_run.proofs.laws.wires_lose_nothing.Goals as goal

pub returns-clause-host : goal.returns-clause-host
returns-clause-host g c = λ first steps. host-gets g.G.Gadget.meaning first steps

pub returns-clause-gate : goal.returns-clause-gate
returns-clause-gate g c = λ first steps. gate-gets g.G.Gadget.meaning first steps
