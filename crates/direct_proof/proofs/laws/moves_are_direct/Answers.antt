use Rattle.direct_proof.proofs.built.Schedules.{directly, first-direct}
use Rattle.direct_proof.proofs.laws.moves_are_direct.Goals as goal

pub returns-clause-kept : goal.returns-clause-kept
returns-clause-kept g c = λ world shared moves related run are. directly g.G.Gadget.meaning g.met.G.Gadget.lawful world shared related run moves are

pub returns-clause-legal : goal.returns-clause-legal
returns-clause-legal g c = λ first moves are. (first-direct g.G.Gadget.meaning g.met.G.Gadget.lawful first moves are).0

pub returns-clause-answers : goal.returns-clause-answers
returns-clause-answers g c = λ first moves are. (first-direct g.G.Gadget.meaning g.met.G.Gadget.lawful first moves are).1
