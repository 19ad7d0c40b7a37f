use Rattle.direct_proof.proofs.steps.Simulated.{simulated}
use Rattle.direct_proof.proofs.laws.simulation.Goals as goal

pub returns : goal.returns
returns g c = λ first steps known. simulated g.G.Gadget.meaning g.met.G.Gadget.lawful first steps known
