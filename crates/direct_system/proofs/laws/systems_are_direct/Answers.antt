use Rattle.std.proofs.Common.{List, sym, subst}
use Rattle.direct_run.specs.World.{course}
use Rattle.direct_run.specs.declared.item.Item.{Item}
use Rattle.direct_device.specs.Legal.{IsDirect}
use Rattle.direct_proof.specs.Steps.{answers_of, requests_of}
use Rattle.direct_system.proofs.laws.systems_are_direct.Goals as goal

pub returns-clause-direct : goal.returns-clause-direct
returns-clause-direct g c = λ first kept steps stands.
    subst (λ (t : List Item). IsDirect g.G.Gadget.meaning first (requests_of (course g.G.Gadget.meaning first steps)) t (answers_of (course g.G.Gadget.meaning first steps)))
    (sym stands.trace-is) (c.simulation.ensures first steps stands.known).direct

pub returns-clause-simulates : goal.returns-clause-simulates
returns-clause-simulates g c = λ first kept steps stands. c.simulation.ensures first steps stands.known
