use Rattle.direct_run.proofs.Courses.{steps-move}
use Rattle.direct_run.proofs.laws.steps_are_moves.Goals as goal

pub returns : goal.returns
returns g c = λ first steps known. steps-move g.G.Gadget.meaning first steps known
