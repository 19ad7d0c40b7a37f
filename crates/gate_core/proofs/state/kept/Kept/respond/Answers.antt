use Rattle.gate_core.proofs.lemmas.step.Steady.{does-idle}
use Rattle.gate_core.proofs.state.kept.Kept.respond.Goals as goal

pub returns-in-None-clause-ok : goal.returns-in-None-clause-ok
returns-in-None-clause-ok c st at place h sound =
    rw c.in-None.is (does-idle st c.args.self.now c.args.out.now h c.requires.kept.answered_fits c.requires.kept.unlinked_fits c.requires.kept.dropped_fits)

pub returns-in-Some-clause-ok : goal.returns-in-Some-clause-ok
returns-in-Some-clause-ok c st at place h sound = rw c.in-Some.is (c.answer.ensures.ok st at place h sound)

pub returns-in-Some-clause-wants : goal.returns-in-Some-clause-wants
returns-in-Some-clause-wants c st at place h sound = rw c.in-Some.is (c.answer.ensures.wants st at place h sound)
