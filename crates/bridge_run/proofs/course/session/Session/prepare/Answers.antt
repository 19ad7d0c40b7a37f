use Rattle.bridge_run.specs.inner.Coming.{event_with}
use Rattle.bridge_run.proofs.lemmas.course.Taken.{untold-part}
use Rattle.std.proofs.lemmas.Result.{on_err_weaker}
use Rattle.bridge_run.proofs.course.session.Session.prepare.Goals as goal

pub returns-clause-stops : goal.returns-clause-stops
returns-clause-stops g c =
    on_err_weaker c.push_lines.result (λ some first piece past at. untold-part (g.C.Served.runs_out first) (g.C.Served.sends first) past (event_with piece c.args.coming) c.take.new.self.sent (c.in_ok-take.ensures.sends first piece past at) some) c.push_lines.ensures.wants
