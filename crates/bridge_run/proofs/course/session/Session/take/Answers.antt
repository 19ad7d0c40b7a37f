use Rattle.std.proofs.Common.{sym, subst}
use Rattle.bridge_run.specs.declared.events.coming.Coming.{Coming}
use Rattle.bridge_run.specs.declared.events.sent.Sent.{Sent}
use Rattle.bridge_run.specs.events.Events.{event_of}
use Rattle.bridge_run.specs.inner.Coming.{StandsAt, event_with}
use Rattle.bridge_run.specs.served.Sends.{SendsPart, nothing}
use Rattle.bridge_run.proofs.lemmas.course.Taken.{cleared}
use Rattle.std.proofs.lemmas.Result.{on_err_weaker}
use Rattle.bridge_run.proofs.course.session.Session.take.Goals as goal

pub returns-in-Event-clause-stops : goal.returns-in-Event-clause-stops
returns-in-Event-clause-stops g c =
    on_err_weaker c.take.result
    (λ stops first piece past. subst
    (λ (x : Coming). StandsAt (g.C.Served.stands first) (g.C.Served.runs_out first) (g.C.Served.sends first) piece x c.args.self.now.served c.args.self.now.sent past → SendsPart (g.C.Served.runs_out first) (g.C.Served.sends first) past (event_with piece x) nothing c.take.new.sent) (sym c.in-Event.is)
    (λ at. subst (λ (s : Sent). SendsPart (g.C.Served.runs_out first) (g.C.Served.sends first) past (event_of c.in-Event.event) s c.take.new.sent) (cleared c.clear.new.self c.clear.ensures.client c.clear.ensures.host c.clear.ensures.refusals c.clear.ensures.lets_go) (stops first past at)))
    c.take.ensures.stops
