use Rattle.std.proofs.Common.{[], sym, subst}
use Rattle.usb_base.specs.declared.side.Side.{Side}
use Rattle.bridge_run.specs.course.Calls.{Goes, quiet}
use Rattle.bridge_run.specs.course.Outside.{outside, gathering}
use Rattle.bridge_run.specs.inner.Follows.{RunsOn, setting}
use Rattle.bridge_run.specs.inner.Logging.{IsResting}
use Rattle.bridge_run.specs.log.Log.{Told}
use Rattle.bridge_run.proofs.course.session.Session.be_quiet.Goals as goal

pub returns-in-Client-clause-course : goal.returns-in-Client-clause-course
returns-in-Client-clause-course g c = λ first begun next k f.
    subst
    (λ (s : Side). RunsOn c.happen.result (g.C.Served.stands first c.happen.new.self.served) (g.C.Served.runs_out first) (setting (g.C.Served.sends first) c.args.self.now.rounds) c.happen.new.self.rounds (outside (g.D.Doors.link c.happen.new.doors) (g.D.Doors.door c.happen.new.doors)) (gathering begun (g.K.Sink.contents c.happen.new.out) (g.T.Tape.contents c.happen.new.tape) c.happen.new.self.waiting) (Goes (quiet s next) k) next) (sym c.in-Client.is)
    (c.happen.ensures.course first [] begun next k f)

pub returns-in-Client-clause-log : goal.returns-in-Client-clause-log
returns-in-Client-clause-log g c = λ first terms asks begun begun_out taped t.
    c.happen.ensures.log first [] terms asks begun begun_out taped
    (subst (λ (s : Side). IsResting s g.D.Doors.call_gives (g.C.Served.stands first c.args.self.now.served) (Told g.K.Sink.write_gives begun_out c.args.out.now) terms (g.C.Served.sends first) asks c.args.self.now.rounds begun c.args.doors.now) c.in-Client.is t)
