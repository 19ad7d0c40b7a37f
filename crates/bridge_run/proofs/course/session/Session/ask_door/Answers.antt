use Rattle.std.proofs.Common.{Bool, true, [], ◌∷◌, Ok, sym, ◌∙◌, ap, subst}
use Rattle.gate_outside.specs.declared.fault.Failed.{Failed as Fault}
use Rattle.gate_outside.specs.Doors.{Accepts}
use Rattle.bridge_run.specs.events.Events.{ClientComes}
use Rattle.bridge_run.specs.declared.course.rounds.Rounds.{Rounds}
use Rattle.bridge_run.specs.course.Course.{Setting, AtDoor, AtClient, Takes}
use Rattle.bridge_run.specs.course.Calls.{Goes, come, course_of}
use Rattle.bridge_run.specs.course.Outside.{outside, gathering}
use Rattle.bridge_run.specs.inner.Follows.{RunsOn, setting}
use Rattle.bridge_run.proofs.lemmas.course.Course.{reaches-none, reaches-call, runs-then, cut-next}
use Rattle.bridge_run.proofs.lemmas.course.Answers.{accepted, waited, not_accepted, call-door}
use Rattle.gate_outside.specs.Calls.{Accept}
use Rattle.bridge_run.specs.log.Asks.{ForClient}
use Rattle.bridge_run.specs.log.Log.{Told}
use Rattle.bridge_run.proofs.lemmas.log.Rounds.{there-asking, came-taking, client-logs, nobody-at, accept-failed}
use Rattle.bridge_run.proofs.course.session.Session.ask_door.Goals as goal

pub returns-in-Ok-true-clause-course : goal.returns-in-Ok-true-clause-course
returns-in-Ok-true-clause-course g c = λ first begun k f.
    let p = g.C.Served.sends first in
    let kept = c.args.self.now.rounds in
    let s = setting p kept in
    let w = outside (g.D.Doors.link c.args.doors.now) (g.D.Doors.door c.args.doors.now) in
    let w1 = outside (g.D.Doors.link c.accept.new.self) (g.D.Doors.door c.accept.new.self) in
    let w2 = outside (g.D.Doors.link c.happen.new.doors) (g.D.Doors.door c.happen.new.doors) in
    let out = gathering begun (g.K.Sink.contents c.args.out.now) (g.T.Tape.contents c.args.tape.now) c.args.self.now.waiting in
    let out2 = gathering begun (g.K.Sink.contents c.happen.new.out) (g.T.Tape.contents c.happen.new.tape) c.happen.new.self.waiting in
    let stands2 = g.C.Served.stands first c.happen.new.self.served in
    let from = Goes AtDoor k in
    let down = sym f.client_up ∙ c.if-self.false in
    let a = accepted (g.C.Served.stands first c.args.self.now.served) p kept c.come.new.self w w1 out k f
    (subst (λ (b : Bool). Accepts {E = Fault} (Ok b) w.door w1.door w.client w1.client) c.in-Ok-true.field-0-test c.in-Ok-true.ensures.accepts) c.in-Ok-true.ensures.other c.come.ensures in
    let next = Takes ClientComes AtClient in
    runs-then c.happen.result stands2 (g.C.Served.runs_out first) s c.happen.new.self.rounds w2 out2 from next a.course AtClient
    (reaches-call s from AtDoor k (Goes next a.course) (reaches-none s from) (call-door s k down ∙ a.is))
    (subst (λ (t : Setting). RunsOn c.happen.result stands2 (g.C.Served.runs_out first) t c.happen.new.self.rounds w2 out2 (Goes next a.course) AtClient) (ap (setting p) c.come.ensures) (c.happen.ensures.course first [] begun AtClient a.course a.follows))

pub returns-in-Ok-false-clause-course : goal.returns-in-Ok-false-clause-course
returns-in-Ok-false-clause-course g c = λ first begun k f.
    let p = g.C.Served.sends first in
    let kept = c.args.self.now.rounds in
    let s = setting p kept in
    let w = outside (g.D.Doors.link c.args.doors.now) (g.D.Doors.door c.args.doors.now) in
    let w1 = outside (g.D.Doors.link c.accept.new.self) (g.D.Doors.door c.accept.new.self) in
    let from = Goes AtDoor k in
    let down = sym f.client_up ∙ c.if-self.false in
    let a = waited (g.C.Served.stands first c.args.self.now.served) p kept w w1 (gathering begun (g.K.Sink.contents c.args.out.now) (g.T.Tape.contents c.args.tape.now) c.args.self.now.waiting) k f
    (subst (λ (b : Bool). Accepts {E = Fault} (Ok b) w.door w1.door w.client w1.client) c.in-Ok-false.field-0-test c.in-Ok-false.ensures.accepts) c.in-Ok-false.ensures.other in
    record {
      course = k;
      reaches = reaches-call s from AtDoor k (Goes AtClient k) (reaches-none s from) (call-door s k down ∙ a.0);
      follows = a.1;
    }

pub returns-in-Err-clause-course : goal.returns-in-Err-clause-course
returns-in-Err-clause-course g c = λ first begun k f.
    let p = g.C.Served.sends first in
    let s = setting p c.args.self.now.rounds in
    let w = outside (g.D.Doors.link c.args.doors.now) (g.D.Doors.door c.args.doors.now) in
    let w' = outside (g.D.Doors.link c.accept.new.self) (g.D.Doors.door c.accept.new.self) in
    let out = gathering begun (g.K.Sink.contents c.args.out.now) (g.T.Tape.contents c.args.tape.now) c.args.self.now.waiting in
    let from = Goes AtDoor k in
    let down = sym f.client_up ∙ c.if-self.false in
    cut-next s from AtDoor k (course_of (come k.clients k)) w' out (reaches-none s from) (ap course_of (call-door s k down))
    (not_accepted w w' out k f.tells c.in-Err.ensures.accepts.0 c.in-Err.ensures.other c.in-Err.ensures.accepts.1)

pub returns-then-self-clause-log : goal.returns-then-self-clause-log
returns-then-self-clause-log g c = λ first terms begun begun_out taped a.
    there-asking g.D.Doors.call_gives (g.C.Served.stands first c.args.self.now.served) (Told g.K.Sink.write_gives begun_out c.args.out.now) terms (g.C.Served.sends first) c.args.self.now.rounds begun c.args.doors.now c.if-self.true a

pub returns-in-Ok-true-clause-log : goal.returns-in-Ok-true-clause-log
returns-in-Ok-true-clause-log g c = λ first terms begun begun_out taped a.
    let gives = g.D.Doors.call_gives in
    let p = g.C.Served.sends first in
    let k = c.args.self.now.rounds in
    let answered = subst (λ (b : Bool). gives c.args.doors.now (Accept (Ok b)) c.accept.new.self) c.in-Ok-true.field-0-test c.in-Ok-true.ensures.gives in
    let h = c.happen.ensures.log first [] terms (ForClient (Ok true) ∷ a.asks) begun begun_out taped
    (came-taking gives (g.C.Served.stands first c.args.self.now.served) (Told g.K.Sink.write_gives begun_out c.args.out.now) terms p k c.come.new.self begun c.args.doors.now c.accept.new.self c.if-self.false a answered c.come.ensures) in
    client-logs c.happen.result gives (g.C.Served.stands first c.happen.new.self.served) (g.C.Served.runs_out first) (Told g.K.Sink.write_gives begun_out c.happen.new.out) terms p a.asks k c.come.new.self c.happen.new.self.rounds begun c.happen.new.doors h a.patient
    (ap (λ (q : Rounds). q.busy) c.come.ensures) (ap (λ (q : Rounds). q.idle) c.come.ensures) (ap (λ (q : Rounds). q.waits) c.come.ensures) c.happen.ensures.wears

pub returns-in-Ok-false-clause-log : goal.returns-in-Ok-false-clause-log
returns-in-Ok-false-clause-log g c = λ first terms begun begun_out taped a.
    let gives = g.D.Doors.call_gives in
    nobody-at gives (g.C.Served.stands first c.args.self.now.served) (Told g.K.Sink.write_gives begun_out c.args.out.now) terms (g.C.Served.sends first) c.args.self.now.rounds begun c.args.doors.now c.accept.new.self a c.if-self.false
    (subst (λ (b : Bool). gives c.args.doors.now (Accept (Ok b)) c.accept.new.self) c.in-Ok-false.field-0-test c.in-Ok-false.ensures.gives)

pub returns-in-Err-clause-log : goal.returns-in-Err-clause-log
returns-in-Err-clause-log g c = λ first terms begun begun_out taped a.
    accept-failed g.D.Doors.call_gives (g.C.Served.stands first c.args.self.now.served) (g.C.Served.runs_out first) (Told g.K.Sink.write_gives begun_out c.args.out.now) terms (g.C.Served.sends first) _ c.args.self.now.rounds begun c.args.doors.now c.accept.new.self c.if-self.false a c.in-Err.ensures.gives
