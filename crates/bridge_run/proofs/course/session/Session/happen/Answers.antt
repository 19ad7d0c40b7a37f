use Rattle.std.proofs.Common.{Bool, [], Result, refl, sym, ◌∙◌, subst}
use Rattle.std.proofs.lemmas.Bool.{false≢true}
use Rattle.usb_base.specs.declared.side.Side.TheVariants.{Client}
use Rattle.bridge_run.specs.events.Events.{SideEnd}
use Rattle.bridge_run.specs.inner.Coming.{event_with}
use Rattle.bridge_run.specs.declared.course.serve_end.ServeEnd.{ServeEnd}
use Rattle.bridge_run.specs.course.Course.{Takes}
use Rattle.bridge_run.specs.course.Calls.{Goes, put}
use Rattle.bridge_run.specs.course.Outside.{outside, gathering}
use Rattle.bridge_run.specs.inner.Follows.{setting}
use Rattle.bridge_run.proofs.lemmas.course.Course.{reaches-none, reaches-call, cut-leaves, cut-next, err-runs, is-err}
use Rattle.bridge_run.proofs.lemmas.course.Settle.{settled, take-course, take-settles, take-ends, quiet-on, on-all}
use Rattle.bridge_run.specs.log.Log.{Told}
use Rattle.bridge_run.specs.inner.Logging.{IsBehind, HappenLogs}
use Rattle.bridge_run.proofs.lemmas.log.Log.{settled-logs}
use Rattle.bridge_run.proofs.course.session.Session.happen.Goals as goal

pub returns-in_err-dropped-clause-course : goal.returns-in_err-dropped-clause-course
returns-in_err-dropped-clause-course g c = λ first piece begun next k f.
    let p = g.C.Served.sends first in
    let s = setting p c.args.self.now.rounds in
    let w = outside (g.D.Doors.link c.put.new.doors) (g.D.Doors.door c.put.new.doors) in
    let out = gathering begun (g.K.Sink.contents c.put.new.out) (g.T.Tape.contents c.put.new.tape) c.put.new.self.waiting in
    let e = event_with piece c.args.coming in
    let from = Goes (Takes e next) k in
    let end = c.in_err-dropped.field-0.0 in
    err-runs c.from_residual.result end c.from_residual.ensures.1 (g.C.Served.stands first c.put.new.self.served) (g.C.Served.runs_out first) s c.put.new.self.rounds w out from next
    (cut-leaves end (g.C.Served.runs_out first) s from w out c.in_err-dropped.ensures.cut (cut-next s from (Takes e next) k (put p e k) w out (reaches-none s from) (take-course s e next k) (c.in_err-dropped.ensures.course first piece begun k f)))

pub returns-in_err-put-clause-course : goal.returns-in_err-put-clause-course
returns-in_err-put-clause-course g c = λ first piece begun next k f.
    let p = g.C.Served.sends first in
    let s = setting p c.args.self.now.rounds in
    let w = outside (g.D.Doors.link c.put-2.new.doors) (g.D.Doors.door c.put-2.new.doors) in
    let out = gathering begun (g.K.Sink.contents c.put-2.new.out) (g.T.Tape.contents c.put-2.new.tape) c.put-2.new.self.waiting in
    let e = event_with piece c.args.coming in
    let from = Goes (Takes e next) k in
    let end = c.in_err-put.field-0.0 in
    let first_put = c.in_ok-dropped.ensures.course first piece begun k f in
    let ends = take-ends s e next k c.in_ok-dropped.dropped first_put.1 (sym (c.ends_next.ensures piece) ∙ c.if-not-ends_next.false) in
    err-runs c.from_residual-in_err-put.result end c.from_residual-in_err-put.ensures.1 (g.C.Served.stands first c.put-2.new.self.served) (g.C.Served.runs_out first) s c.put-2.new.self.rounds w out from next
    (cut-leaves end (g.C.Served.runs_out first) s from w out c.in_err-put.ensures.cut (cut-next s from (Takes (SideEnd Client) next) (put p e k) (put p (SideEnd Client) (put p e k)) w out
    (reaches-call s from (Takes e next) k (Goes (Takes (SideEnd Client) next) (put p e k)) (reaches-none s from) ends) (take-course s (SideEnd Client) next (put p e k)) (c.in_err-put.ensures.course first piece begun (put p e k) first_put.0)))

pub returns-then-not-ends_next-clause-course : goal.returns-then-not-ends_next-clause-course
returns-then-not-ends_next-clause-course g c = λ first piece begun next k f.
    let p = g.C.Served.sends first in
    let s = setting p c.args.self.now.rounds in
    let w = outside (g.D.Doors.link c.put.new.doors) (g.D.Doors.door c.put.new.doors) in
    let out = gathering begun (g.K.Sink.contents c.put.new.out) (g.T.Tape.contents c.put.new.tape) c.put.new.self.waiting in
    let e = event_with piece c.args.coming in
    let from = Goes (Takes e next) k in
    let first_put = c.in_ok-dropped.ensures.course first piece begun k f in
    settled c.settle.result (g.C.Served.stands first c.put.new.self.served) (g.C.Served.runs_out first) p c.args.self.now.rounds.idle c.put.new.self.rounds w out from (Takes e next) k next (put p e k) c.settle.ensures first_put.0
    (reaches-none s from) (take-settles s e next k c.in_ok-dropped.dropped first_put.1 (sym (c.ends_next.ensures piece) ∙ c.if-not-ends_next.true))

pub returns-clause-course : goal.returns-clause-course
returns-clause-course g c = λ first piece begun next k f.
    let p = g.C.Served.sends first in
    let s = setting p c.args.self.now.rounds in
    let w = outside (g.D.Doors.link c.put-2.new.doors) (g.D.Doors.door c.put-2.new.doors) in
    let out = gathering begun (g.K.Sink.contents c.put-2.new.out) (g.T.Tape.contents c.put-2.new.tape) c.put-2.new.self.waiting in
    let e = event_with piece c.args.coming in
    let from = Goes (Takes e next) k in
    let first_put = c.in_ok-dropped.ensures.course first piece begun k f in
    let second_put = c.in_ok-put.ensures.course first piece begun (put p e k) first_put.0 in
    let ends = take-ends s e next k c.in_ok-dropped.dropped first_put.1 (sym (c.ends_next.ensures piece) ∙ c.if-not-ends_next.false) in
    settled c.settle-2.result (g.C.Served.stands first c.put-2.new.self.served) (g.C.Served.runs_out first) p c.args.self.now.rounds.idle c.put-2.new.self.rounds w out from (Takes (SideEnd Client) next) (put p e k) next (put p (SideEnd Client) (put p e k)) c.settle-2.ensures second_put.0
    (reaches-call s from (Takes e next) k (Goes (Takes (SideEnd Client) next) (put p e k)) (reaches-none s from) ends) (take-settles s (SideEnd Client) next (put p e k) _ second_put.1 refl)

pub returns-then-not-ends_next-clause-quiet : goal.returns-then-not-ends_next-clause-quiet
returns-then-not-ends_next-clause-quiet g c = on-all c.settle.result _ (λ quiet. (c.in_ok-dropped.ensures.quiet quiet).1)

pub returns-clause-quiet : goal.returns-clause-quiet
returns-clause-quiet g c = on-all c.settle-2.result _
    (λ quiet. absurd (false≢true (sym (quiet-on (event_with [] c.args.coming) c.in_ok-dropped.dropped (c.in_ok-dropped.ensures.quiet quiet).0) ∙ sym (c.ends_next.ensures []) ∙ c.if-not-ends_next.false)))

pub returns-in_err-dropped-clause-log : goal.returns-in_err-dropped-clause-log
returns-in_err-dropped-clause-log g c = λ first piece terms asks begun begun_out taped t.
    subst (λ (r : Result (Unit {0}) ServeEnd). HappenLogs r g.D.Doors.call_gives (g.C.Served.stands first c.put.new.self.served) (g.C.Served.runs_out first) (Told g.K.Sink.write_gives begun_out c.put.new.out) terms (g.C.Served.sends first) asks c.put.new.self.rounds begun c.put.new.doors) (sym (is-err c.from_residual.result c.in_err-dropped.field-0.0 c.from_residual.ensures.1))
    (c.in_err-dropped.ensures.log first piece terms asks begun begun_out taped t)

pub returns-in_err-put-clause-log : goal.returns-in_err-put-clause-log
returns-in_err-put-clause-log g c = λ first piece terms asks begun begun_out taped t.
    let gives = g.D.Doors.call_gives in
    let p = g.C.Served.sends first in
    let taking = subst (λ (b : Bool). IsBehind b gives (g.C.Served.stands first c.put.new.self.served) (Told g.K.Sink.write_gives begun_out c.put.new.out) terms p asks c.put.new.self.rounds begun c.put.new.doors) (sym (c.ends_next.ensures piece) ∙ c.if-not-ends_next.false)
    (c.in_ok-dropped.ensures.log first piece terms asks begun begun_out taped t) in
    subst (λ (r : Result (Unit {0}) ServeEnd). HappenLogs r gives (g.C.Served.stands first c.put-2.new.self.served) (g.C.Served.runs_out first) (Told g.K.Sink.write_gives begun_out c.put-2.new.out) terms p asks c.put-2.new.self.rounds begun c.put-2.new.doors) (sym (is-err c.from_residual-in_err-put.result c.in_err-put.field-0.0 c.from_residual-in_err-put.ensures.1))
    (c.in_err-put.ensures.log first piece terms asks begun begun_out (taped ∙ sym c.put.ensures.made) taking)

pub returns-then-not-ends_next-clause-log : goal.returns-then-not-ends_next-clause-log
returns-then-not-ends_next-clause-log g c = λ first piece terms asks begun begun_out taped t.
    let gives = g.D.Doors.call_gives in
    let p = g.C.Served.sends first in
    let tells = Told g.K.Sink.write_gives begun_out c.put.new.out in
    let taken = subst (λ (b : Bool). IsBehind b gives (g.C.Served.stands first c.put.new.self.served) tells terms p asks c.put.new.self.rounds begun c.put.new.doors) (sym (c.ends_next.ensures piece) ∙ c.if-not-ends_next.true)
    (c.in_ok-dropped.ensures.log first piece terms asks begun begun_out taped t) in
    settled-logs c.settle.result gives (g.C.Served.stands first c.put.new.self.served) (g.C.Served.runs_out first) tells terms p asks c.put.new.self.rounds begun c.put.new.doors c.settle.ensures taken

pub returns-clause-log : goal.returns-clause-log
returns-clause-log g c = λ first piece terms asks begun begun_out taped t.
    let gives = g.D.Doors.call_gives in
    let p = g.C.Served.sends first in
    let taking = subst (λ (b : Bool). IsBehind b gives (g.C.Served.stands first c.put.new.self.served) (Told g.K.Sink.write_gives begun_out c.put.new.out) terms p asks c.put.new.self.rounds begun c.put.new.doors) (sym (c.ends_next.ensures piece) ∙ c.if-not-ends_next.false)
    (c.in_ok-dropped.ensures.log first piece terms asks begun begun_out taped t) in
    settled-logs c.settle-2.result gives (g.C.Served.stands first c.put-2.new.self.served) (g.C.Served.runs_out first) (Told g.K.Sink.write_gives begun_out c.put-2.new.out) terms p asks c.put-2.new.self.rounds begun c.put-2.new.doors c.settle-2.ensures (c.in_ok-put.ensures.log first piece terms asks begun begun_out (taped ∙ sym c.put.ensures.made) taking)
