use Rattle.std.proofs.Common.{Result, Err, refl, sym, ap, ◌∙◌, subst}
use Rattle.bridge_run.specs.declared.course.serve_end.ServeEnd.{ServeEnd}
use Rattle.bridge_run.specs.course.Course.{AtDoor, AtEnd}
use Rattle.bridge_run.specs.course.Calls.{Goes, rest, course_of}
use Rattle.bridge_run.specs.course.Outside.{outside, gathering, faults}
use Rattle.bridge_run.specs.inner.Follows.{setting}
use Rattle.bridge_run.proofs.lemmas.course.Course.{cut-leaves, cut-next, err-faults, err-runs, is-err}
use Rattle.bridge_run.proofs.lemmas.written.Put.{tape-faults}
use Rattle.bridge_run.specs.inner.Idling.{RoundIdles}
use Rattle.bridge_run.proofs.lemmas.course.Idle.{cut-within, ends-idles, round-idles}
use Rattle.bridge_run.proofs.lemmas.course.Rest.{faults-then, no-faults, rests, rest-cut, rests-faults, wears-then, fewer-if_ok, goes-ok, goes-on}
use Rattle.bridge_run.specs.inner.Logging.{Logs}
use Rattle.bridge_run.specs.log.Log.{Told, Logged}
use Rattle.bridge_run.proofs.lemmas.log.Resting.{rested-logs, rest-fault}
use Rattle.bridge_run.proofs.course.session.Session.round.Goals as goal

pub returns-in_err-ask-clause-course : goal.returns-in_err-ask-clause-course
returns-in_err-ask-clause-course g c = λ first begun k f.
    let p = g.C.Served.sends first in
    let k0 = c.args.self.now.rounds in
    let a = c.in_ok-ask_door.ensures.course first begun k f in
    err-runs c.from_residual-in_err-ask.result c.in_err-ask.field-0.0 c.from_residual-in_err-ask.ensures.1 (g.C.Served.stands first c.ask.new.self.served) (g.C.Served.runs_out first) (setting p k0) c.ask.new.self.rounds (outside (g.D.Doors.link c.ask.new.doors) (g.D.Doors.door c.ask.new.doors)) (gathering begun (g.K.Sink.contents c.ask.new.out) (g.T.Tape.contents c.ask.new.tape) c.ask.new.self.waiting) (Goes AtDoor k) AtDoor
    (goes-on {T = Unit {0}} (Err c.in_err-ask.field-0.0) _ (g.C.Served.stands first c.ask.new.self.served) (g.C.Served.runs_out first) p k0 c.ask_door.new.self.rounds c.ask.new.self.rounds _ (outside (g.D.Doors.link c.ask.new.doors) (g.D.Doors.door c.ask.new.doors)) _ (gathering begun (g.K.Sink.contents c.ask.new.out) (g.T.Tape.contents c.ask.new.tape) c.ask.new.self.waiting) _ _ AtDoor a c.ask_door.ensures.wears.idle (c.in_err-ask.ensures.course first begun a.course a.follows))

pub returns-in_err-ask-2-clause-course : goal.returns-in_err-ask-2-clause-course
returns-in_err-ask-2-clause-course g c = λ first begun k f.
    let p = g.C.Served.sends first in
    let k0 = c.args.self.now.rounds in
    let a = c.in_ok-ask_door.ensures.course first begun k f in
    let b = goes-ok p k0 a c.ask_door.ensures.wears.idle (c.in_ok-ask.ensures.course first begun a.course a.follows) in
    err-runs c.from_residual-in_err-ask-2.result c.in_err-ask-2.field-0.0 c.from_residual-in_err-ask-2.ensures.1 (g.C.Served.stands first c.ask-2.new.self.served) (g.C.Served.runs_out first) (setting p k0) c.ask-2.new.self.rounds (outside (g.D.Doors.link c.ask-2.new.doors) (g.D.Doors.door c.ask-2.new.doors)) (gathering begun (g.K.Sink.contents c.ask-2.new.out) (g.T.Tape.contents c.ask-2.new.tape) c.ask-2.new.self.waiting) (Goes AtDoor k) AtDoor
    (goes-on {T = Unit {0}} (Err c.in_err-ask-2.field-0.0) _ (g.C.Served.stands first c.ask-2.new.self.served) (g.C.Served.runs_out first) p k0 c.ask.new.self.rounds c.ask-2.new.self.rounds _ (outside (g.D.Doors.link c.ask-2.new.doors) (g.D.Doors.door c.ask-2.new.doors)) _ (gathering begun (g.K.Sink.contents c.ask-2.new.out) (g.T.Tape.contents c.ask-2.new.tape) c.ask-2.new.self.waiting) _ _ AtDoor b (c.ask.ensures.wears.idle ∙ c.ask_door.ensures.wears.idle) (c.in_err-ask-2.ensures.course first begun b.course b.follows))

pub returns-in_err-write_waiting-clause-course : goal.returns-in_err-write_waiting-clause-course
returns-in_err-write_waiting-clause-course g c = λ first begun k f.
    let p = g.C.Served.sends first in
    let k0 = c.args.self.now.rounds in
    let a = c.in_ok-ask_door.ensures.course first begun k f in
    let b = goes-ok p k0 a c.ask_door.ensures.wears.idle (c.in_ok-ask.ensures.course first begun a.course a.follows) in
    let d = goes-ok p k0 b (c.ask.ensures.wears.idle ∙ c.ask_door.ensures.wears.idle) (c.in_ok-ask-2.ensures.course first begun b.course b.follows) in
    let s = setting p k0 in
    let from = Goes AtDoor k in
    let w = outside (g.D.Doors.link c.ask-2.new.doors) (g.D.Doors.door c.ask-2.new.doors) in
    let out = gathering begun (g.K.Sink.contents c.ask-2.new.out) (g.T.Tape.contents c.write_waiting.new.tape) c.write_waiting.new.waiting in
    err-runs c.from_residual-in_err-write_waiting.result c.in_err-write_waiting.field-0.0 c.from_residual-in_err-write_waiting.ensures.1 (g.C.Served.stands first c.ask-2.new.self.served) (g.C.Served.runs_out first) s c.ask-2.new.self.rounds w out from AtDoor
    (cut-leaves c.in_err-write_waiting.field-0.0 (g.C.Served.runs_out first) s from w out c.in_err-write_waiting.ensures.cut
    (cut-next s from AtEnd d.course (course_of (rest s d.course)) w out d.reaches refl (rest-cut s c.ask-2.new.self.rounds.busy w (gathering begun (g.K.Sink.contents c.ask-2.new.out) (g.T.Tape.contents c.ask-2.new.tape) c.ask-2.new.self.waiting) out d.course d.follows.busy d.follows.tells d.follows.tells.told c.in_err-write_waiting.ensures.err)))

pub returns-in_err-ask-clause-faults : goal.returns-in_err-ask-clause-faults
returns-in_err-ask-clause-faults g c =
    err-faults c.from_residual-in_err-ask.result c.in_err-ask.field-0.0 c.from_residual-in_err-ask.ensures.1 (outside (g.D.Doors.link c.args.doors.now) (g.D.Doors.door c.args.doors.now)) (outside (g.D.Doors.link c.ask.new.doors) (g.D.Doors.door c.ask.new.doors)) (faults (g.K.Sink.faults c.args.out.now) (g.T.Tape.counts c.args.tape.now)) (faults (g.K.Sink.faults c.ask.new.out) (g.T.Tape.counts c.ask.new.tape))
    (faults-then {T = Unit {0}} (Err c.in_err-ask.field-0.0) (outside (g.D.Doors.link c.args.doors.now) (g.D.Doors.door c.args.doors.now)) _ (outside (g.D.Doors.link c.ask.new.doors) (g.D.Doors.door c.ask.new.doors)) (faults (g.K.Sink.faults c.args.out.now) (g.T.Tape.counts c.args.tape.now)) _ (faults (g.K.Sink.faults c.ask.new.out) (g.T.Tape.counts c.ask.new.tape)) c.in_ok-ask_door.ensures.faults c.in_err-ask.ensures.faults)

pub returns-in_err-ask-2-clause-faults : goal.returns-in_err-ask-2-clause-faults
returns-in_err-ask-2-clause-faults g c =
    err-faults c.from_residual-in_err-ask-2.result c.in_err-ask-2.field-0.0 c.from_residual-in_err-ask-2.ensures.1 (outside (g.D.Doors.link c.args.doors.now) (g.D.Doors.door c.args.doors.now)) (outside (g.D.Doors.link c.ask-2.new.doors) (g.D.Doors.door c.ask-2.new.doors)) (faults (g.K.Sink.faults c.args.out.now) (g.T.Tape.counts c.args.tape.now)) (faults (g.K.Sink.faults c.ask-2.new.out) (g.T.Tape.counts c.ask-2.new.tape))
    (faults-then {T = Unit {0}} (Err c.in_err-ask-2.field-0.0) (outside (g.D.Doors.link c.args.doors.now) (g.D.Doors.door c.args.doors.now)) _ (outside (g.D.Doors.link c.ask-2.new.doors) (g.D.Doors.door c.ask-2.new.doors)) (faults (g.K.Sink.faults c.args.out.now) (g.T.Tape.counts c.args.tape.now)) _ (faults (g.K.Sink.faults c.ask-2.new.out) (g.T.Tape.counts c.ask-2.new.tape)) (no-faults c.in_ok-ask_door.ensures.faults c.in_ok-ask.ensures.faults) c.in_err-ask-2.ensures.faults)

pub returns-in_err-write_waiting-clause-faults : goal.returns-in_err-write_waiting-clause-faults
returns-in_err-write_waiting-clause-faults g c =
    let w = outside (g.D.Doors.link c.ask-2.new.doors) (g.D.Doors.door c.ask-2.new.doors) in
    err-faults c.from_residual-in_err-write_waiting.result c.in_err-write_waiting.field-0.0 c.from_residual-in_err-write_waiting.ensures.1 (outside (g.D.Doors.link c.args.doors.now) (g.D.Doors.door c.args.doors.now)) w (faults (g.K.Sink.faults c.args.out.now) (g.T.Tape.counts c.args.tape.now)) (faults (g.K.Sink.faults c.ask-2.new.out) (g.T.Tape.counts c.write_waiting.new.tape))
    (faults-then {T = Unit {0}} (Err c.in_err-write_waiting.field-0.0) (outside (g.D.Doors.link c.args.doors.now) (g.D.Doors.door c.args.doors.now)) w w (faults (g.K.Sink.faults c.args.out.now) (g.T.Tape.counts c.args.tape.now)) _ (faults (g.K.Sink.faults c.ask-2.new.out) (g.T.Tape.counts c.write_waiting.new.tape)) (no-faults (no-faults c.in_ok-ask_door.ensures.faults c.in_ok-ask.ensures.faults) c.in_ok-ask-2.ensures.faults)
    (tape-faults c.in_err-write_waiting.field-0.0 w (g.K.Sink.faults c.ask-2.new.out) (g.T.Tape.counts c.ask-2.new.tape) (g.T.Tape.counts c.write_waiting.new.tape) c.in_err-write_waiting.ensures.cause))

pub returns-in_err-write_waiting-clause-idles : goal.returns-in_err-write_waiting-clause-idles
returns-in_err-write_waiting-clause-idles g c = let e = c.in_err-write_waiting.field-0.0 in
    subst (λ (r : Result (Unit {0}) ServeEnd). RoundIdles r c.args.self.now.rounds c.ask-2.new.self.rounds (outside (g.D.Doors.link c.args.doors.now) (g.D.Doors.door c.args.doors.now)) (outside (g.D.Doors.link c.ask-2.new.doors) (g.D.Doors.door c.ask-2.new.doors))) (sym (is-err c.from_residual-in_err-write_waiting.result e c.from_residual-in_err-write_waiting.ensures.1))
    (ends-idles e c.args.self.now.rounds c.ask-2.new.self.rounds (outside (g.D.Doors.link c.args.doors.now) (g.D.Doors.door c.args.doors.now)) (outside (g.D.Doors.link c.ask-2.new.doors) (g.D.Doors.door c.ask-2.new.doors)) (cut-within e (outside (g.D.Doors.link c.ask-2.new.doors) (g.D.Doors.door c.ask-2.new.doors)) c.in_err-write_waiting.ensures.cut))

pub returns-in_err-write_waiting-clause-log : goal.returns-in_err-write_waiting-clause-log
returns-in_err-write_waiting-clause-log g c = λ first terms begun begun_out taped a.
    let gives = g.D.Doors.call_gives in
    let tells = Told g.K.Sink.write_gives begun_out c.ask-2.new.out in
    let p = g.C.Served.sends first in
    let stands = g.C.Served.stands first c.ask-2.new.self.served in
    let k = c.ask-2.new.self.rounds in
    let asked = c.in_ok-ask-2.ensures.log first terms begun begun_out (taped ∙ sym c.ask_door.ensures.made ∙ sym c.ask.ensures.made) (c.in_ok-ask.ensures.log first terms begun begun_out (taped ∙ sym c.ask_door.ensures.made) (c.in_ok-ask_door.ensures.log first terms begun begun_out taped a)) in
    let runs_out = g.C.Served.runs_out first in
    subst (λ (r : Result (Unit {0}) ServeEnd). Logs r AtDoor gives stands runs_out tells terms p k begun c.ask-2.new.doors) (sym (is-err c.from_residual-in_err-write_waiting.result c.in_err-write_waiting.field-0.0 c.from_residual-in_err-write_waiting.ensures.1))
    (subst (λ (x : ServeEnd). Logged x gives runs_out tells terms p begun c.ask-2.new.doors) (sym c.in_err-write_waiting.ensures.fault) (rest-fault gives stands runs_out tells terms p k begun c.ask-2.new.doors asked c.in_err-write_waiting.ensures.wanted.0 (taped ∙ sym c.ask_door.ensures.made ∙ sym c.ask.ensures.made ∙ sym c.ask-2.ensures.made ∙ c.in_err-write_waiting.ensures.wanted.1)))

pub returns-clause-course : goal.returns-clause-course
returns-clause-course g c = λ first begun k f.
    let p = g.C.Served.sends first in
    let k0 = c.args.self.now.rounds in
    let a = c.in_ok-ask_door.ensures.course first begun k f in
    let b = goes-ok p k0 a c.ask_door.ensures.wears.idle (c.in_ok-ask.ensures.course first begun a.course a.follows) in
    let d = goes-ok p k0 b (c.ask.ensures.wears.idle ∙ c.ask_door.ensures.wears.idle) (c.in_ok-ask-2.ensures.course first begun b.course b.follows) in
    rests c.rest.result (g.C.Served.stands first c.ask-2.new.self.served) (g.C.Served.runs_out first) p k0.idle c.ask-2.new.self.rounds c.rest.new.self (outside (g.D.Doors.link c.ask-2.new.doors) (g.D.Doors.door c.ask-2.new.doors)) (gathering begun (g.K.Sink.contents c.ask-2.new.out) (g.T.Tape.contents c.ask-2.new.tape) c.ask-2.new.self.waiting) (gathering begun (g.K.Sink.contents c.ask-2.new.out) (g.T.Tape.contents c.write_waiting.new.tape) c.write_waiting.new.waiting) (Goes AtDoor k) d.course c.rest.ensures
    (c.ask-2.ensures.wears.idle ∙ c.ask.ensures.wears.idle ∙ c.ask_door.ensures.wears.idle) d.follows (record { told = λ bytes is. is; tape = c.in_ok-write_waiting.ensures.ok; waits = c.in_ok-write_waiting.ensures.waits }) d.reaches

pub returns-clause-faults : goal.returns-clause-faults
returns-clause-faults g c =
    rests-faults c.rest.result c.ask-2.new.self.rounds c.rest.new.self (outside (g.D.Doors.link c.args.doors.now) (g.D.Doors.door c.args.doors.now)) (outside (g.D.Doors.link c.ask-2.new.doors) (g.D.Doors.door c.ask-2.new.doors)) (faults (g.K.Sink.faults c.args.out.now) (g.T.Tape.counts c.args.tape.now)) (faults (g.K.Sink.faults c.ask-2.new.out) (g.T.Tape.counts c.write_waiting.new.tape)) c.rest.ensures
    (no-faults (no-faults (no-faults c.in_ok-ask_door.ensures.faults c.in_ok-ask.ensures.faults) c.in_ok-ask-2.ensures.faults) (record { client = refl; host = refl; sink = ap (faults (g.K.Sink.faults c.ask-2.new.out)) c.in_ok-write_waiting.ensures.cause }))

pub returns-clause-fewer : goal.returns-clause-fewer
returns-clause-fewer g c = fewer-if_ok c.rest.result c.args.self.now.rounds c.ask-2.new.self.rounds c.rest.new.self
    (wears-then c.args.self.now.rounds c.ask_door.new.self.rounds c.ask-2.new.self.rounds c.ask_door.ensures.wears (wears-then c.ask_door.new.self.rounds c.ask.new.self.rounds c.ask-2.new.self.rounds c.ask.ensures.wears c.ask-2.ensures.wears))
    c.requires.live c.rest.ensures

pub returns-in_err-ask_door-clause-idles : goal.returns-in_err-ask_door-clause-idles
returns-in_err-ask_door-clause-idles g c = let e = c.in_err-ask_door.field-0.0 in
    subst (λ (r : Result (Unit {0}) ServeEnd). RoundIdles r c.args.self.now.rounds c.ask_door.new.self.rounds (outside (g.D.Doors.link c.args.doors.now) (g.D.Doors.door c.args.doors.now)) (outside (g.D.Doors.link c.ask_door.new.doors) (g.D.Doors.door c.ask_door.new.doors))) (sym (is-err c.from_residual.result e c.from_residual.ensures.1))
    (ends-idles e c.args.self.now.rounds c.ask_door.new.self.rounds (outside (g.D.Doors.link c.args.doors.now) (g.D.Doors.door c.args.doors.now)) (outside (g.D.Doors.link c.ask_door.new.doors) (g.D.Doors.door c.ask_door.new.doors)) c.in_err-ask_door.ensures.within)

pub returns-in_err-ask-clause-idles : goal.returns-in_err-ask-clause-idles
returns-in_err-ask-clause-idles g c = let e = c.in_err-ask.field-0.0 in
    subst (λ (r : Result (Unit {0}) ServeEnd). RoundIdles r c.args.self.now.rounds c.ask.new.self.rounds (outside (g.D.Doors.link c.args.doors.now) (g.D.Doors.door c.args.doors.now)) (outside (g.D.Doors.link c.ask.new.doors) (g.D.Doors.door c.ask.new.doors))) (sym (is-err c.from_residual-in_err-ask.result e c.from_residual-in_err-ask.ensures.1))
    (ends-idles e c.args.self.now.rounds c.ask.new.self.rounds (outside (g.D.Doors.link c.args.doors.now) (g.D.Doors.door c.args.doors.now)) (outside (g.D.Doors.link c.ask.new.doors) (g.D.Doors.door c.ask.new.doors)) c.in_err-ask.ensures.within)

pub returns-in_err-ask-2-clause-idles : goal.returns-in_err-ask-2-clause-idles
returns-in_err-ask-2-clause-idles g c = let e = c.in_err-ask-2.field-0.0 in
    subst (λ (r : Result (Unit {0}) ServeEnd). RoundIdles r c.args.self.now.rounds c.ask-2.new.self.rounds (outside (g.D.Doors.link c.args.doors.now) (g.D.Doors.door c.args.doors.now)) (outside (g.D.Doors.link c.ask-2.new.doors) (g.D.Doors.door c.ask-2.new.doors))) (sym (is-err c.from_residual-in_err-ask-2.result e c.from_residual-in_err-ask-2.ensures.1))
    (ends-idles e c.args.self.now.rounds c.ask-2.new.self.rounds (outside (g.D.Doors.link c.args.doors.now) (g.D.Doors.door c.args.doors.now)) (outside (g.D.Doors.link c.ask-2.new.doors) (g.D.Doors.door c.ask-2.new.doors)) c.in_err-ask-2.ensures.within)

pub returns-clause-idles : goal.returns-clause-idles
returns-clause-idles g c = round-idles c.rest.result c.args.self.now.rounds c.ask_door.new.self.rounds c.ask.new.self.rounds c.ask-2.new.self.rounds c.rest.new.self (outside (g.D.Doors.link c.args.doors.now) (g.D.Doors.door c.args.doors.now)) (outside (g.D.Doors.link c.ask_door.new.doors) (g.D.Doors.door c.ask_door.new.doors)) (outside (g.D.Doors.link c.ask.new.doors) (g.D.Doors.door c.ask.new.doors)) (outside (g.D.Doors.link c.ask-2.new.doors) (g.D.Doors.door c.ask-2.new.doors)) c.requires.live
    (record {
      door = c.in_ok-ask_door.ensures.idles;
      door_host = c.in_ok-ask_door.ensures.other;
      client = c.in_ok-ask.ensures.idles;
      client_host = c.in_ok-ask.ensures.other;
      host = c.in_ok-ask-2.ensures.idles;
      host_client = c.in_ok-ask-2.ensures.other;
      wears1 = c.ask_door.ensures.wears;
      wears2 = c.ask.ensures.wears;
      wears3 = c.ask-2.ensures.wears;
      before = c.requires.agrees;
      behind = c.in_ok-ask-2.ensures.agrees;
    }) c.rest.ensures

pub returns-in_err-ask_door-clause-log : goal.returns-in_err-ask_door-clause-log
returns-in_err-ask_door-clause-log g c = λ first terms begun begun_out taped a.
    subst (λ (r : Result (Unit {0}) ServeEnd). Logs r AtDoor g.D.Doors.call_gives (g.C.Served.stands first c.ask_door.new.self.served) (g.C.Served.runs_out first) (Told g.K.Sink.write_gives begun_out c.ask_door.new.out) terms (g.C.Served.sends first) c.ask_door.new.self.rounds begun c.ask_door.new.doors) (sym (is-err c.from_residual.result c.in_err-ask_door.field-0.0 c.from_residual.ensures.1))
    (c.in_err-ask_door.ensures.log first terms begun begun_out taped a)

pub returns-in_err-ask-clause-log : goal.returns-in_err-ask-clause-log
returns-in_err-ask-clause-log g c = λ first terms begun begun_out taped a.
    subst (λ (r : Result (Unit {0}) ServeEnd). Logs r AtDoor g.D.Doors.call_gives (g.C.Served.stands first c.ask.new.self.served) (g.C.Served.runs_out first) (Told g.K.Sink.write_gives begun_out c.ask.new.out) terms (g.C.Served.sends first) c.ask.new.self.rounds begun c.ask.new.doors) (sym (is-err c.from_residual-in_err-ask.result c.in_err-ask.field-0.0 c.from_residual-in_err-ask.ensures.1))
    (c.in_err-ask.ensures.log first terms begun begun_out (taped ∙ sym c.ask_door.ensures.made) (c.in_ok-ask_door.ensures.log first terms begun begun_out taped a))

pub returns-in_err-ask-2-clause-log : goal.returns-in_err-ask-2-clause-log
returns-in_err-ask-2-clause-log g c = λ first terms begun begun_out taped a.
    subst (λ (r : Result (Unit {0}) ServeEnd). Logs r AtDoor g.D.Doors.call_gives (g.C.Served.stands first c.ask-2.new.self.served) (g.C.Served.runs_out first) (Told g.K.Sink.write_gives begun_out c.ask-2.new.out) terms (g.C.Served.sends first) c.ask-2.new.self.rounds begun c.ask-2.new.doors) (sym (is-err c.from_residual-in_err-ask-2.result c.in_err-ask-2.field-0.0 c.from_residual-in_err-ask-2.ensures.1))
    (c.in_err-ask-2.ensures.log first terms begun begun_out (taped ∙ sym c.ask_door.ensures.made ∙ sym c.ask.ensures.made) (c.in_ok-ask.ensures.log first terms begun begun_out (taped ∙ sym c.ask_door.ensures.made) (c.in_ok-ask_door.ensures.log first terms begun begun_out taped a)))

pub returns-clause-log : goal.returns-clause-log
returns-clause-log g c = λ first terms begun begun_out taped a.
    rested-logs c.rest.result g.D.Doors.call_gives (g.C.Served.stands first c.ask-2.new.self.served) (g.C.Served.runs_out first) (Told g.K.Sink.write_gives begun_out c.ask-2.new.out) terms (g.C.Served.sends first) c.ask-2.new.self.rounds c.rest.new.self begun c.ask-2.new.doors c.rest.ensures
    (c.in_ok-ask-2.ensures.log first terms begun begun_out (taped ∙ sym c.ask_door.ensures.made ∙ sym c.ask.ensures.made) (c.in_ok-ask.ensures.log first terms begun begun_out (taped ∙ sym c.ask_door.ensures.made) (c.in_ok-ask_door.ensures.log first terms begun begun_out taped a)))
