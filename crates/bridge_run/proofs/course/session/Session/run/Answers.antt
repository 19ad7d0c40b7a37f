use Rattle.std.proofs.Common.{Ok, Err, refl, sym, ◌∙◌, arith}
use Rattle.bridge_run.specs.course.Course.{AtDoor}
use Rattle.bridge_run.specs.course.Calls.{Goes}
use Rattle.bridge_run.specs.course.Outside.{outside, gathering, faults}
use Rattle.bridge_run.specs.inner.Follows.{setting}
use Rattle.bridge_run.proofs.lemmas.course.Course.{reaches-none}
use Rattle.bridge_run.proofs.lemmas.course.Rest.{faults-then, no-fault, goes-on}
use Rattle.bridge_run.proofs.lemmas.written.Gather.{leaves-written}
use Rattle.bridge_run.proofs.lemmas.course.Idle.{waited-none, waited-more, reason}
use Rattle.bridge_run.proofs.course.session.Session.run.Goals as goal

pub returns-in-Err-clause-course : goal.returns-in-Err-clause-course
returns-in-Err-clause-course g c = λ first begun k f.
    let a = c.rounds.invariant.comes first begun k f in
    leaves-written c.in-Err.end (g.C.Served.runs_out first) (setting (g.C.Served.sends first) c.args.self.now.rounds) AtDoor k (outside (g.D.Doors.link c.round.new.doors) (g.D.Doors.door c.round.new.doors)) begun (g.K.Sink.contents c.round.new.out) (g.T.Tape.contents c.round.new.tape) c.round.new.self.waiting
    (goes-on {T = Unit {0}} (Err c.in-Err.end) (g.C.Served.stands first c.rounds.self.served) (g.C.Served.stands first c.round.new.self.served) (g.C.Served.runs_out first) (g.C.Served.sends first) c.args.self.now.rounds c.rounds.self.rounds c.round.new.self.rounds (outside (g.D.Doors.link c.rounds.doors) (g.D.Doors.door c.rounds.doors)) (outside (g.D.Doors.link c.round.new.doors) (g.D.Doors.door c.round.new.doors))
    (gathering begun (g.K.Sink.contents c.rounds.out) (g.T.Tape.contents c.rounds.tape) c.rounds.self.waiting) (gathering begun (g.K.Sink.contents c.round.new.out) (g.T.Tape.contents c.round.new.tape) c.round.new.self.waiting) (Goes AtDoor k) AtDoor AtDoor a c.rounds.invariant.idle (c.in-Err.ensures.course first begun a.course a.follows))

pub rounds-preserved : goal.rounds-preserved
rounds-preserved g c = record {
  agrees = c.in_default.ensures.agrees;
  live = c.in_default.ensures.live;
  room = omega (arith, c.round.auto.buf, c.rounds.invariant.room);
  idle = c.in_default.ensures.idle ∙ c.rounds.invariant.idle;
  waited = waited-more c.args.self.now.rounds.idle c.rounds.self.rounds c.round.new.self.rounds (outside (g.D.Doors.link c.args.doors.now) (g.D.Doors.door c.args.doors.now)) (outside (g.D.Doors.link c.rounds.doors) (g.D.Doors.door c.rounds.doors)) (outside (g.D.Doors.link c.round.new.doors) (g.D.Doors.door c.round.new.doors)) c.rounds.invariant.idle c.rounds.invariant.live c.rounds.invariant.waited c.in_default.ensures.idles;
  faults = faults-then {T = Unit {0}} (Ok tt) (outside (g.D.Doors.link c.args.doors.now) (g.D.Doors.door c.args.doors.now)) (outside (g.D.Doors.link c.rounds.doors) (g.D.Doors.door c.rounds.doors)) (outside (g.D.Doors.link c.round.new.doors) (g.D.Doors.door c.round.new.doors)) (faults (g.K.Sink.faults c.args.out.now) (g.T.Tape.counts c.args.tape.now)) (faults (g.K.Sink.faults c.rounds.out) (g.T.Tape.counts c.rounds.tape)) (faults (g.K.Sink.faults c.round.new.out) (g.T.Tape.counts c.round.new.tape)) c.rounds.invariant.faults c.in_default.ensures.faults;
  comes = λ first begun k f.
      let a = c.rounds.invariant.comes first begun k f in
      goes-on {T = Unit {0}} (Ok tt) (g.C.Served.stands first c.rounds.self.served) (g.C.Served.stands first c.round.new.self.served) (g.C.Served.runs_out first) (g.C.Served.sends first) c.args.self.now.rounds c.rounds.self.rounds c.round.new.self.rounds (outside (g.D.Doors.link c.rounds.doors) (g.D.Doors.door c.rounds.doors)) (outside (g.D.Doors.link c.round.new.doors) (g.D.Doors.door c.round.new.doors))
      (gathering begun (g.K.Sink.contents c.rounds.out) (g.T.Tape.contents c.rounds.tape) c.rounds.self.waiting) (gathering begun (g.K.Sink.contents c.round.new.out) (g.T.Tape.contents c.round.new.tape) c.round.new.self.waiting) (Goes AtDoor k) AtDoor AtDoor a c.rounds.invariant.idle (c.in_default.ensures.course first begun a.course a.follows);
  log = λ first terms begun begun_out taped a. c.in_default.ensures.log first terms begun begun_out (taped ∙ sym c.rounds.invariant.made) (c.rounds.invariant.log first terms begun begun_out taped a);
  made = c.round.ensures.made ∙ c.rounds.invariant.made;
}

pub returns-in-Err-clause-reason : goal.returns-in-Err-clause-reason
returns-in-Err-clause-reason g c = reason c.in-Err.end c.args.self.now.rounds.idle c.rounds.self.rounds c.round.new.self.rounds (outside (g.D.Doors.link c.args.doors.now) (g.D.Doors.door c.args.doors.now)) (outside (g.D.Doors.link c.rounds.doors) (g.D.Doors.door c.rounds.doors)) (outside (g.D.Doors.link c.round.new.doors) (g.D.Doors.door c.round.new.doors)) c.rounds.invariant.idle c.rounds.invariant.live c.rounds.invariant.waited c.in-Err.ensures.idles

pub rounds-init : goal.rounds-init
rounds-init g c = record {
  agrees = c.requires.agrees;
  live = c.requires.live;
  room = c.requires.room;
  idle = refl;
  waited = waited-none c.args.self.now.rounds.idle c.args.self.now.rounds (outside (g.D.Doors.link c.args.doors.now) (g.D.Doors.door c.args.doors.now)) c.requires.fresh;
  faults = no-fault (outside (g.D.Doors.link c.args.doors.now) (g.D.Doors.door c.args.doors.now)) (faults (g.K.Sink.faults c.args.out.now) (g.T.Tape.counts c.args.tape.now));
  comes = λ first begun k f. record { course = k; reaches = reaches-none (setting (g.C.Served.sends first) c.args.self.now.rounds) (Goes AtDoor k); follows = f };
  log = λ first terms begun begun_out taped a. a;
  made = refl;
}

pub returns-in-Err-clause-log : goal.returns-in-Err-clause-log
returns-in-Err-clause-log g c = λ first terms begun begun_out taped a. c.in-Err.ensures.log first terms begun begun_out (taped ∙ sym c.rounds.invariant.made) (c.rounds.invariant.log first terms begun begun_out taped a)
