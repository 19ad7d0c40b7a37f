use Rattle.std.proofs.Common.{[], ◌-◌, true, ◌∷◌, refl, length, take, sym, ◌∙◌, ap, subst}
use Rattle.gate_outside.specs.declared.turn.Polled.TheVariants.{Took, NotYet, Ended}
use Rattle.gate_outside.specs.Link.{Link}
use Rattle.bridge_run.specs.events.Events.{SidePiece, SideEnd}
use Rattle.bridge_run.specs.course.Course.{Takes}
use Rattle.bridge_run.specs.course.Calls.{Goes, down, quiet}
use Rattle.bridge_run.specs.course.Calls.{turned as passed}
use Rattle.bridge_run.specs.course.Outside.{outside, gathering, faults}
use Rattle.bridge_run.specs.declared.events.coming.Coming.TheVariants.{Taken}
use Rattle.bridge_run.specs.declared.events.sent.Sent.{Sent}
use Rattle.bridge_run.specs.inner.Coming.{StandsAt}
use Rattle.bridge_run.specs.served.Taking.{IsTaken}
use Rattle.bridge_run.specs.inner.Follows.{IsServing, setting, polls, behind}
use Rattle.bridge_run.specs.inner.Logging.{IsAsking}
use Rattle.gate_outside.specs.Turns.{taken}
use Rattle.bridge_run.proofs.lemmas.course.Course.{reaches-none}
use Rattle.bridge_run.proofs.lemmas.course.Answers.{passed-follows, took-follows, ended-follows, failed-cut, up-is}
use Rattle.bridge_run.proofs.lemmas.course.Asked.{polled-faults, polled-runs}
use Rattle.bridge_run.proofs.lemmas.course.Rest.{wears-then, end-wears}
use Rattle.bridge_run.proofs.lemmas.course.Taken.{cleared, serving-with}
use Rattle.bridge_run.proofs.lemmas.log.Taken.{taking-with}
use Rattle.bridge_run.specs.declared.course.rounds.Rounds.{Rounds}
use Rattle.bridge_run.specs.log.Asks.{OfSide}
use Rattle.bridge_run.specs.log.Log.{Told}
use Rattle.bridge_run.proofs.lemmas.log.Rounds.{gone-asking, took-taking, rest-resting, end-taking, poll-failed, came-logs, quiet-logs, down-idle, down-waits}
use Rattle.bridge_run.proofs.course.session.Session.ask.Goals as goal

pub returns-in-None-clause-course : goal.returns-in-None-clause-course
returns-in-None-clause-course g c = λ first begun k serving.
    let brings = c.poll-came.ensures.2 in
    let polled = rw (c.in-Took.is, sym (brings.put c.in-None.is)) at c.poll-came.ensures.1 in
    let same = brings.still c.in-None.is in
    let f = subst (λ (served : g.row.C.Denot). IsServing (g.C.Served.stands first served) (g.C.Served.sends first) c.args.self.now.rounds (outside (g.D.Doors.link c.args.doors.now) (g.D.Doors.door c.args.doors.now)) (gathering begun (g.K.Sink.contents c.args.out.now) (g.T.Tape.contents c.args.tape.now) c.args.self.now.waiting) k) (sym same) serving in
    let side = c.args.side in
    let n = c.in-Took.n in
    let passed_on = passed-follows side (g.C.Served.stands first c.poll-came.new.served) (g.C.Served.sends first) c.args.self.now.rounds (g.D.Doors.link c.args.doors.now) (g.D.Doors.link c.poll-came.new.doors) (g.D.Doors.door c.args.doors.now) (g.D.Doors.door c.poll-came.new.doors) (gathering begun (g.K.Sink.contents c.args.out.now) (g.T.Tape.contents c.args.tape.now) c.args.self.now.waiting) k (length c.poll-came.new.buf) f polled.long (record { other-is = polled.other-is; door-is = polled.door-is })
    (ap (λ (l : Link). l.up) polled.turns.1) (ap (λ (l : Link). l.turns) polled.turns.1) (ap (λ (l : Link). l.written) polled.turns.1) in
    let d = record (passed side k) { busy = true; left = (passed side k).left - n } in
    polled-runs c.happen-in-None.result (g.C.Served.stands first c.poll-came.new.served) (g.C.Served.stands first c.happen-in-None.new.self.served) (g.C.Served.runs_out first) (g.C.Served.sends first) side c.args.self.now.rounds c.take.new.self c.happen-in-None.new.self.rounds (g.D.Doors.link c.args.doors.now) (g.D.Doors.door c.args.doors.now)
    (outside (g.D.Doors.link c.happen-in-None.new.doors) (g.D.Doors.door c.happen-in-None.new.doors)) (gathering begun (g.K.Sink.contents c.args.out.now) (g.T.Tape.contents c.args.tape.now) c.args.self.now.waiting) (gathering begun (g.K.Sink.contents c.happen-in-None.new.out) (g.T.Tape.contents c.happen-in-None.new.tape) c.happen-in-None.new.self.waiting) k d (Took n) c.poll-came.new.buf (Takes (SidePiece side (take n c.poll-came.new.buf)) (behind side)) f (sym c.is_up.ensures ∙ c.if-not-is_up.false) polled.long polled.turns.0 refl (ap (λ (q : Rounds). q.idle) c.take.ensures)
    (c.happen-in-None.ensures.course first [] begun (behind side) d (took-follows (g.C.Served.stands first c.poll-came.new.served) (g.C.Served.sends first) c.args.self.now.rounds c.take.new.self (outside (g.D.Doors.link c.poll-came.new.doors) (g.D.Doors.door c.poll-came.new.doors)) (gathering begun (g.K.Sink.contents c.args.out.now) (g.T.Tape.contents c.args.tape.now) c.args.self.now.waiting) (passed side k) n passed_on c.take.ensures))

pub returns-in-NotYet-clause-course : goal.returns-in-NotYet-clause-course
returns-in-NotYet-clause-course g c = λ first begun k serving.
    let polled = rw c.in-NotYet.is at c.poll-came.ensures.1 in
    let same = c.poll-came.ensures.2.nothing (ap taken c.in-NotYet.is) in
    let f = subst (λ (served : g.row.C.Denot). IsServing (g.C.Served.stands first served) (g.C.Served.sends first) c.args.self.now.rounds (outside (g.D.Doors.link c.args.doors.now) (g.D.Doors.door c.args.doors.now)) (gathering begun (g.K.Sink.contents c.args.out.now) (g.T.Tape.contents c.args.tape.now) c.args.self.now.waiting) k) (sym same) serving in
    let side = c.args.side in
    polled-runs c.be_quiet.result (g.C.Served.stands first c.poll-came.new.served) (g.C.Served.stands first c.be_quiet.new.self.served) (g.C.Served.runs_out first) (g.C.Served.sends first) side c.args.self.now.rounds c.args.self.now.rounds c.be_quiet.new.self.rounds (g.D.Doors.link c.args.doors.now) (g.D.Doors.door c.args.doors.now)
    (outside (g.D.Doors.link c.be_quiet.new.doors) (g.D.Doors.door c.be_quiet.new.doors)) (gathering begun (g.K.Sink.contents c.args.out.now) (g.T.Tape.contents c.args.tape.now) c.args.self.now.waiting) (gathering begun (g.K.Sink.contents c.be_quiet.new.out) (g.T.Tape.contents c.be_quiet.new.tape) c.be_quiet.new.self.waiting) k (passed side k) NotYet c.poll-came.ensures.0 (quiet side (behind side)) f (sym c.is_up.ensures ∙ c.if-not-is_up.false) polled.long polled.turns.0 refl refl
    (c.be_quiet.ensures.course first begun (behind side) (passed side k) (passed-follows side (g.C.Served.stands first c.poll-came.new.served) (g.C.Served.sends first) c.args.self.now.rounds (g.D.Doors.link c.args.doors.now) (g.D.Doors.link c.poll-came.new.doors) (g.D.Doors.door c.args.doors.now) (g.D.Doors.door c.poll-came.new.doors) (gathering begun (g.K.Sink.contents c.args.out.now) (g.T.Tape.contents c.args.tape.now) c.args.self.now.waiting) k (length c.poll-came.ensures.0) f polled.long (record { other-is = polled.other-is; door-is = polled.door-is })
    (ap (λ (l : Link). l.up) polled.turns.1) (ap (λ (l : Link). l.turns) polled.turns.1) (ap (λ (l : Link). l.written) polled.turns.1)))

pub returns-in-Ended-clause-course : goal.returns-in-Ended-clause-course
returns-in-Ended-clause-course g c = λ first begun k serving.
    let polled = rw c.in-Ended.is at c.poll-came.ensures.1 in
    let same = c.poll-came.ensures.2.nothing (ap taken c.in-Ended.is) in
    let f = subst (λ (served : g.row.C.Denot). IsServing (g.C.Served.stands first served) (g.C.Served.sends first) c.args.self.now.rounds (outside (g.D.Doors.link c.args.doors.now) (g.D.Doors.door c.args.doors.now)) (gathering begun (g.K.Sink.contents c.args.out.now) (g.T.Tape.contents c.args.tape.now) c.args.self.now.waiting) k) (sym same) serving in
    let side = c.args.side in
    let d = record (down side (passed side k)) { busy = true } in
    polled-runs c.happen-in-Ended.result (g.C.Served.stands first c.poll-came.new.served) (g.C.Served.stands first c.happen-in-Ended.new.self.served) (g.C.Served.runs_out first) (g.C.Served.sends first) side c.args.self.now.rounds c.end.new.self c.happen-in-Ended.new.self.rounds (g.D.Doors.link c.args.doors.now) (g.D.Doors.door c.args.doors.now)
    (outside (g.D.Doors.link c.happen-in-Ended.new.doors) (g.D.Doors.door c.happen-in-Ended.new.doors)) (gathering begun (g.K.Sink.contents c.args.out.now) (g.T.Tape.contents c.args.tape.now) c.args.self.now.waiting) (gathering begun (g.K.Sink.contents c.happen-in-Ended.new.out) (g.T.Tape.contents c.happen-in-Ended.new.tape) c.happen-in-Ended.new.self.waiting) k d Ended c.poll-came.ensures.0 (Takes (SideEnd side) (behind side)) f (sym c.is_up.ensures ∙ c.if-not-is_up.false) polled.long polled.turns.0 refl (down-idle side c.args.self.now.rounds c.end.new.self c.end.ensures)
    (c.happen-in-Ended.ensures.course first [] begun (behind side) d (ended-follows side (g.C.Served.stands first c.poll-came.new.served) (g.C.Served.sends first) c.args.self.now.rounds c.end.new.self (g.D.Doors.link c.args.doors.now) (g.D.Doors.link c.poll-came.new.doors) (g.D.Doors.door c.args.doors.now) (g.D.Doors.door c.poll-came.new.doors) (gathering begun (g.K.Sink.contents c.args.out.now) (g.T.Tape.contents c.args.tape.now) c.args.self.now.waiting) k (length c.poll-came.ensures.0) f polled.long (record { other-is = polled.other-is; door-is = polled.door-is })
    (ap (λ (l : Link). l.up) polled.turns.1) (ap (λ (l : Link). l.turns) polled.turns.1) (ap (λ (l : Link). l.written) polled.turns.1) c.end.ensures))

pub returns-in-Failed-clause-course : goal.returns-in-Failed-clause-course
returns-in-Failed-clause-course g c = λ first begun k f.
    let polled = rw c.in-Failed.is at c.poll-came.ensures.1 in
    let side = c.args.side in
    let s = setting (g.C.Served.sends first) c.args.self.now.rounds in
    let up = up-is side (g.C.Served.stands first c.args.self.now.served) s.served c.args.self.now.rounds (outside (g.D.Doors.link c.args.doors.now) (g.D.Doors.door c.args.doors.now)) (gathering begun (g.K.Sink.contents c.args.out.now) (g.T.Tape.contents c.args.tape.now) c.args.self.now.waiting) k true f (sym c.is_up.ensures ∙ c.if-not-is_up.false) in
    record {
      next = polls side;
      course = k;
      reaches = reaches-none s (Goes (polls side) k);
      cut = failed-cut side s (g.D.Doors.link c.args.doors.now) (g.D.Doors.link c.poll-came.new.doors) (g.D.Doors.door c.args.doors.now) (g.D.Doors.door c.poll-came.new.doors) (gathering begun (g.K.Sink.contents c.args.out.now) (g.T.Tape.contents c.args.tape.now) c.args.self.now.waiting) k f.tells up (record { other-is = polled.other-is; door-is = polled.door-is }) polled.turns;
    }

pub returns-in-None-clause-faults : goal.returns-in-None-clause-faults
returns-in-None-clause-faults g c =
    let brings = c.poll-came.ensures.2 in
    let polled = rw (c.in-Took.is, sym (brings.put c.in-None.is)) at c.poll-came.ensures.1 in
    polled-faults c.happen-in-None.result c.args.side (g.D.Doors.link c.args.doors.now) (g.D.Doors.link c.poll-came.new.doors) (g.D.Doors.door c.args.doors.now) (g.D.Doors.door c.poll-came.new.doors) (outside (g.D.Doors.link c.happen-in-None.new.doors) (g.D.Doors.door c.happen-in-None.new.doors)) (faults (g.K.Sink.faults c.args.out.now) (g.T.Tape.counts c.args.tape.now)) (faults (g.K.Sink.faults c.happen-in-None.new.out) (g.T.Tape.counts c.happen-in-None.new.tape))
    (record { other-is = polled.other-is; door-is = polled.door-is }) (ap (λ (l : Link). l.faults) polled.turns.1) c.happen-in-None.ensures.faults

pub returns-in-Ended-clause-faults : goal.returns-in-Ended-clause-faults
returns-in-Ended-clause-faults g c =
    let polled = rw c.in-Ended.is at c.poll-came.ensures.1 in
    polled-faults c.happen-in-Ended.result c.args.side (g.D.Doors.link c.args.doors.now) (g.D.Doors.link c.poll-came.new.doors) (g.D.Doors.door c.args.doors.now) (g.D.Doors.door c.poll-came.new.doors) (outside (g.D.Doors.link c.happen-in-Ended.new.doors) (g.D.Doors.door c.happen-in-Ended.new.doors)) (faults (g.K.Sink.faults c.args.out.now) (g.T.Tape.counts c.args.tape.now)) (faults (g.K.Sink.faults c.happen-in-Ended.new.out) (g.T.Tape.counts c.happen-in-Ended.new.tape))
    (record { other-is = polled.other-is; door-is = polled.door-is }) (ap (λ (l : Link). l.faults) polled.turns.1) c.happen-in-Ended.ensures.faults

pub returns-in-Ended-clause-wears : goal.returns-in-Ended-clause-wears
returns-in-Ended-clause-wears g c =
    wears-then c.args.self.now.rounds c.end.new.self c.happen-in-Ended.new.self.rounds (end-wears c.args.side c.args.self.now.rounds c.end.new.self (sym c.is_up.ensures ∙ c.if-not-is_up.false) c.end.ensures) c.happen-in-Ended.ensures.wears

pub returns-then-not-is_up-clause-log : goal.returns-then-not-is_up-clause-log
returns-then-not-is_up-clause-log g c = λ first terms begun begun_out taped a.
    gone-asking c.args.side g.D.Doors.call_gives (g.C.Served.stands first c.args.self.now.served) (Told g.K.Sink.write_gives begun_out c.args.out.now) terms (g.C.Served.sends first) c.args.self.now.rounds begun c.args.doors.now (sym c.is_up.ensures ∙ c.if-not-is_up.true) a

pub returns-in-None-clause-log : goal.returns-in-None-clause-log
returns-in-None-clause-log g c = λ first terms begun begun_out taped asking.
    let brings = c.poll-came.ensures.2 in
    let polled = rw (c.in-Took.is, sym (brings.put c.in-None.is)) at c.poll-came.ensures.1 in
    let same = brings.still c.in-None.is in
    let a = subst (λ (served : g.row.C.Denot). IsAsking (polls c.args.side) g.D.Doors.call_gives (g.C.Served.stands first served) (Told g.K.Sink.write_gives begun_out c.args.out.now) terms (g.C.Served.sends first) c.args.self.now.rounds begun c.args.doors.now) (sym same) asking in
    let gives = g.D.Doors.call_gives in
    let p = g.C.Served.sends first in
    let stands = g.C.Served.stands first c.poll-came.new.served in
    let tells = Told g.K.Sink.write_gives begun_out c.args.out.now in
    let k = c.args.self.now.rounds in
    let took = Took c.in-Took.n in
    let asks = OfSide c.args.side took ∷ a.asks in
    let h = c.happen-in-None.ensures.log first [] terms asks begun begun_out taped
    (took-taking gives stands tells terms p c.args.side c.in-Took.n c.poll-came.new.buf k c.take.new.self begun c.args.doors.now c.poll-came.new.doors a (sym c.is_up.ensures ∙ c.if-not-is_up.false) polled.given c.take.ensures) in
    came-logs c.happen-in-None.result gives (g.C.Served.stands first c.happen-in-None.new.self.served) (g.C.Served.runs_out first) (Told g.K.Sink.write_gives begun_out c.happen-in-None.new.out) terms p c.args.side took a.asks k c.take.new.self c.happen-in-None.new.self.rounds begun c.happen-in-None.new.doors h refl a.patient
    (ap (λ (q : Rounds). q.busy) c.take.ensures) (ap (λ (q : Rounds). q.idle) c.take.ensures) (ap (λ (q : Rounds). q.waits) c.take.ensures) c.happen-in-None.ensures.wears

pub returns-in-NotYet-clause-log : goal.returns-in-NotYet-clause-log
returns-in-NotYet-clause-log g c = λ first terms begun begun_out taped asking.
    let polled = rw c.in-NotYet.is at c.poll-came.ensures.1 in
    let same = c.poll-came.ensures.2.nothing (ap taken c.in-NotYet.is) in
    let a = subst (λ (served : g.row.C.Denot). IsAsking (polls c.args.side) g.D.Doors.call_gives (g.C.Served.stands first served) (Told g.K.Sink.write_gives begun_out c.args.out.now) terms (g.C.Served.sends first) c.args.self.now.rounds begun c.args.doors.now) (sym same) asking in
    let gives = g.D.Doors.call_gives in
    let p = g.C.Served.sends first in
    let k = c.args.self.now.rounds in
    let up = sym c.is_up.ensures ∙ c.if-not-is_up.false in
    let h = c.be_quiet.ensures.log first terms (OfSide c.args.side NotYet ∷ a.asks) begun begun_out taped
    (rest-resting gives (g.C.Served.stands first c.poll-came.new.served) (Told g.K.Sink.write_gives begun_out c.args.out.now) terms p c.args.side c.poll-came.ensures.0 k begun c.args.doors.now c.poll-came.new.doors a up polled.given) in
    quiet-logs c.be_quiet.result gives (g.C.Served.stands first c.be_quiet.new.self.served) (g.C.Served.runs_out first) (Told g.K.Sink.write_gives begun_out c.be_quiet.new.out) terms p c.args.side a.asks k c.be_quiet.new.self.rounds begun c.be_quiet.new.doors h a.patient a.waited up c.be_quiet.ensures.rounds

pub returns-in-Ended-clause-log : goal.returns-in-Ended-clause-log
returns-in-Ended-clause-log g c = λ first terms begun begun_out taped asking.
    let polled = rw c.in-Ended.is at c.poll-came.ensures.1 in
    let same = c.poll-came.ensures.2.nothing (ap taken c.in-Ended.is) in
    let a = subst (λ (served : g.row.C.Denot). IsAsking (polls c.args.side) g.D.Doors.call_gives (g.C.Served.stands first served) (Told g.K.Sink.write_gives begun_out c.args.out.now) terms (g.C.Served.sends first) c.args.self.now.rounds begun c.args.doors.now) (sym same) asking in
    let gives = g.D.Doors.call_gives in
    let p = g.C.Served.sends first in
    let stands = g.C.Served.stands first c.poll-came.new.served in
    let tells = Told g.K.Sink.write_gives begun_out c.args.out.now in
    let k = c.args.self.now.rounds in
    let asks = OfSide c.args.side Ended ∷ a.asks in
    let h = c.happen-in-Ended.ensures.log first [] terms asks begun begun_out taped
    (end-taking gives stands tells terms p c.args.side c.poll-came.ensures.0 k c.end.new.self begun c.args.doors.now c.poll-came.new.doors a (sym c.is_up.ensures ∙ c.if-not-is_up.false) polled.given c.end.ensures) in
    came-logs c.happen-in-Ended.result gives (g.C.Served.stands first c.happen-in-Ended.new.self.served) (g.C.Served.runs_out first) (Told g.K.Sink.write_gives begun_out c.happen-in-Ended.new.out) terms p c.args.side Ended a.asks k c.end.new.self c.happen-in-Ended.new.self.rounds begun c.happen-in-Ended.new.doors h refl a.patient
    (ap (λ (q : Rounds). q.busy) c.end.ensures) (down-idle c.args.side k c.end.new.self c.end.ensures) (down-waits c.args.side k c.end.new.self c.end.ensures) c.happen-in-Ended.ensures.wears

pub returns-in-Failed-clause-log : goal.returns-in-Failed-clause-log
returns-in-Failed-clause-log g c = λ first terms begun begun_out taped a.
    let polled = rw c.in-Failed.is at c.poll-came.ensures.1 in
    poll-failed g.D.Doors.call_gives (g.C.Served.stands first c.args.self.now.served) (g.C.Served.runs_out first) (Told g.K.Sink.write_gives begun_out c.args.out.now) terms (g.C.Served.sends first) c.args.side c.poll-came.ensures.0 c.args.self.now.rounds begun c.args.doors.now c.poll-came.new.doors a (sym c.is_up.ensures ∙ c.if-not-is_up.false) polled.given

pub returns-in-Some-clause-course : goal.returns-in-Some-clause-course
returns-in-Some-clause-course g c = λ first begun k f.
    let side = c.args.side in
    let n = c.in-Took.n in
    let room = c.poll-came.ensures.0 in
    let piece = take n room in
    let took = rw (c.in-Some.is, c.in-Took.is) at c.poll-came.ensures.2.took in
    let polled = rw c.in-Took.is at c.poll-came.ensures.1 in
    let p = g.C.Served.sends first in
    let runs_out = g.C.Served.runs_out first in
    let before = g.C.Served.stands first c.args.self.now.served in
    let now = StandsAt (g.C.Served.stands first) runs_out p piece (Taken side c.in-Some.taken) c.poll-came.new.served c.poll-came.new.sent in
    let w = outside (g.D.Doors.link c.poll-came.new.doors) (g.D.Doors.door c.poll-came.new.doors) in
    let out = gathering begun (g.K.Sink.contents c.args.out.now) (g.T.Tape.contents c.args.tape.now) c.args.self.now.waiting in
    let passed_on = passed-follows side before p c.args.self.now.rounds (g.D.Doors.link c.args.doors.now) (g.D.Doors.link c.poll-came.new.doors) (g.D.Doors.door c.args.doors.now) (g.D.Doors.door c.poll-came.new.doors) out k (length room) f polled.long (record { other-is = polled.other-is; door-is = polled.door-is })
    (ap (λ (l : Link). l.up) polled.turns.1) (ap (λ (l : Link). l.turns) polled.turns.1) (ap (λ (l : Link). l.written) polled.turns.1) in
    let d = record (passed side k) { busy = true; left = (passed side k).left - n } in
    let serving = took-follows before p c.args.self.now.rounds c.take.new.self w out (passed side k) n passed_on c.take.ensures in
    polled-runs c.happen.result before (g.C.Served.stands first c.happen.new.self.served) runs_out p side c.args.self.now.rounds c.take.new.self c.happen.new.self.rounds (g.D.Doors.link c.args.doors.now) (g.D.Doors.door c.args.doors.now)
    (outside (g.D.Doors.link c.happen.new.doors) (g.D.Doors.door c.happen.new.doors)) out (gathering begun (g.K.Sink.contents c.happen.new.out) (g.T.Tape.contents c.happen.new.tape) c.happen.new.self.waiting) k d (Took n) room (Takes (SidePiece side piece) (behind side)) f (sym c.is_up.ensures ∙ c.if-not-is_up.false) polled.long polled.turns.0 refl (ap (λ (q : Rounds). q.idle) c.take.ensures)
    (c.happen.ensures.course first piece begun (behind side) d (serving-with before now p c.take.new.self w out d serving
    (subst (λ (sent : Sent). IsTaken c.in-Some.taken (g.C.Served.stands first c.poll-came.new.served) runs_out p d.events (SidePiece side piece) sent c.poll-came.new.sent) (cleared c.clear.new.self c.clear.ensures.client c.clear.ensures.host c.clear.ensures.refusals c.clear.ensures.lets_go)
    (took.some polled.bound.0 first d.events serving.stands_for))))

pub returns-in-Some-clause-log : goal.returns-in-Some-clause-log
returns-in-Some-clause-log g c = λ first terms begun begun_out taped a.
    let gives = g.D.Doors.call_gives in
    let p = g.C.Served.sends first in
    let runs_out = g.C.Served.runs_out first in
    let side = c.args.side in
    let n = c.in-Took.n in
    let room = c.poll-came.ensures.0 in
    let piece = take n room in
    let took = rw (c.in-Some.is, c.in-Took.is) at c.poll-came.ensures.2.took in
    let polled = rw c.in-Took.is at c.poll-came.ensures.1 in
    let before = g.C.Served.stands first c.args.self.now.served in
    let now = StandsAt (g.C.Served.stands first) runs_out p piece (Taken side c.in-Some.taken) c.poll-came.new.served c.poll-came.new.sent in
    let tells = Told g.K.Sink.write_gives begun_out c.args.out.now in
    let k = c.args.self.now.rounds in
    let asks = OfSide side (Took n) ∷ a.asks in
    let t = took-taking gives before tells terms p side n room k c.take.new.self begun c.args.doors.now c.poll-came.new.doors a (sym c.is_up.ensures ∙ c.if-not-is_up.false) polled.given c.take.ensures in
    let h = c.happen.ensures.log first piece terms asks begun begun_out taped
    (taking-with gives before now tells terms p asks (SidePiece side piece) c.take.new.self begun c.poll-came.new.doors t
    (subst (λ (sent : Sent). IsTaken c.in-Some.taken (g.C.Served.stands first c.poll-came.new.served) runs_out p t.events (SidePiece side piece) sent c.poll-came.new.sent) (cleared c.clear.new.self c.clear.ensures.client c.clear.ensures.host c.clear.ensures.refusals c.clear.ensures.lets_go)
    (took.some polled.bound.0 first t.events t.stands_for))) in
    came-logs c.happen.result gives (g.C.Served.stands first c.happen.new.self.served) runs_out (Told g.K.Sink.write_gives begun_out c.happen.new.out) terms p side (Took n) a.asks k c.take.new.self c.happen.new.self.rounds begun c.happen.new.doors h refl a.patient
    (ap (λ (q : Rounds). q.busy) c.take.ensures) (ap (λ (q : Rounds). q.idle) c.take.ensures) (ap (λ (q : Rounds). q.waits) c.take.ensures) c.happen.ensures.wears

pub returns-in-Some-clause-faults : goal.returns-in-Some-clause-faults
returns-in-Some-clause-faults g c =
    let polled = rw c.in-Took.is at c.poll-came.ensures.1 in
    polled-faults c.happen.result c.args.side (g.D.Doors.link c.args.doors.now) (g.D.Doors.link c.poll-came.new.doors) (g.D.Doors.door c.args.doors.now) (g.D.Doors.door c.poll-came.new.doors) (outside (g.D.Doors.link c.happen.new.doors) (g.D.Doors.door c.happen.new.doors)) (faults (g.K.Sink.faults c.args.out.now) (g.T.Tape.counts c.args.tape.now)) (faults (g.K.Sink.faults c.happen.new.out) (g.T.Tape.counts c.happen.new.tape))
    (record { other-is = polled.other-is; door-is = polled.door-is }) (ap (λ (l : Link). l.faults) polled.turns.1) c.happen.ensures.faults
