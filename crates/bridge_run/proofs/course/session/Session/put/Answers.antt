use Rattle.std.proofs.Common.{ℕ, ◌||◌, List, sym, ◌∙◌, ap, subst}
use Rattle.usb_base.specs.declared.side.Side.TheVariants.{Client, Host}
use Rattle.usb_base.specs.declared.refusal.Refusal.{Refusal}
use Rattle.std.specs.Io.KnownBytes.{Appends}
use Rattle.gate_outside.specs.Front.{AppendsFront}
use Rattle.gate_outside.specs.Link.{Link}
use Rattle.bridge_run.specs.inner.Coming.{StandsAt, event_with}
use Rattle.bridge_run.specs.declared.course.rounds.Rounds.{Rounds}
use Rattle.bridge_run.specs.events.Prescribed.{refuses}
use Rattle.bridge_run.specs.course.Outside.{outside, Tells, gathering, faults}
use Rattle.bridge_run.specs.declared.course.serve_end.ServeEnd.{ServeEnd}
use Rattle.bridge_run.specs.log.Log.{Logged, Told}
use Rattle.bridge_run.proofs.lemmas.course.Course.{err-faults}
use Rattle.bridge_run.specs.inner.Links.{wrote_if, WritesFront}
use Rattle.bridge_run.specs.inner.Keeping.{refusing}
use Rattle.bridge_run.proofs.lemmas.written.Put.{due-now, recorded-by, tape-faults, cut-puts, dropped-is, sides-put, put-follows, put-in_entry, put-in_client, put-in_host, put-in_lines, tells-more, tells-front, refusing-none}
use Rattle.bridge_run.specs.written.Recorded.{written_if}
use Rattle.bridge_run.specs.inner.Logging.{WroteMore, closing}
use Rattle.bridge_run.proofs.lemmas.log.Sink.{told-event, told-front}
use Rattle.bridge_run.proofs.lemmas.log.Log.{behind-sent, client-part, host-part, lines-part, put-err}
use Rattle.bridge_run.proofs.lemmas.log.Stop.{stopping, stop-logs, tape-logs}
use Rattle.bridge_run.proofs.course.session.Session.put.Goals as goal

pub returns-in-Err-clause-course : goal.returns-in-Err-clause-course
returns-in-Err-clause-course g c = λ first piece begun k f.
    c.stop.ensures.course first piece begun (g.K.Sink.contents c.args.out.now) k (c.in-Err.ensures.stops first piece k.events f.stands_for)
    (record { client = ap (λ (q : Rounds). q.client_up) c.prepare.ensures.rounds ∙ f.client_up; host = ap (λ (q : Rounds). q.host_up) c.prepare.ensures.rounds ∙ f.host_up })
    (subst (λ (l : List ℕ). Tells (outside (g.D.Doors.link c.args.doors.now) (g.D.Doors.door c.args.doors.now)) (gathering begun (g.K.Sink.contents c.args.out.now) (g.T.Tape.contents c.args.tape.now) l) k) (sym c.prepare.ensures.waiting) f.tells)

pub returns-in-Err-clause-log : goal.returns-in-Err-clause-log
returns-in-Err-clause-log g c = λ first piece terms asks begun begun_out taped t.
    let gives = g.D.Doors.call_gives in
    let tells = Told g.K.Sink.write_gives begun_out c.args.out.now in
    let p = g.C.Served.sends first in
    let e = event_with piece c.args.coming in
    stop-logs c.stop.result gives (g.C.Served.runs_out first) tells terms p e t.events begun c.stop.new.doors t.told
    (c.stop.ensures.log first piece terms t.events begun taped (c.in-Err.ensures.stops first piece t.events t.stands_for)
    (stopping gives (StandsAt (g.C.Served.stands first) (g.C.Served.runs_out first) (g.C.Served.sends first) piece c.args.coming c.args.self.now.served c.args.self.now.sent) tells terms p asks e c.args.self.now.rounds c.prepare.new.self.rounds begun c.args.doors.now c.prepare.ensures.rounds t))

pub returns-in_err-record_coming-clause-course : goal.returns-in_err-record_coming-clause-course
returns-in_err-record_coming-clause-course g c = λ first piece begun k f.
    let p = g.C.Served.sends first in
    let e = event_with piece c.args.coming in
    let prepared = c.in_default.ensures.prepared first piece k.events f.stands_for in
    cut-puts _ c.from_residual.result (g.C.Served.stands first c.prepare.new.self.served) (g.C.Served.runs_out first) p e c.prepare.new.self.rounds (outside (g.D.Doors.link c.args.doors.now) (g.D.Doors.door c.args.doors.now)) (gathering begun (g.K.Sink.contents c.args.out.now) (g.T.Tape.contents c.record_coming.new.tape) c.record_coming.new.waiting) k c.from_residual.ensures.1
    (λ end. put-in_entry p k e c.prepare.new.self.sent c.prepare.new.self.lines c.is_due-due.result (outside (g.D.Doors.link c.args.doors.now) (g.D.Doors.door c.args.doors.now)) (gathering begun (g.K.Sink.contents c.args.out.now) (g.T.Tape.contents c.args.tape.now) c.args.self.now.waiting) (gathering begun (g.K.Sink.contents c.args.out.now) (g.T.Tape.contents c.record_coming.new.tape) c.record_coming.new.waiting) c.prepare.new.self.waiting prepared f.tells f.tells.told (due-now e c.prepare.new.self.sent c.prepare.new.self.lines c.prepare.new.self.rounds c.is_due-due.result f c.prepare.ensures.rounds prepared c.is_due-due.ensures) c.prepare.ensures.waiting (c.in_err-record_coming.ensures.err piece))

pub returns-in_err-record_coming-clause-faults : goal.returns-in_err-record_coming-clause-faults
returns-in_err-record_coming-clause-faults g c =
    let w = outside (g.D.Doors.link c.args.doors.now) (g.D.Doors.door c.args.doors.now) in
    let sink = g.K.Sink.faults c.args.out.now in
    let old = g.T.Tape.counts c.args.tape.now in
    let new = g.T.Tape.counts c.record_coming.new.tape in
    let end = c.in_err-record_coming.field-0.0 in
    err-faults c.from_residual.result end c.from_residual.ensures.1 w w (faults sink old) (faults sink new) (tape-faults end w sink old new c.in_err-record_coming.ensures.cause)

pub returns-in_err-write_link-clause-course : goal.returns-in_err-write_link-clause-course
returns-in_err-write_link-clause-course g c = λ first piece begun k f.
    let p = g.C.Served.sends first in
    let e = event_with piece c.args.coming in
    let prepared = c.in_default.ensures.prepared first piece k.events f.stands_for in
    cut-puts _ c.from_residual-in_err-write_link.result (g.C.Served.stands first c.prepare.new.self.served) (g.C.Served.runs_out first) p e c.prepare.new.self.rounds (outside (g.D.Doors.link c.write_link.new.doors) (g.D.Doors.door c.write_link.new.doors)) (gathering begun (g.K.Sink.contents c.args.out.now) (g.T.Tape.contents c.record_coming.new.tape) c.record_coming.new.waiting) k c.from_residual-in_err-write_link.ensures.1
    (λ end. put-in_client p k e c.prepare.new.self.sent c.prepare.new.self.lines c.is_due-due.result (outside (g.D.Doors.link c.args.doors.now) (g.D.Doors.door c.args.doors.now)) (outside (g.D.Doors.link c.write_link.new.doors) (g.D.Doors.door c.write_link.new.doors)) (gathering begun (g.K.Sink.contents c.args.out.now) (g.T.Tape.contents c.args.tape.now) c.args.self.now.waiting) (gathering begun (g.K.Sink.contents c.args.out.now) (g.T.Tape.contents c.record_coming.new.tape) c.record_coming.new.waiting) c.prepare.new.self.rounds.client_up prepared f.tells f.tells.told
    (recorded-by p k e c.prepare.new.self.sent c.is_due-due.result (gathering begun (g.K.Sink.contents c.args.out.now) (g.T.Tape.contents c.args.tape.now) c.args.self.now.waiting) (gathering begun (g.K.Sink.contents c.args.out.now) (g.T.Tape.contents c.record_coming.new.tape) c.record_coming.new.waiting) c.prepare.new.self.waiting c.prepare.ensures.waiting (due-now e c.prepare.new.self.sent c.prepare.new.self.lines c.prepare.new.self.rounds c.is_due-due.result f c.prepare.ensures.rounds prepared c.is_due-due.ensures) (c.in_ok-record_coming.ensures.ok piece) (c.in_ok-record_coming.ensures.waits piece)) (ap (λ (q : Rounds). q.client_up) c.prepare.ensures.rounds ∙ f.client_up)
    (subst (λ (b : List ℕ). WritesFront c.prepare.new.self.rounds.client_up b (g.D.Doors.link c.args.doors.now Client) (g.D.Doors.link c.write_link.new.doors Client)) c.as_slice.ensures c.in_err-write_link.ensures.link)
    c.in_err-write_link.ensures.other c.in_err-write_link.ensures.door)

pub returns-in_err-write_link-2-clause-course : goal.returns-in_err-write_link-2-clause-course
returns-in_err-write_link-2-clause-course g c = λ first piece begun k f.
    let p = g.C.Served.sends first in
    let e = event_with piece c.args.coming in
    let prepared = c.in_default.ensures.prepared first piece k.events f.stands_for in
    cut-puts _ c.from_residual-in_err-write_link-2.result (g.C.Served.stands first c.prepare.new.self.served) (g.C.Served.runs_out first) p e c.prepare.new.self.rounds (outside (g.D.Doors.link c.write_link-2.new.doors) (g.D.Doors.door c.write_link-2.new.doors)) (gathering begun (g.K.Sink.contents c.args.out.now) (g.T.Tape.contents c.record_coming.new.tape) c.record_coming.new.waiting) k c.from_residual-in_err-write_link-2.ensures.1
    (λ end. put-in_host p k e c.prepare.new.self.sent c.prepare.new.self.lines c.is_due-due.result (outside (g.D.Doors.link c.args.doors.now) (g.D.Doors.door c.args.doors.now)) (outside (g.D.Doors.link c.write_link-2.new.doors) (g.D.Doors.door c.write_link-2.new.doors)) (gathering begun (g.K.Sink.contents c.args.out.now) (g.T.Tape.contents c.args.tape.now) c.args.self.now.waiting) (gathering begun (g.K.Sink.contents c.args.out.now) (g.T.Tape.contents c.record_coming.new.tape) c.record_coming.new.waiting) c.prepare.new.self.rounds.client_up c.prepare.new.self.rounds.host_up prepared f.tells f.tells.told
    (recorded-by p k e c.prepare.new.self.sent c.is_due-due.result (gathering begun (g.K.Sink.contents c.args.out.now) (g.T.Tape.contents c.args.tape.now) c.args.self.now.waiting) (gathering begun (g.K.Sink.contents c.args.out.now) (g.T.Tape.contents c.record_coming.new.tape) c.record_coming.new.waiting) c.prepare.new.self.waiting c.prepare.ensures.waiting (due-now e c.prepare.new.self.sent c.prepare.new.self.lines c.prepare.new.self.rounds c.is_due-due.result f c.prepare.ensures.rounds prepared c.is_due-due.ensures) (c.in_ok-record_coming.ensures.ok piece) (c.in_ok-record_coming.ensures.waits piece)) (ap (λ (q : Rounds). q.client_up) c.prepare.ensures.rounds ∙ f.client_up) (ap (λ (q : Rounds). q.host_up) c.prepare.ensures.rounds ∙ f.host_up)
    (c.in_err-write_link-2.ensures.other ∙ c.in_ok-write_link.ensures.link ∙ ap (λ (b : List ℕ). wrote_if c.prepare.new.self.rounds.client_up b (g.D.Doors.link c.args.doors.now Client)) c.as_slice.ensures)
    (subst (λ (l : Link). WritesFront c.prepare.new.self.rounds.host_up c.prepare.new.self.sent.to_host l (g.D.Doors.link c.write_link-2.new.doors Host)) c.in_ok-write_link.ensures.other
    (subst (λ (b : List ℕ). WritesFront c.prepare.new.self.rounds.host_up b (g.D.Doors.link c.write_link.new.doors Host) (g.D.Doors.link c.write_link-2.new.doors Host)) c.as_slice-2.ensures c.in_err-write_link-2.ensures.link))
    (c.in_err-write_link-2.ensures.door ∙ c.in_ok-write_link.ensures.door))

pub returns-in-Err-write_all-clause-course : goal.returns-in-Err-write_all-clause-course
returns-in-Err-write_all-clause-course g c = λ first piece begun k f.
    let p = g.C.Served.sends first in
    let e = event_with piece c.args.coming in
    let prepared = c.in_default.ensures.prepared first piece k.events f.stands_for in
    let sides = sides-put p k e c.prepare.new.self.sent c.prepare.new.self.lines prepared f.tells.client f.tells.host (ap (λ (q : Rounds). q.client_up) c.prepare.ensures.rounds ∙ f.client_up) (ap (λ (q : Rounds). q.host_up) c.prepare.ensures.rounds ∙ f.host_up) c.as_slice.ensures c.in_ok-write_link.ensures.link c.in_ok-write_link.ensures.other c.as_slice-2.ensures c.in_ok-write_link-2.ensures.link c.in_ok-write_link-2.ensures.other c.drops_client-dropped.ensures c.close_link.ensures.link c.close_link.ensures.other c.refuses.ensures c.close_link-2.ensures.link c.close_link-2.ensures.other in
    put-in_lines p k e c.prepare.new.self.sent c.prepare.new.self.lines c.is_due-due.result (outside (g.D.Doors.link c.args.doors.now) (g.D.Doors.door c.args.doors.now)) (outside (g.D.Doors.link c.close_link-2.new.doors) (g.D.Doors.door c.close_link-2.new.doors)) (gathering begun (g.K.Sink.contents c.args.out.now) (g.T.Tape.contents c.args.tape.now) c.args.self.now.waiting) (gathering begun (g.K.Sink.contents c.write_all.new.sink) (g.T.Tape.contents c.record_coming.new.tape) c.record_coming.new.waiting) prepared f.tells sides.0 sides.1 (c.close_link-2.ensures.door ∙ c.close_link.ensures.door ∙ c.in_ok-write_link-2.ensures.door ∙ c.in_ok-write_link.ensures.door)
    (tells-front begun (g.K.Sink.contents c.args.out.now) (g.K.Sink.contents c.write_all.new.sink) k.told c.prepare.new.self.lines f.tells.told (subst (λ (b : List ℕ). AppendsFront (g.K.Sink.contents c.args.out.now) (g.K.Sink.contents c.write_all.new.sink) b) c.as_slice-3.ensures c.in-Err-write_all.ensures.err))
    (recorded-by p k e c.prepare.new.self.sent c.is_due-due.result (gathering begun (g.K.Sink.contents c.args.out.now) (g.T.Tape.contents c.args.tape.now) c.args.self.now.waiting) (gathering begun (g.K.Sink.contents c.write_all.new.sink) (g.T.Tape.contents c.record_coming.new.tape) c.record_coming.new.waiting) c.prepare.new.self.waiting c.prepare.ensures.waiting (due-now e c.prepare.new.self.sent c.prepare.new.self.lines c.prepare.new.self.rounds c.is_due-due.result f c.prepare.ensures.rounds prepared c.is_due-due.ensures) (c.in_ok-record_coming.ensures.ok piece) (c.in_ok-record_coming.ensures.waits piece))

pub returns-in-Ok-clause-course : goal.returns-in-Ok-clause-course
returns-in-Ok-clause-course g c = λ first piece begun k f.
    let p = g.C.Served.sends first in
    let e = event_with piece c.args.coming in
    let prepared = c.in_default.ensures.prepared first piece k.events f.stands_for in
    let sides = sides-put p k e c.prepare.new.self.sent c.prepare.new.self.lines prepared f.tells.client f.tells.host (ap (λ (q : Rounds). q.client_up) c.prepare.ensures.rounds ∙ f.client_up) (ap (λ (q : Rounds). q.host_up) c.prepare.ensures.rounds ∙ f.host_up) c.as_slice.ensures c.in_ok-write_link.ensures.link c.in_ok-write_link.ensures.other c.as_slice-2.ensures c.in_ok-write_link-2.ensures.link c.in_ok-write_link-2.ensures.other c.drops_client-dropped.ensures c.close_link.ensures.link c.close_link.ensures.other c.refuses.ensures c.close_link-2.ensures.link c.close_link-2.ensures.other in (
      put-follows (g.C.Served.stands first c.prepare.new.self.served) p c.args.self.now.rounds c.refuse.new.self (outside (g.D.Doors.link c.args.doors.now) (g.D.Doors.door c.args.doors.now)) (outside (g.D.Doors.link c.close_link-2.new.doors) (g.D.Doors.door c.close_link-2.new.doors)) (gathering begun (g.K.Sink.contents c.args.out.now) (g.T.Tape.contents c.args.tape.now) c.args.self.now.waiting) (gathering begun (g.K.Sink.contents c.write_all.new.sink) (g.T.Tape.contents c.record_coming.new.tape) c.record_coming.new.waiting) k e c.prepare.new.self.sent c.prepare.new.self.lines c.is_due-due.result
          (StandsAt (g.C.Served.stands first) (g.C.Served.runs_out first) (g.C.Served.sends first) piece c.args.coming c.args.self.now.served c.args.self.now.sent) f prepared (c.in_default.ensures.stands first piece k.events f.stands_for) (c.refuse.ensures ∙ ap (refusing c.prepare.new.self.sent.refusals c.prepare.new.self.sent.lets_go) c.prepare.ensures.rounds) sides.0 sides.1 (c.close_link-2.ensures.door ∙ c.close_link.ensures.door ∙ c.in_ok-write_link-2.ensures.door ∙ c.in_ok-write_link.ensures.door)
          (tells-more begun (g.K.Sink.contents c.args.out.now) (g.K.Sink.contents c.write_all.new.sink) k.told c.prepare.new.self.lines f.tells.told (subst (λ (b : List ℕ). Appends (g.K.Sink.contents c.args.out.now) (g.K.Sink.contents c.write_all.new.sink) b) c.as_slice-3.ensures c.in-Ok.ensures.ok))
          (recorded-by p k e c.prepare.new.self.sent c.is_due-due.result (gathering begun (g.K.Sink.contents c.args.out.now) (g.T.Tape.contents c.args.tape.now) c.args.self.now.waiting) (gathering begun (g.K.Sink.contents c.write_all.new.sink) (g.T.Tape.contents c.record_coming.new.tape) c.record_coming.new.waiting) c.prepare.new.self.waiting c.prepare.ensures.waiting (due-now e c.prepare.new.self.sent c.prepare.new.self.lines c.prepare.new.self.rounds c.is_due-due.result f c.prepare.ensures.rounds prepared c.is_due-due.ensures) (c.in_ok-record_coming.ensures.ok piece) (c.in_ok-record_coming.ensures.waits piece)),
      c.drops_client-dropped.ensures ∙ dropped-is p k.events e c.prepare.new.self.sent c.prepare.new.self.lines prepared,
    )

pub returns-in-Ok-clause-quiet : goal.returns-in-Ok-clause-quiet
returns-in-Ok-clause-quiet g c = λ quiet.
    let sent = c.prepare.new.self.sent in
    let none = c.in_default.ensures.quiet quiet in
    let stays = c.in_default.ensures.stays quiet in (
      c.drops_client-dropped.ensures ∙ ap (λ (rs : List Refusal). refuses Client rs || sent.lets_go) none ∙ stays,
      refusing-none sent.refusals sent.lets_go c.args.self.now.rounds c.refuse.new.self none stays (c.refuse.ensures ∙ ap (refusing sent.refusals sent.lets_go) c.prepare.ensures.rounds),
    )

pub returns-in_err-record_coming-clause-log : goal.returns-in_err-record_coming-clause-log
returns-in_err-record_coming-clause-log g c = λ first piece terms asks begun begun_out taped t.
    let gives = g.D.Doors.call_gives in
    let runs_out = g.C.Served.runs_out first in
    let tells = Told g.K.Sink.write_gives begun_out c.args.out.now in
    let p = g.C.Served.sends first in
    let e = event_with piece c.args.coming in
    let end = c.in_err-record_coming.field-0.0 in
    put-err _ c.from_residual.result gives (g.C.Served.stands first c.prepare.new.self.served) runs_out tells terms p asks e c.prepare.new.self.rounds begun c.args.doors.now c.from_residual.ensures.1
    (λ x is. subst (λ (y : ServeEnd). Logged y gives runs_out tells terms p begun c.args.doors.now) (sym is)
    (tape-logs end (g.T.Tape.counts c.args.tape.now) (g.T.Tape.counts c.record_coming.new.tape) gives (StandsAt (g.C.Served.stands first) (g.C.Served.runs_out first) (g.C.Served.sends first) piece c.args.coming c.args.self.now.served c.args.self.now.sent) runs_out tells terms p asks e c.args.self.now.rounds c.prepare.new.self.sent c.prepare.new.self.lines (g.T.Tape.made c.args.tape.now) begun c.args.doors.now
    c.in_err-record_coming.ensures.cause (c.in_err-record_coming.ensures.wants piece) taped t (c.in_default.ensures.prepared first piece t.events t.stands_for)))

pub returns-in_err-write_link-clause-log : goal.returns-in_err-write_link-clause-log
returns-in_err-write_link-clause-log g c = λ first piece terms asks begun begun_out taped t.
    let gives = g.D.Doors.call_gives in
    let tells = Told g.K.Sink.write_gives begun_out c.args.out.now in
    let p = g.C.Served.sends first in
    put-err _ c.from_residual-in_err-write_link.result gives (g.C.Served.stands first c.prepare.new.self.served) (g.C.Served.runs_out first) tells terms p asks (event_with piece c.args.coming) c.prepare.new.self.rounds begun c.write_link.new.doors c.from_residual-in_err-write_link.ensures.1
    (λ x is. subst (λ (y : ServeEnd). Logged y gives (g.C.Served.runs_out first) tells terms p begun c.write_link.new.doors) (sym (is ∙ c.in_err-write_link.ensures.fault))
    (client-part t (c.in_default.ensures.prepared first piece t.events t.stands_for) c.prepare.ensures.rounds c.as_slice.ensures (c.in_err-write_link.ensures.log begun t.calls t.called)))

pub returns-in_err-write_link-2-clause-log : goal.returns-in_err-write_link-2-clause-log
returns-in_err-write_link-2-clause-log g c = λ first piece terms asks begun begun_out taped t.
    let gives = g.D.Doors.call_gives in
    let tells = Told g.K.Sink.write_gives begun_out c.args.out.now in
    let p = g.C.Served.sends first in
    let k1 = c.prepare.new.self.rounds in
    let w1 = subst (λ (b : List ℕ). WroteMore gives Client (written_if k1.client_up b) t.calls begun c.write_link.new.doors) c.as_slice.ensures (c.in_ok-write_link.ensures.log begun t.calls t.called) in
    put-err _ c.from_residual-in_err-write_link-2.result gives (g.C.Served.stands first c.prepare.new.self.served) (g.C.Served.runs_out first) tells terms p asks (event_with piece c.args.coming) k1 begun c.write_link-2.new.doors c.from_residual-in_err-write_link-2.ensures.1
    (λ x is. subst (λ (y : ServeEnd). Logged y gives (g.C.Served.runs_out first) tells terms p begun c.write_link-2.new.doors) (sym (is ∙ c.in_err-write_link-2.ensures.fault))
    (host-part t (c.in_default.ensures.prepared first piece t.events t.stands_for) c.prepare.ensures.rounds c.as_slice-2.ensures w1 (c.in_err-write_link-2.ensures.log begun w1.behind w1.called)))

pub returns-in-Err-write_all-clause-log : goal.returns-in-Err-write_all-clause-log
returns-in-Err-write_all-clause-log g c = λ first piece terms asks begun begun_out taped t.
    let gives = g.D.Doors.call_gives in
    let writes = g.K.Sink.write_gives in
    let p = g.C.Served.sends first in
    let e = event_with piece c.args.coming in
    let k1 = c.prepare.new.self.rounds in
    let prepared = c.in_default.ensures.prepared first piece t.events t.stands_for in
    let w1 = subst (λ (b : List ℕ). WroteMore gives Client (written_if k1.client_up b) t.calls begun c.write_link.new.doors) c.as_slice.ensures (c.in_ok-write_link.ensures.log begun t.calls t.called) in
    let w2 = subst (λ (b : List ℕ). WroteMore gives Host (written_if k1.host_up b) w1.behind begun c.write_link-2.new.doors) c.as_slice-2.ensures (c.in_ok-write_link-2.ensures.log begun w1.behind w1.called) in
    lines-part gives (StandsAt (g.C.Served.stands first) (g.C.Served.runs_out first) (g.C.Served.sends first) piece c.args.coming c.args.self.now.served c.args.self.now.sent) (g.C.Served.runs_out first) (Told writes begun_out c.args.out.now) (Told writes begun_out c.write_all.new.sink) terms p asks e c.args.self.now.rounds k1 c.prepare.new.self.sent c.prepare.new.self.lines begun c.args.doors.now c.write_link.new.doors c.write_link-2.new.doors c.close_link-2.new.doors c.drops_client-dropped.result c.refuses.result
    t prepared c.prepare.ensures.rounds w1 w2 (c.close_link-2.ensures.log begun (closing c.drops_client-dropped.result Client w2.behind) (c.close_link.ensures.log begun w2.behind w2.called)) c.drops_client-dropped.ensures c.refuses.ensures
    (told-front writes p t.events e c.prepare.new.self.sent c.prepare.new.self.lines c.as_slice-3.result.now begun_out c.args.out.now c.write_all.new.sink prepared c.as_slice-3.ensures t.told c.in-Err-write_all.ensures.writes_front)

pub returns-in-Ok-clause-log : goal.returns-in-Ok-clause-log
returns-in-Ok-clause-log g c = λ first piece terms asks begun begun_out taped t.
    let gives = g.D.Doors.call_gives in
    let writes = g.K.Sink.write_gives in
    let p = g.C.Served.sends first in
    let e = event_with piece c.args.coming in
    let k1 = c.prepare.new.self.rounds in
    let prepared = c.in_default.ensures.prepared first piece t.events t.stands_for in
    let w1 = subst (λ (b : List ℕ). WroteMore gives Client (written_if k1.client_up b) t.calls begun c.write_link.new.doors) c.as_slice.ensures (c.in_ok-write_link.ensures.log begun t.calls t.called) in
    let w2 = subst (λ (b : List ℕ). WroteMore gives Host (written_if k1.host_up b) w1.behind begun c.write_link-2.new.doors) c.as_slice-2.ensures (c.in_ok-write_link-2.ensures.log begun w1.behind w1.called) in
    behind-sent gives (StandsAt (g.C.Served.stands first) (g.C.Served.runs_out first) (g.C.Served.sends first) piece c.args.coming c.args.self.now.served c.args.self.now.sent) (g.C.Served.stands first c.prepare.new.self.served) (Told writes begun_out c.args.out.now) (Told writes begun_out c.write_all.new.sink) terms p asks e c.args.self.now.rounds k1 c.refuse.new.self c.prepare.new.self.sent c.prepare.new.self.lines begun c.args.doors.now c.write_link.new.doors c.write_link-2.new.doors c.close_link-2.new.doors c.drops_client-dropped.result c.refuses.result
    t prepared c.prepare.ensures.rounds w1 w2 (c.close_link-2.ensures.log begun (closing c.drops_client-dropped.result Client w2.behind) (c.close_link.ensures.log begun w2.behind w2.called)) c.refuse.ensures c.drops_client-dropped.ensures c.refuses.ensures (c.in_default.ensures.stands first piece t.events t.stands_for)
    (told-event writes p t.events e c.prepare.new.self.sent c.prepare.new.self.lines c.as_slice-3.result.now begun_out c.args.out.now c.write_all.new.sink prepared c.as_slice-3.ensures t.told c.in-Ok.ensures.writes)
