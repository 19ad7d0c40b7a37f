use Rattle.std.proofs.Common.{refl, sym, ◌∙◌, ap, subst}
use Rattle.usb_base.specs.declared.side.Side.TheVariants.{Client, Host}
use Rattle.gate_outside.specs.Link.{Link}
use Rattle.bridge_run.specs.inner.Coming.{event_with}
use Rattle.bridge_run.specs.declared.course.serve_end.ServeEnd.{ServeEnd}
use Rattle.bridge_run.specs.course.Calls.{put}
use Rattle.bridge_run.specs.course.Outside.{outside, gathering, Cut}
use Rattle.bridge_run.specs.course.Serves.{MayRunOut}
use Rattle.bridge_run.specs.inner.Stopping.{StopLogs}
use Rattle.bridge_run.proofs.lemmas.written.Put.{put-before}
use Rattle.bridge_run.proofs.lemmas.written.Stop.{stop-unrecorded, stop-written, link-still, link-front, sent-all, still-shows, stop-cut}
use Rattle.bridge_run.proofs.lemmas.log.Stop.{stop-none, stop-tape, stop-client, stop-host, stop-all}
use Rattle.bridge_run.proofs.course.session.Session.stop.Goals as goal

pub returns-then-not-has_bytes-clause-course : goal.returns-then-not-has_bytes-clause-course
returns-then-not-has_bytes-clause-course g c = λ first piece begun told k part up t.
    put-before (g.C.Served.sends first) k (event_with piece c.args.coming) (outside (g.D.Doors.link c.args.doors.now) (g.D.Doors.door c.args.doors.now)) (gathering begun told (g.T.Tape.contents c.args.tape.now) c.args.self.now.waiting) t

pub returns-in-Err-clause-course : goal.returns-in-Err-clause-course
returns-in-Err-clause-course g c = λ first piece begun told k part up t.
    let p = g.C.Served.sends first in
    let e = event_with piece c.args.coming in
    let client = c.args.self.now.sent.to_client in
    let host = c.args.self.now.sent.to_host in
    let links = g.D.Doors.link c.args.doors.now in
    let w = outside links (g.D.Doors.door c.args.doors.now) in
    let out = gathering begun told (g.T.Tape.contents c.args.tape.now) c.args.self.now.waiting in
    let out' = gathering begun told (g.T.Tape.contents c.record_coming.new.tape) c.record_coming.new.waiting in
    stop-cut p k e client host w w out out' part.to_client part.to_host t t.told t.client.turns-is t.host.turns-is refl
    (link-still k.client_up k.to_client client (links Client) (links Client) k.client t.client refl)
    (link-still k.host_up k.to_host host (links Host) (links Host) k.host t.host refl)
    (stop-unrecorded (MayRunOut c.in-Err.end (g.C.Served.runs_out first) p) p k e client host c.clear.new.self w out out' c.args.self.now.waiting part.to_client part.to_host (sym c.has_bytes.ensures ∙ c.if-not-has_bytes.false) c.clear.ensures refl t t.told (c.in-Err.ensures.err piece))

pub returns-in-Err-write_link-clause-course : goal.returns-in-Err-write_link-clause-course
returns-in-Err-write_link-clause-course g c = λ first piece begun told k part up t.
    let p = g.C.Served.sends first in
    let w1 = outside (g.D.Doors.link c.write_link.new.doors) (g.D.Doors.door c.write_link.new.doors) in
    subst (λ (x : ServeEnd). Cut (MayRunOut x (g.C.Served.runs_out first) p) w1 (gathering begun told (g.T.Tape.contents c.record_coming.new.tape) c.record_coming.new.waiting) k (put p (event_with piece c.args.coming) k)) (sym c.in-Err-write_link.ensures.fault)
    (stop-written p k (event_with piece c.args.coming) c.args.self.now.sent.to_client c.args.self.now.sent.to_host c.clear.new.self _ w1 _ (gathering begun told (g.T.Tape.contents c.record_coming.new.tape) c.record_coming.new.waiting) c.args.self.now.waiting part.ran_out part.to_client part.to_host (sym c.has_bytes.ensures ∙ c.if-not-has_bytes.false) c.clear.ensures refl (c.in_default.ensures.ok piece) t t.told
    (ap (λ (l : Link). l.turns) c.in-Err-write_link.ensures.link.link ∙ t.client.turns-is) (ap (λ (l : Link). l.turns) c.in-Err-write_link.ensures.other ∙ t.host.turns-is) c.in-Err-write_link.ensures.door
    (link-front _ _ _ _ _ _ _ _ t.client up.client c.as_slice-to_client.ensures c.in-Err-write_link.ensures.link) (link-still _ _ c.args.self.now.sent.to_host _ _ _ t.host c.in-Err-write_link.ensures.other))

pub returns-in-Err-write_link-2-clause-course : goal.returns-in-Err-write_link-2-clause-course
returns-in-Err-write_link-2-clause-course g c = λ first piece begun told k part up t.
    let p = g.C.Served.sends first in
    let w2 = outside (g.D.Doors.link c.write_link-2.new.doors) (g.D.Doors.door c.write_link-2.new.doors) in
    let still = c.in_default-write_link.ensures.other in
    let client = sent-all _ _ _ _ _ _ _ _ t.client up.client c.as_slice-to_client.ensures (c.in-Err-write_link-2.ensures.other ∙ c.in_default-write_link.ensures.link) in
    subst (λ (x : ServeEnd). Cut (MayRunOut x (g.C.Served.runs_out first) p) w2 (gathering begun told (g.T.Tape.contents c.record_coming.new.tape) c.record_coming.new.waiting) k (put p (event_with piece c.args.coming) k)) (sym c.in-Err-write_link-2.ensures.fault)
    (stop-written p k (event_with piece c.args.coming) c.args.self.now.sent.to_client c.args.self.now.sent.to_host c.clear.new.self _ w2 _ (gathering begun told (g.T.Tape.contents c.record_coming.new.tape) c.record_coming.new.waiting) c.args.self.now.waiting part.ran_out part.to_client part.to_host (sym c.has_bytes.ensures ∙ c.if-not-has_bytes.false) c.clear.ensures refl (c.in_default.ensures.ok piece) t t.told
    client.0 (ap (λ (l : Link). l.turns) c.in-Err-write_link-2.ensures.link.link ∙ ap (λ (l : Link). l.turns) still ∙ t.host.turns-is) (c.in-Err-write_link-2.ensures.door ∙ c.in_default-write_link.ensures.door)
    client.1 (link-front _ _ _ _ _ _ _ _ (still-shows _ _ _ _ _ still t.host) up.host c.as_slice-to_host.ensures c.in-Err-write_link-2.ensures.link))

pub returns-clause-course : goal.returns-clause-course
returns-clause-course g c = λ first piece begun told k part up t.
    let p = g.C.Served.sends first in
    let client = sent-all _ _ _ _ _ _ _ _ t.client up.client c.as_slice-to_client.ensures (c.in_default-write_link-2.ensures.other ∙ c.in_default-write_link.ensures.link) in
    let host = sent-all _ _ _ _ _ _ _ _ (still-shows _ _ _ _ _ c.in_default-write_link.ensures.other t.host) up.host c.as_slice-to_host.ensures c.in_default-write_link-2.ensures.link in
    stop-written p k (event_with piece c.args.coming) c.args.self.now.sent.to_client c.args.self.now.sent.to_host c.clear.new.self _ (outside (g.D.Doors.link c.write_link-2.new.doors) (g.D.Doors.door c.write_link-2.new.doors)) _ (gathering begun told (g.T.Tape.contents c.record_coming.new.tape) c.record_coming.new.waiting) c.args.self.now.waiting part.ran_out part.to_client part.to_host (sym c.has_bytes.ensures ∙ c.if-not-has_bytes.false) c.clear.ensures refl (c.in_default.ensures.ok piece) t t.told
    client.0 host.0 (c.in_default-write_link-2.ensures.door ∙ c.in_default-write_link.ensures.door) client.1 host.1

pub returns-then-not-has_bytes-clause-log : goal.returns-then-not-has_bytes-clause-log
returns-then-not-has_bytes-clause-log g c = λ first piece terms events begun taped part s.
    stop-none g.D.Doors.call_gives (g.C.Served.runs_out first) terms (g.C.Served.sends first) (event_with piece c.args.coming) events c.args.self.now.rounds c.args.self.now.sent.to_client c.args.self.now.sent.to_host begun c.args.doors.now
    (sym c.has_bytes.ensures ∙ c.if-not-has_bytes.true) part s

pub returns-in-Err-clause-log : goal.returns-in-Err-clause-log
returns-in-Err-clause-log g c = λ first piece terms events begun taped part s.
    stop-tape c.in-Err.end (g.T.Tape.counts c.args.tape.now) (g.T.Tape.counts c.record_coming.new.tape) g.D.Doors.call_gives (g.C.Served.runs_out first) terms (g.C.Served.sends first) (event_with piece c.args.coming) events c.args.self.now.rounds (g.T.Tape.made c.args.tape.now) c.clear.new.self
    begun c.args.doors.now c.in-Err.ensures.cause (c.in-Err.ensures.wants piece) c.clear.ensures taped s

pub returns-in-Err-write_link-clause-log : goal.returns-in-Err-write_link-clause-log
returns-in-Err-write_link-clause-log g c = λ first piece terms events begun taped part s.
    let gives = g.D.Doors.call_gives in
    let runs_out = g.C.Served.runs_out first in
    let p = g.C.Served.sends first in
    let e = event_with piece c.args.coming in
    subst (λ (x : ServeEnd). StopLogs x gives runs_out terms p e events begun c.write_link.new.doors) (sym c.in-Err-write_link.ensures.fault)
    (stop-client gives runs_out terms p e events c.args.self.now.rounds c.args.self.now.sent.to_client c.args.self.now.sent.to_host c.as_slice-to_client.result.now begun c.args.doors.now c.write_link.new.doors part s c.as_slice-to_client.ensures
    (c.in-Err-write_link.ensures.log begun s.calls s.called))

pub returns-in-Err-write_link-2-clause-log : goal.returns-in-Err-write_link-2-clause-log
returns-in-Err-write_link-2-clause-log g c = λ first piece terms events begun taped part s.
    let gives = g.D.Doors.call_gives in
    let runs_out = g.C.Served.runs_out first in
    let p = g.C.Served.sends first in
    let e = event_with piece c.args.coming in
    let w1 = c.in_default-write_link.ensures.log begun s.calls s.called in
    subst (λ (x : ServeEnd). StopLogs x gives runs_out terms p e events begun c.write_link-2.new.doors) (sym c.in-Err-write_link-2.ensures.fault)
    (stop-host gives runs_out terms p e events c.args.self.now.rounds c.args.self.now.sent.to_client c.args.self.now.sent.to_host c.as_slice-to_client.result.now c.as_slice-to_host.result.now begun c.args.doors.now c.write_link.new.doors c.write_link-2.new.doors part s
    c.as_slice-to_client.ensures c.as_slice-to_host.ensures w1 (c.in-Err-write_link-2.ensures.log begun w1.behind w1.called))

pub returns-clause-log : goal.returns-clause-log
returns-clause-log g c = λ first piece terms events begun taped part s.
    let w1 = c.in_default-write_link.ensures.log begun s.calls s.called in
    stop-all g.D.Doors.call_gives (g.C.Served.runs_out first) terms (g.C.Served.sends first) (event_with piece c.args.coming) events c.args.self.now.rounds c.args.self.now.sent.to_client c.args.self.now.sent.to_host c.as_slice-to_client.result.now c.as_slice-to_host.result.now begun c.args.doors.now
    c.write_link.new.doors c.write_link-2.new.doors part s c.as_slice-to_client.ensures c.as_slice-to_host.ensures w1 (c.in_default-write_link-2.ensures.log begun w1.behind w1.called)
