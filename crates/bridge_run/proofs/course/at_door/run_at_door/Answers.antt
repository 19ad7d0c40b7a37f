use Rattle.std.proofs.Common.{ℕ, List, [], None, Err, refl, sym, ◌∙◌, ap, subst}
use Rattle.gate_outside.specs.Link.{Link}
use Rattle.session_tape.specs.Tapes.{counts}
use Rattle.bridge_run.specs.course.Outside.{outside, HasReason, gathering, written, faults}
use Rattle.bridge_run.specs.course.Course.{AtDoor}
use Rattle.bridge_run.specs.course.Calls.{Goes}
use Rattle.bridge_run.specs.course.Serves.{Leaves}
use Rattle.bridge_run.specs.declared.course.rounds.Rounds.{Rounds}
use Rattle.bridge_run.specs.inner.Keeping.{begun}
use Rattle.bridge_run.specs.inner.Follows.{IsServing, setting}
use Rattle.bridge_run.proofs.lemmas.course.Rest.{faults-then}
use Rattle.bridge_run.proofs.lemmas.course.Idle.{reason-from}
use Rattle.bridge_run.proofs.lemmas.course.Open.{door-short, door-unmade, door-follows}
use Rattle.bridge_run.specs.log.Log.{Told}
use Rattle.bridge_run.proofs.lemmas.log.Sink.{told-none}
use Rattle.bridge_run.proofs.lemmas.log.Opening.{no_host, nothing-before, door-failed, door-at}
use Rattle.bridge_run.proofs.course.at_door.run_at_door.Goals as goal

pub returns-in-Err-clause-leaves : goal.returns-in-Err-clause-leaves
returns-in-Err-clause-leaves g c = λ first k fresh b t.
    door-short (record { served = g.C.Served.sends first; idle = c.args.idle }) k (outside (g.D.Doors.link c.args.doors.now) (g.D.Doors.door c.args.doors.now)) (written (g.K.Sink.contents c.args.out.now) (g.K.Sink.contents c.args.out.now) None) b.client_down t

pub returns-in-Err-listen-clause-leaves : goal.returns-in-Err-listen-clause-leaves
returns-in-Err-listen-clause-leaves g c = λ first k fresh b t.
    door-unmade (record { served = g.C.Served.sends first; idle = c.args.idle }) k (outside (g.D.Doors.link c.args.doors.now) (g.D.Doors.door c.args.doors.now)) (outside (g.D.Doors.link c.listen.new.self) (g.D.Doors.door c.listen.new.self)) (written (g.K.Sink.contents c.args.out.now) (g.K.Sink.contents c.args.out.now) None)
    b.client_down t c.in-Err-listen.ensures.listens.1 c.in-Err-listen.ensures.other c.in-Err-listen.ensures.listens.0

pub returns-clause-leaves : goal.returns-clause-leaves
returns-clause-leaves g c = λ first k fresh b t.
    let p = g.C.Served.sends first in
    let w = outside (g.D.Doors.link c.listen.new.self) (g.D.Doors.door c.listen.new.self) in
    let ends = outside (g.D.Doors.link c.run.new.doors) (g.D.Doors.door c.run.new.doors) in
    let out = written (g.K.Sink.contents c.args.out.now) (g.K.Sink.contents c.args.out.now) None in
    let stands = g.C.Served.stands first c.new-session.result.served in
    subst (λ (q : Rounds). IsServing stands p q w (gathering (g.K.Sink.contents c.args.out.now) (g.K.Sink.contents c.args.out.now) None c.new-session.result.waiting) k → Leaves c.run.result (g.C.Served.runs_out first) (setting p q) (Goes AtDoor k) ends (written (g.K.Sink.contents c.args.out.now) (g.K.Sink.contents c.run.new.out) None)) (c.new-session.ensures.rounds ∙ c.new.ensures) (c.run.ensures.course first (g.K.Sink.contents c.args.out.now) k)
    (subst (λ (l : List ℕ). IsServing stands p (begun c.args.idle c.args.budget) w (gathering (g.K.Sink.contents c.args.out.now) (g.K.Sink.contents c.args.out.now) None l) k) (sym c.new-session.ensures.waiting)
    (door-follows stands p c.args.idle c.args.budget
    (outside (g.D.Doors.link c.args.doors.now) (g.D.Doors.door c.args.doors.now)) w out k b (subst (λ x. g.C.Served.stands first x []) (sym c.new-session.ensures.served) fresh.stands_for) fresh.refuses_none t
    c.in_default.ensures.listens.1 c.in_default.ensures.other c.in_default.ensures.listens.0))

pub returns-clause-cause : goal.returns-clause-cause
returns-clause-cause g c =
    faults-then {T = Unit {0}} (Err c.run.result) (outside (g.D.Doors.link c.args.doors.now) (g.D.Doors.door c.args.doors.now)) (outside (g.D.Doors.link c.listen.new.self) (g.D.Doors.door c.listen.new.self)) (outside (g.D.Doors.link c.run.new.doors) (g.D.Doors.door c.run.new.doors))
    (faults (g.K.Sink.faults c.args.out.now) (counts 0 0)) (faults (g.K.Sink.faults c.args.out.now) (counts 0 0)) (faults (g.K.Sink.faults c.run.new.out) (counts 0 0))
    (record { client = ap (λ (l : Link). l.faults) c.in_default.ensures.listens.1; host = ap (λ (l : Link). l.faults) c.in_default.ensures.other; sink = refl }) c.run.ensures.cause

pub returns-clause-reason : goal.returns-clause-reason
returns-clause-reason g c =
    let before = outside (g.D.Doors.link c.args.doors.now) (g.D.Doors.door c.args.doors.now) in
    let w = outside (g.D.Doors.link c.listen.new.self) (g.D.Doors.door c.listen.new.self) in
    let ends = outside (g.D.Doors.link c.run.new.doors) (g.D.Doors.door c.run.new.doors) in
    reason-from c.run.result c.args.idle before w ends
    (record { client = ap (λ (l : Link). l.idle) c.in_default.ensures.listens.1; host = ap (λ (l : Link). l.idle) c.in_default.ensures.other })
    (subst (λ (q : Rounds). HasReason c.run.result q.idle w ends) (c.new-session.ensures.rounds ∙ c.new.ensures) c.run.ensures.reason)

pub returns-in-Err-clause-log : goal.returns-in-Err-clause-log
returns-in-Err-clause-log g c = λ first fresh. nothing-before g.D.Doors.call_gives (g.C.Served.runs_out first) (Told g.K.Sink.write_gives c.args.out.now c.args.out.now) (no_host c.args.listen.now c.args.idle c.args.budget) (g.C.Served.sends first) c.args.doors.now (told-none g.K.Sink.write_gives c.args.out.now)

pub returns-in-Err-listen-clause-log : goal.returns-in-Err-listen-clause-log
returns-in-Err-listen-clause-log g c = λ first fresh.
    door-failed g.D.Doors.call_gives (g.C.Served.runs_out first) (Told g.K.Sink.write_gives c.args.out.now c.args.out.now) (g.C.Served.sends first) c.args.listen.now c.args.idle c.args.budget _ c.args.doors.now c.listen.new.self c.in-Err-listen.ensures.gives
    (told-none g.K.Sink.write_gives c.args.out.now)

pub returns-clause-log : goal.returns-clause-log
returns-clause-log g c = λ first fresh.
    c.run.ensures.log first (no_host c.args.listen.now c.args.idle c.args.budget) c.args.doors.now c.args.out.now refl
    (door-at g.D.Doors.call_gives (g.C.Served.stands first c.new-session.result.served) (Told g.K.Sink.write_gives c.args.out.now c.args.out.now) (g.C.Served.sends first) c.new-session.result.rounds c.args.idle c.args.budget c.args.listen.now _ c.args.doors.now c.listen.new.self c.in_default.ensures.gives
    (subst (λ x. g.C.Served.stands first x []) (sym c.new-session.ensures.served) fresh.stands_for) (told-none g.K.Sink.write_gives c.args.out.now) fresh.refuses_none c.requires.idle c.requires.budget (c.new-session.ensures.rounds ∙ c.new.ensures))
