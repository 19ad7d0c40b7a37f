use Rattle.std.proofs.Common.{ℕ, true, List, [], Err, refl, sym, ◌∙◌, ap, subst}
use Rattle.bridge_run.specs.course.Course.{Setting, Making, AtDoor}
use Rattle.bridge_run.specs.course.Calls.{Goes, make}
use Rattle.bridge_run.specs.course.Outside.{outside, HasReason, gathering, written, faults}
use Rattle.bridge_run.specs.course.Serves.{Leaves}
use Rattle.bridge_run.specs.declared.course.rounds.Rounds.{Rounds}
use Rattle.bridge_run.specs.inner.Keeping.{begun}
use Rattle.bridge_run.specs.inner.Follows.{IsServing, setting}
use Rattle.bridge_run.proofs.lemmas.course.Course.{reaches-none, reaches-call, leaves-then, cut-leaves, cut-next}
use Rattle.bridge_run.proofs.lemmas.course.Rest.{faults-then}
use Rattle.bridge_run.proofs.lemmas.course.Idle.{cut-reason, reason-from}
use Rattle.bridge_run.proofs.lemmas.course.Open.{making-short, begun-follows, never-cut}
use Rattle.bridge_run.specs.log.Log.{Told}
use Rattle.bridge_run.proofs.lemmas.log.Sink.{told-none}
use Rattle.bridge_run.proofs.lemmas.log.Opening.{with_host, nothing-before, open-logged, opened-at}
use Rattle.bridge_run.proofs.course.between.run_between.Goals as goal

pub returns-in-Err-clause-leaves : goal.returns-in-Err-clause-leaves
returns-in-Err-clause-leaves g c = λ first k fresh hello b t. making-short (record { served = g.C.Served.sends first; idle = c.args.terms.idle }) k (outside (g.D.Doors.link c.args.doors.now) (g.D.Doors.door c.args.doors.now)) (written (g.K.Sink.contents c.args.out.now) (g.K.Sink.contents c.args.out.now) (g.T.Tape.contents c.args.tape.now)) t

pub returns-in-Err-open-clause-leaves : goal.returns-in-Err-open-clause-leaves
returns-in-Err-open-clause-leaves g c = λ first k fresh hello b t.
    let p = g.C.Served.sends first in
    let s : Setting = record { served = p; idle = c.args.terms.idle } in
    let w = (outside (g.D.Doors.link c.open.new.doors) (g.D.Doors.door c.open.new.doors)) in
    let out = written (g.K.Sink.contents c.args.out.now) (g.K.Sink.contents c.args.out.now) (g.T.Tape.contents c.args.tape.now) in
    cut-leaves c.in-Err-open.end (g.C.Served.runs_out first) s (Goes Making k) w out c.in-Err-open.ensures.cut
    (cut-next s (Goes Making k) Making k (make p k) w out (reaches-none s (Goes Making k)) refl (never-cut w out k (make p k) (c.in-Err-open.ensures.course p k out hello b.client_down t)))

pub returns-clause-leaves : goal.returns-clause-leaves
returns-clause-leaves g c = λ first k fresh hello b t.
    let p = g.C.Served.sends first in
    let s : Setting = record { served = p; idle = c.args.terms.idle } in
    let w = outside (g.D.Doors.link c.open.new.doors) (g.D.Doors.door c.open.new.doors) in
    let ends = outside (g.D.Doors.link c.run.new.doors) (g.D.Doors.door c.run.new.doors) in
    let out = written (g.K.Sink.contents c.args.out.now) (g.K.Sink.contents c.args.out.now) (g.T.Tape.contents c.args.tape.now) in
    let stands = g.C.Served.stands first c.new-session.result.served in
    leaves-then c.run.result (g.C.Served.runs_out first) s (Goes Making k) AtDoor (make p k) ends (written (g.K.Sink.contents c.args.out.now) (g.K.Sink.contents c.run.new.out) (g.T.Tape.contents c.run.new.tape))
    (reaches-call s (Goes Making k) Making k (Goes AtDoor (make p k)) (reaches-none s (Goes Making k)) refl)
    (subst (λ (q : Rounds). IsServing stands p q w (gathering (g.K.Sink.contents c.args.out.now) (g.K.Sink.contents c.args.out.now) (g.T.Tape.contents c.args.tape.now) c.new-session.result.waiting) (make p k) → Leaves c.run.result (g.C.Served.runs_out first) (setting p q) (Goes AtDoor (make p k)) ends (written (g.K.Sink.contents c.args.out.now) (g.K.Sink.contents c.run.new.out) (g.T.Tape.contents c.run.new.tape))) (c.new-session.ensures.rounds ∙ ap (λ (q : Rounds). record q { host_up = true }) c.new.ensures) (c.run.ensures.course first (g.K.Sink.contents c.args.out.now) (make p k))
    (subst (λ (l : List ℕ). IsServing stands p (record (begun c.args.terms.idle c.args.terms.budget) { host_up = true }) w (gathering (g.K.Sink.contents c.args.out.now) (g.K.Sink.contents c.args.out.now) (g.T.Tape.contents c.args.tape.now) l) (make p k)) (sym c.new-session.ensures.waiting)
    (begun-follows stands p c.args.terms.idle c.args.terms.budget w out k b (subst (λ x. g.C.Served.stands first x []) (sym c.new-session.ensures.served) fresh.stands_for) fresh.refuses_none (c.in_default.ensures.course p k out hello b.client_down t))))

pub returns-clause-cause : goal.returns-clause-cause
returns-clause-cause g c =
    faults-then {T = Unit {0}} (Err c.run.result) (outside (g.D.Doors.link c.args.doors.now) (g.D.Doors.door c.args.doors.now)) (outside (g.D.Doors.link c.open.new.doors) (g.D.Doors.door c.open.new.doors)) (outside (g.D.Doors.link c.run.new.doors) (g.D.Doors.door c.run.new.doors)) (faults (g.K.Sink.faults c.args.out.now) (g.T.Tape.counts c.args.tape.now)) (faults (g.K.Sink.faults c.args.out.now) (g.T.Tape.counts c.args.tape.now)) (faults (g.K.Sink.faults c.run.new.out) (g.T.Tape.counts c.run.new.tape)) (c.in_default.ensures.faults (faults (g.K.Sink.faults c.args.out.now) (g.T.Tape.counts c.args.tape.now))) c.run.ensures.cause

pub returns-in-Err-open-clause-reason : goal.returns-in-Err-open-clause-reason
returns-in-Err-open-clause-reason g c = cut-reason c.in-Err-open.end c.args.terms.idle (outside (g.D.Doors.link c.args.doors.now) (g.D.Doors.door c.args.doors.now)) (outside (g.D.Doors.link c.open.new.doors) (g.D.Doors.door c.open.new.doors)) c.in-Err-open.ensures.cut

pub returns-clause-reason : goal.returns-clause-reason
returns-clause-reason g c =
    let before = outside (g.D.Doors.link c.args.doors.now) (g.D.Doors.door c.args.doors.now) in
    let w = outside (g.D.Doors.link c.open.new.doors) (g.D.Doors.door c.open.new.doors) in
    let ends = outside (g.D.Doors.link c.run.new.doors) (g.D.Doors.door c.run.new.doors) in
    reason-from c.run.result c.args.terms.idle before w ends c.in_default.ensures.idles
    (subst (λ (q : Rounds). HasReason c.run.result q.idle w ends) (c.new-session.ensures.rounds ∙ ap (λ (q : Rounds). record q { host_up = true }) c.new.ensures) c.run.ensures.reason)

pub returns-in-Err-clause-log : goal.returns-in-Err-clause-log
returns-in-Err-clause-log g c = λ first fresh hello. nothing-before g.D.Doors.call_gives (g.C.Served.runs_out first) (Told g.K.Sink.write_gives c.args.out.now c.args.out.now) (with_host c.args.terms.host.now c.args.terms.listen.now (g.T.Tape.made c.args.tape.now) c.args.terms.idle c.args.terms.budget) (g.C.Served.sends first) c.args.doors.now
    (told-none g.K.Sink.write_gives c.args.out.now)

pub returns-in-Err-open-clause-log : goal.returns-in-Err-open-clause-log
returns-in-Err-open-clause-log g c = λ first fresh hello.
    let p = g.C.Served.sends first in
    open-logged c.in-Err-open.end g.D.Doors.call_gives (g.C.Served.runs_out first) (Told g.K.Sink.write_gives c.args.out.now c.args.out.now) (with_host c.args.terms.host.now c.args.terms.listen.now (g.T.Tape.made c.args.tape.now) c.args.terms.idle c.args.terms.budget) p c.args.doors.now c.open.new.doors (told-none g.K.Sink.write_gives c.args.out.now)
    (c.in-Err-open.ensures.log (g.T.Tape.made c.args.tape.now) c.args.terms.idle c.args.terms.budget p hello)

pub returns-clause-log : goal.returns-clause-log
returns-clause-log g c = λ first fresh hello.
    let p = g.C.Served.sends first in
    let stands = g.C.Served.stands first c.new-session.result.served in
    let tells = Told g.K.Sink.write_gives c.args.out.now c.args.out.now in
    c.run.ensures.log first (with_host c.args.terms.host.now c.args.terms.listen.now (g.T.Tape.made c.args.tape.now) c.args.terms.idle c.args.terms.budget) c.args.doors.now c.args.out.now refl
    (opened-at g.D.Doors.call_gives stands tells c.args.terms.host.now c.args.terms.listen.now (g.T.Tape.made c.args.tape.now) c.args.terms.idle c.args.terms.budget p c.new-session.result.rounds c.args.doors.now c.open.new.doors
    (c.in_default.ensures.log (g.T.Tape.made c.args.tape.now) c.args.terms.idle c.args.terms.budget p hello)
    (subst (λ x. g.C.Served.stands first x []) (sym c.new-session.ensures.served) fresh.stands_for)
    (told-none g.K.Sink.write_gives c.args.out.now) fresh.refuses_none c.requires.idle c.requires.budget (c.new-session.ensures.rounds ∙ ap (λ (q : Rounds). record q { host_up = true }) c.new.ensures))
