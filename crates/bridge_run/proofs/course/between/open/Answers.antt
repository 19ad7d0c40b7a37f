use Rattle.std.proofs.Common.{true, sym, ◌∙◌, ap, subst}
use Rattle.usb_base.specs.declared.side.Side.TheVariants.{Host}
use Rattle.gate_outside.specs.Link.{Door}
use Rattle.gate_outside.specs.Doors.{faulted}
use Rattle.bridge_run.specs.declared.course.serve_end.ServeEnd.{ServeEnd}
use Rattle.bridge_run.specs.inner.Logging.{OpenLogs}
use Rattle.bridge_run.specs.course.Outside.{outside}
use Rattle.bridge_run.proofs.lemmas.course.Open.{cut-opens, not_dialled, not_listened, not_greeted}
use Rattle.std.proofs.Common.{Ok, Err}
use Rattle.bridge_run.proofs.lemmas.log.Opening.{with_host, dial-failed, listen-failed, was-asked, asked, hello-failed, hello-sent, open-err}
use Rattle.bridge_run.proofs.course.between.open.Goals as goal

pub returns-in-Err-clause-course : goal.returns-in-Err-clause-course
returns-in-Err-clause-course g c = λ p k out hello up t.
    not_dialled p k (outside (g.D.Doors.link c.args.doors.now) (g.D.Doors.door c.args.doors.now)) (outside (g.D.Doors.link c.dial.new.self) (g.D.Doors.door c.dial.new.self)) out t
    c.in-Err.ensures.link c.in-Err.ensures.other c.in-Err.ensures.door

pub returns-in-Err-listen-clause-course : goal.returns-in-Err-listen-clause-course
returns-in-Err-listen-clause-course g c = λ p k out hello up t. let a = c.in-Err-listen.ensures in let b = c.in_default.ensures in
    not_listened p k (outside (g.D.Doors.link c.args.doors.now) (g.D.Doors.door c.args.doors.now)) (outside (g.D.Doors.link c.listen.new.self) (g.D.Doors.door c.listen.new.self)) out t
    (c.in-Err-listen.ensures.other ∙ c.in_default.ensures.link) (c.in-Err-listen.ensures.listens.1 ∙ ap faulted c.in_default.ensures.other) (c.in-Err-listen.ensures.listens.0 ∙ c.in_default.ensures.door)

pub returns-in_err-write_link-clause-course : goal.returns-in_err-write_link-clause-course
returns-in_err-write_link-clause-course g c = λ p k out hello up t. let a = c.in_err-write_link.ensures in let b = c.in_default-listen.ensures in
    cut-opens _ c.from_residual.result p (outside (g.D.Doors.link c.write_link.new.doors) (g.D.Doors.door c.write_link.new.doors)) out k c.from_residual.ensures.1
    (not_greeted p k (outside (g.D.Doors.link c.args.doors.now) (g.D.Doors.door c.args.doors.now)) (outside (g.D.Doors.link c.write_link.new.doors) (g.D.Doors.door c.write_link.new.doors)) (g.D.Doors.link c.listen.new.self Host) out c.args.hello.now hello t
    (c.in_default-listen.ensures.other ∙ c.in_default.ensures.link) c.in_err-write_link.ensures.link
    (c.in_err-write_link.ensures.other ∙ c.in_default-listen.ensures.listens.1 ∙ c.in_default.ensures.other)
    (c.in_err-write_link.ensures.door ∙ c.in_default-listen.ensures.listens.0 ∙ ap (λ (d : Door). record d { made = true }) c.in_default.ensures.door))

pub returns-in-Err-clause-log : goal.returns-in-Err-clause-log
returns-in-Err-clause-log g c = λ taped idle budget p hello. dial-failed g.D.Doors.call_gives p c.args.host.now c.args.listen.now taped idle budget _ c.args.doors.now c.dial.new.self c.in-Err.ensures.gives

pub returns-in-Err-listen-clause-log : goal.returns-in-Err-listen-clause-log
returns-in-Err-listen-clause-log g c = λ taped idle budget p hello. listen-failed g.D.Doors.call_gives p c.args.host.now c.args.listen.now taped idle budget _ c.args.doors.now c.dial.new.self c.listen.new.self c.in_default.ensures.gives c.in-Err-listen.ensures.gives

pub returns-in_err-write_link-clause-log : goal.returns-in_err-write_link-clause-log
returns-in_err-write_link-clause-log g c = λ taped idle budget p hello.
    let gives = g.D.Doors.call_gives in
    let host = c.args.host.now in
    let door = c.args.listen.now in
    let terms = with_host host door taped idle budget in
    let failed = c.in_err-write_link.ensures.log c.args.doors.now (asked host door (Ok tt)) (was-asked gives host door (Ok tt) c.args.doors.now c.dial.new.self c.listen.new.self c.in_default.ensures.gives c.in_default-listen.ensures.gives) in
    open-err _ c.from_residual.result gives terms p c.args.doors.now c.write_link.new.doors c.from_residual.ensures.1
    (λ x is. subst (λ (y : ServeEnd). OpenLogs {T = Unit {0}} (Err y) gives terms p c.args.doors.now c.write_link.new.doors) (sym (is ∙ c.in_err-write_link.ensures.fault))
    (hello-failed gives p host door taped idle budget true c.args.hello.now c.args.doors.now c.write_link.new.doors hello failed))

pub returns-clause-log : goal.returns-clause-log
returns-clause-log g c = λ taped idle budget p hello.
    let gives = g.D.Doors.call_gives in
    let host = c.args.host.now in
    let door = c.args.listen.now in
    hello-sent gives p host door taped idle budget c.args.hello.now c.args.doors.now c.write_link.new.doors hello
    (c.in_ok-write_link.ensures.log c.args.doors.now (asked host door (Ok tt)) (was-asked gives host door (Ok tt) c.args.doors.now c.dial.new.self c.listen.new.self c.in_default.ensures.gives c.in_default-listen.ensures.gives))
