use Rattle.std.proofs.Common.{Some, refl, rules}
use Rattle.std.specs.Prelude.{OnOk}
use Rattle.std.proofs.lemmas.Result.{on_ok_weaker}
use Rattle.usb_base.specs.Status.{is_success}
use Rattle.control_route.specs.declared.route.Route.TheVariants as route
use Rattle.redir_host.specs.guest.Asking.{routed}
use Rattle.redir_host.specs.device.Performing.{does, resets}
use Rattle.redir_host.specs.device.Resets.{PerformsNow}
use Rattle.redir_host.proofs.lemmas.step.Makes.{changed_sound, changed_request, reset_alone, reset_behind, reset_outcome, reset_request, reset_sound}
use Rattle.redir_host.proofs.state.host.Host.perform_after_reset.Goals as goal

pub finish-requires-clause-outcome : goal.finish-requires-clause-outcome
finish-requires-clause-outcome g c =
    reset_outcome g.G.Gadget.meaning g.met.G.Gadget.lawful c.args.self.now c.reset.new.self c.args.request.now.transfer c.in_ok-outcome.outcome c.in_ok-outcome.ensures

pub returns-in-GetConfiguration-clause-ok : goal.returns-in-GetConfiguration-clause-ok
returns-in-GetConfiguration-clause-ok g c =
    let m = g.G.Gadget.meaning in
    let h = c.args.self.now in
    let alone : OnOk c.finish.result (PerformsNow (does m h c.args.request.now (Some route.Reset) (m.perform h.gadget (routed route.Reset))) c.finish.new.self c.args.out.now c.finish.new.out) = on_ok_weaker c.finish.result
    (λ made. reset_alone m h c.reset.new.self c.finish.new.self c.args.request.now c.table-table.result c.in_ok-outcome.outcome c.args.out.now c.finish.new.out c.in_ok-outcome.ensures c.table-table.ensures made)
    c.finish.ensures.ok in
    search rules

pub carry_out-requires-clause-sound : goal.carry_out-requires-clause-sound
carry_out-requires-clause-sound g c =
    let m = g.G.Gadget.meaning in
    changed_sound m route.Reset c.table-table.result (is_success c.in_ok-outcome.outcome.status) c.reset.new.self c.change.new.self c.args.out.now c.change.new.out (reset_sound m c.args.self.now c.reset.new.self c.in_ok-outcome.outcome c.requires.sound c.in_ok-outcome.ensures) c.in_ok-change-in-Control.ensures.ok.makes

pub carry_out-requires-clause-request : goal.carry_out-requires-clause-request
carry_out-requires-clause-request g c =
    let m = g.G.Gadget.meaning in
    changed_request m (Some route.Reset) c.table-table.result (is_success c.in_ok-outcome.outcome.status) c.reset.new.self c.change.new.self c.args.out.now c.change.new.out c.args.request.now (reset_request m c.args.self.now c.reset.new.self c.in_ok-outcome.outcome c.args.request.now c.requires.request c.in_ok-outcome.ensures) c.in_ok-change-in-Control.ensures.ok.makes

pub returns-in_ok-change-in-Control-clause-ok : goal.returns-in_ok-change-in-Control-clause-ok
returns-in_ok-change-in-Control-clause-ok g c =
    let m = g.G.Gadget.meaning in
    let h = c.args.self.now in
    let behind : OnOk c.carry_out.result (PerformsNow (resets m h c.args.request.now (m.perform h.gadget (routed route.Reset))) c.carry_out.new.self c.args.out.now c.carry_out.new.out) = on_ok_weaker c.carry_out.result
    (λ now. reset_behind m h c.reset.new.self c.change.new.self c.carry_out.new.self c.args.request.now c.table-table.result (is_success c.in_ok-outcome.outcome.status) c.in_ok-outcome.outcome c.args.out.now c.change.new.out c.carry_out.new.out c.in_ok-outcome.ensures c.table-table.ensures refl c.in_ok-change-in-Control.ensures.ok now)
    c.carry_out.ensures.ok in
    search rules
