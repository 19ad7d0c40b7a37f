use Rattle.std.proofs.Common.{true, false, refl, sym, ◌∙◌, rules}
use Rattle.model_device.proofs.Performed.{performed}
use Rattle.model_device.proofs.device.DeviceGadget.perform.Goals.{then-is_done_change, else-is_done_change}
use Rattle.model_device.proofs.device.DeviceGadget.perform.Goals as goal

pub returns-then-is_some-clause-state : goal.returns-then-is_some-clause-state
returns-then-is_some-clause-state g c =
    let d = g.F.Function.described in
    let now = c.self.inside in
    let came = c.in_ok-outcome in
    elim c.if-is_done_change.branch [
      | then-is_done_change w ↦ w.self-is ∙ performed d now.framework c.control.new.self c.args.self.now c.args.transfer.now came.outcome true now.function w.first.result
          c.self.invariant.set_is c.self.invariant.parts_are c.self.view_is came.ensures.state (search rules) came.ensures.outcome (sym w.if-is_done_change.true ∙ c.is_done_change.ensures) w.first.ensures
      | else-is_done_change w ↦ w.self-is ∙ performed d now.framework c.control.new.self c.args.self.now c.args.transfer.now came.outcome false now.function now.function
          c.self.invariant.set_is c.self.invariant.parts_are c.self.view_is came.ensures.state (search rules) came.ensures.outcome (sym w.if-is_done_change.false ∙ c.is_done_change.ensures) refl
    ]
