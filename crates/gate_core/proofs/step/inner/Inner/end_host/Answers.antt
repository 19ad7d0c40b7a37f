use Rattle.std.proofs.Common.{inr, refl, sym, ◌∙◌}
use Rattle.gate_history.specs.step.Events.{HostEnd}
use Rattle.gate_history.specs.declared.item.Item.TheVariants.{HostLeft}
use Rattle.gate_history.specs.state.State.{state_of}
use Rattle.gate_history.specs.step.History.{arrivals, history}
use Rattle.gate_history.proofs.lemmas.state.Sound.{state-sound}
use Rattle.gate_core.proofs.lemmas.step.Event.{err-event}
use Rattle.gate_core.proofs.lemmas.step.Ends.{ends-again, ends-host, stops-end}
use Rattle.gate_core.proofs.step.inner.Inner.end_host.Goals as goal

pub returns-then-is_over : goal.returns-then-is_over
returns-then-is_over c first events stands =
    ends-again first c.args.self.now events c.args.out.now stands (sym c.is_over.ensures ∙ c.if-is_over.true)

pub returns-in_err-take : goal.returns-in_err-take
returns-in_err-take c =
    err-event c.from_residual.result c.args.self.now (record c.args.self.now { translator = c.take.new.self }) HostEnd c.args.out.now c.take.new.out c.from_residual.ensures.0
    (λ first events stands. stops-end first c.args.self.now c.take.new.self events HostEnd c.args.out.now c.take.new.out stands c.in_err-take.ensures.err
    (record {
      comes = sym stands.host.over_is ∙ sym c.is_over.ensures ∙ c.if-is_over.false;
      some = inr (c.in_err-take.ensures.wants (state_of first (history first events)) HostLeft refl stands.translates.state (state-sound first (arrivals events)));
    }))

pub returns : goal.returns
returns c first events stands =
    ends-host first c.args.self.now c.take.new.self c.end.new.self events c.args.out.now c.take.new.out stands
    (sym c.is_over.ensures ∙ c.if-is_over.false) c.in_ok-take.ensures.ok c.end.ensures
