use Rattle.std.proofs.Common.{inr, refl}
use Rattle.gate_history.specs.step.Events.{ClientEnd}
use Rattle.gate_history.specs.declared.item.Item.TheVariants.{ClientLeft}
use Rattle.gate_history.specs.state.State.{state_of}
use Rattle.gate_history.specs.step.History.{arrivals, history}
use Rattle.gate_history.proofs.lemmas.state.Sound.{state-sound}
use Rattle.gate_core.proofs.lemmas.step.Event.{err-event}
use Rattle.gate_core.proofs.lemmas.step.Ends.{ends-client, stops-end}
use Rattle.gate_core.proofs.step.inner.Inner.change_client.Goals as goal

pub returns-in_err-take : goal.returns-in_err-take
returns-in_err-take c =
    err-event c.from_residual.result c.args.self.now (record c.args.self.now { translator = c.take.new.self }) ClientEnd c.args.out.now c.take.new.out c.from_residual.ensures.0
    (λ first events stands. stops-end first c.args.self.now c.take.new.self events ClientEnd c.args.out.now c.take.new.out stands c.in_err-take.ensures.err
    (record { comes = refl; some = inr (c.in_err-take.ensures.wants (state_of first (history first events)) ClientLeft refl stands.translates.state (state-sound first (arrivals events))) }))

pub returns : goal.returns
returns c first events stands =
    ends-client first c.args.self.now c.take.new.self c.new.result events c.args.out.now c.take.new.out stands c.in_ok-take.ensures.ok c.new.ensures.kept
