use Rattle.std.proofs.Common.{rules}
use Rattle.disk_gadget.specs.Descriptors.{described}
use Rattle.disk_gadget.proofs.Turning.{gives-apart, outcome-of_turn, state-of_turn, step_in, step_out, when-ok}
use Rattle.disk_gadget.proofs.disk.DiskGadget.perform.Goals as goal

pub returns-else-is_in-clause-outcome : goal.returns-else-is_in-clause-outcome
unfolding described
returns-else-is_in-clause-outcome c =
    outcome-of_turn c.args.transfer.now _ c.take.result c.self.view_is (step_out _ c.args.transfer.now (search rules) (search rules) (search rules)) c.take.ensures.outcome

pub returns-else-is_in-clause-state : goal.returns-else-is_in-clause-state
unfolding described
returns-else-is_in-clause-state c =
    state-of_turn c.args.transfer.now _ c.take.result c.take.new.device c.take.new.course c.take.new.medium c.self.view_is (step_out _ c.args.transfer.now (search rules) (search rules) (search rules)) c.take.ensures.device c.take.ensures.course c.take.ensures.blocks

pub returns-then-is_in-clause-outcome : goal.returns-then-is_in-clause-outcome
unfolding described
returns-then-is_in-clause-outcome c =
    outcome-of_turn c.args.transfer.now _ c.give.result c.self.view_is (step_in _ c.args.transfer.now (search rules) (search rules) (search rules)) c.give.ensures.outcome

pub returns-then-is_in-clause-state : goal.returns-then-is_in-clause-state
unfolding described
returns-then-is_in-clause-state c =
    let i = c.self.inside in
    let apart = gives-apart i.framework.state i.medium i.course.sense c.args.transfer.now.wanted i.course.stage in
    state-of_turn c.args.transfer.now _ c.give.result i.framework.state c.give.new.course i.medium c.self.view_is (step_in _ c.args.transfer.now (search rules) (search rules) (search rules)) (when-ok c.give.result apart.0) c.give.ensures.course (when-ok c.give.result apart.1)
