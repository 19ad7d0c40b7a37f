use Rattle.std.proofs.Common.{◌≡◌, ◌++◌}
use Rattle.std.specs.List.{AllByRecursion as Each}
use Rattle.usb_base.specs.Writes.{Begins}
use Rattle.redir_wire.specs.State.{wide_ids}
use Rattle.redir_wire.specs.Header.{IdFits}
use Rattle.redir_host.specs.step.Makes.{flushed_bytes}
use Rattle.redir_host.proofs.write.answer.write_flushed.Given as goal

abbrev pub invariant-loop-request : goal.invariant-loop-request
invariant-loop-request l =
    (goal.iterator-loop-request).can_next l.request-iterator ×
    (goal.iterator-loop-request).is_finite l.request-iterator ×
    Begins l.initial.out l.out ×
    Each (λ q. IdFits (wide_ids l.caps) q.id) l.request-iterator ×
    (l.out ++ flushed_bytes l.caps l.route l.table l.request-iterator ≡ l.initial.out ++ flushed_bytes l.caps l.route l.table l.queue)
