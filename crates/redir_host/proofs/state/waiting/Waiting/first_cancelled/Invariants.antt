use Rattle.std.proofs.Common.{◌≡◌}
use Rattle.std.specs.List.{find}
use Rattle.redir_host.specs.inner.Waiting.{is_key_of}
use Rattle.redir_host.specs.state.Queues.{is_cancelled_by}
use Rattle.redir_host.proofs.lemmas.state.Keyed.{Held}
use Rattle.redir_host.proofs.state.waiting.Waiting.first_cancelled.Given as goal

abbrev pub invariant-loop-number : goal.invariant-loop-number
invariant-loop-number l =
    (goal.iterator-loop-number).can_next l.number-iterator ×
    (goal.iterator-loop-number).is_finite l.number-iterator ×
    Held l.self.requests l.number-iterator ×
    (find (is_key_of (is_cancelled_by l.id) l.self.requests) l.self.order.entries ≡ find (is_key_of (is_cancelled_by l.id) l.self.requests) l.number-iterator)
