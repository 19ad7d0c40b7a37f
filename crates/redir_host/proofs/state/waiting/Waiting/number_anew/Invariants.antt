use Rattle.std.proofs.Common.{◌≡◌, ◌+◌, ◌<◌, ◌^◌, ◌++◌, length}
use Rattle.std.specs.Map.{values_of}
use Rattle.redir_host.specs.inner.Requests.{requests_of}
use Rattle.redir_host.specs.inner.Waiting.{Differ, IsIndexed, numbered}
use Rattle.redir_host.proofs.lemmas.state.Keyed.{Held}
use Rattle.redir_host.proofs.state.waiting.Waiting.number_anew.Given as goal

abbrev pub invariant-loop-key : goal.invariant-loop-key
invariant-loop-key l =
    (goal.iterator-loop-key).can_next l.key-iterator ×
    (goal.iterator-loop-key).is_finite l.key-iterator ×
    IsIndexed l.self × (l.self.next + length l.key-iterator < 2 ^ 63) × Held l.requests l.key-iterator × Differ l.key-iterator ×
    (values_of (numbered l.self) ++ values_of (requests_of l.requests l.key-iterator) ≡ values_of (numbered l.fn.self))
