use Rattle.std.proofs.Common.{◌≡◌, filter, length}
use Rattle.usb_base.specs.declared.endpoint.TheConstants.{ENDPOINTS}
use Rattle.redir_host.proofs.lemmas.state.Flushed.{is_there}
use Rattle.redir_host.proofs.lemmas.state.Places.{Upto}
use Rattle.redir_host.proofs.state.waiting.retain_keys.Given as goal

abbrev pub invariant-loop-queue : goal.invariant-loop-queue
invariant-loop-queue l = (length l.queue-items ≡ ENDPOINTS) × Upto (filter (is_there l.requests)) l.queue-index l.fn.queues l.queue-items
