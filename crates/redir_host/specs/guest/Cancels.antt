-- What a cancel takes out of the queues, for the contract of the one who takes it.
use Rattle.std.specs.Prelude.{◌≡◌, ℕ, List, Option, Some, None}
use Rattle.std.specs.List.{find}
use Rattle.redir_host.specs.declared.state.queue.Cancelled.{Cancelled}
use Rattle.redir_host.specs.declared.state.request.Request.{Request}
use Rattle.redir_host.specs.state.Queues.{is_cancelled_by, after_cancel, leaves_mark}

pub record CancelsOne (c : Cancelled) (id : ℕ) (old new : List Request) : Type 0 where
  pub request : find (is_cancelled_by id) old ≡ Some c.request
  pub leaves : c.leaves_mark ≡ leaves_mark id old
  pub rest : new ≡ after_cancel id old

pub record CancelsNone (id : ℕ) (old new : List Request) : Type 0 where
  pub request : find (is_cancelled_by id) old ≡ None
  pub rest : new ≡ old

abbrev pub Cancels : Option Cancelled → ℕ → List Request → List Request → Type 0
Cancels None id old new = CancelsNone id old new
Cancels (Some c) id old new = CancelsOne c id old new
