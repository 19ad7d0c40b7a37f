use Rattle.std.proofs.Common.{ap, ◌∙◌, ◌++◌, ℕ, List}
use Rattle.std.proofs.lemmas.Result.{on_ok_weaker}
use Rattle.gate_history.specs.step.Events.{event_of}
use Rattle.direct_system.specs.inner.Views.{kept_of}
use Rattle.direct_system.proofs.Running.{event-told}
use Rattle.direct_system.proofs.inner.Inner.event.Goals as goal

pub returns : goal.returns
returns g c = on_ok_weaker c.tell.result (λ t past stands.
    event-told (kept_of c.args.self.now) (kept_of c.tell.new.self) c.take.new.self past (event_of c.args.event) c.take.new.to_client c.take.new.to_host c.append.new.self c.args.told.now c.tell.new.told c.in_ok-notes.notes
    (c.in_ok-notes.ensures.takes 1 past stands) c.requires
    (c.in_ok-append.ensures.ok ∙ ap (λ (b : List ℕ). c.args.self.now.to_host ++ b) c.as_slice.ensures) t.0 (ap kept_of t.1)) c.tell.ensures
