-- What a command over events keeps of its tape.
use Rattle.std.specs.Prelude.{◌≡◌, List}
use Rattle.gate_history.specs.step.Events.{PastEvent}
use Rattle.tape_run.specs.declared.tape.events.EventTape.{EventTape}
use Rattle.tape_run.specs.tape.Tape.{host_ended}
use Rattle.tape_run.specs.tape.EventCommand.{EventCommand}

-- it is this command over events, which has seen these
pub record HasEvents {E : Type 0} (HasSeen : EventCommand → E → List PastEvent → Type 0) (command : EventCommand) (t : EventTape E) (events : List PastEvent) : Type 0 where
  pub seen : HasSeen command t.command events
  pub host_ended-is : t.host_ended ≡ host_ended events
