-- Whether a line may stand behind events.
use Rattle.std.specs.Prelude.{◌≡◌, true, List, Option, Some, None}
use Rattle.packet_show.specs.declared.tape.ReplayLine.{ReplayLine}
use Rattle.gate_history.specs.step.Events.{PastEvent}
use Rattle.tape_run.specs.tape.Tape.{event_said, may_happen}

-- the event that a line says, if there is one, may happen behind these
abbrev pub MayCome : List PastEvent → Option PastEvent → Type 0
MayCome events None = Unit {0}
MayCome events (Some e) = may_happen events e ≡ true

abbrev pub MayStand : List PastEvent → Option ReplayLine → Type 0
MayStand events None = Unit {0}
MayStand events (Some line) = MayCome events (event_said line)
