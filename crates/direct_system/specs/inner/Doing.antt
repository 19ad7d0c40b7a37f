-- What an event of the gateway and an act of the host make of a system.
use Rattle.std.specs.Prelude.{◌≡◌, List, ◌∷◌, ◌++◌}
use Rattle.std.specs.List.{flat_map}
use Rattle.gate_history.specs.step.Events.{PastEvent}
use Rattle.gate_history.specs.write.Notes.{notes_of}
use Rattle.gate_core.specs.step.Stands.{GateStands}
use Rattle.model_device.specs.Meaning.{Meaning}
use Rattle.redir_host.specs.step.Acts.{Act}
use Rattle.redir_host.specs.step.Stands.{HostStands}
use Rattle.redir_host.specs.write.Output.{act_bytes}
use Rattle.direct_run.specs.declared.told.Told.{Told}
use Rattle.direct_system.specs.Kept.{SystemKept}
use Rattle.direct_run.specs.World.{first_id}
use Rattle.direct_run.specs.Noted.{named}
use Rattle.direct_run.specs.Trace.{given_of, untold, told_of_event, act_items}

-- the gateway has taken the event, and what it sent to the host is on the wire
pub record DoesEvent {S : Type 0} (old new : SystemKept S) (events : List PastEvent) (e : PastEvent) (told : Told) : Type 0 where
  pub gate : GateStands first_id new.gate (e ∷ events)
  pub told-is : told ≡ told_of_event events e
  pub new-is : new ≡ record old { gate = new.gate; to_host = old.to_host ++ told.to_host; trace = old.trace ++ told.items; submits = old.submits ++ flat_map named (given_of notes_of events e) }

-- the host has done the act, and what it sent is on the wire
pub record DoesAct {S : Type 0} (m : Meaning S) (s : S) (old new : SystemKept S) (acts : List Act) (a : Act) (told : Told) : Type 0 where
  pub host : HostStands m s new.host (a ∷ acts)
  pub told-is : told ≡ record untold { from_host = act_bytes m s acts a; items = act_items m s acts old.submits a }
  pub new-is : new ≡ record old { host = new.host; to_gate = old.to_gate ++ told.from_host; trace = old.trace ++ told.items }
