-- When a system stands for steps, and what one step more makes of it.
use Rattle.std.specs.Prelude.{◌≡◌, ◌≤◌, true, false, List, ◌∷◌, length}
use Rattle.gate_history.specs.step.Events.{host_bytes}
use Rattle.gate_core.specs.step.Stands.{GateStands}
use Rattle.model_device.specs.Meaning.{Meaning}
use Rattle.redir_host.specs.step.Acts.{guest_bytes}
use Rattle.redir_host.specs.step.Stands.{HostStands}
use Rattle.direct_run.specs.declared.told.Told.{Told}
use Rattle.direct_system.specs.Kept.{SystemKept}
use Rattle.direct_run.specs.Known.{IsKnown}
use Rattle.direct_run.specs.Steps.{PastStep}
use Rattle.direct_run.specs.World.{Course, first_id, sent_to_host, sent_to_gate, wire_to_host, wire_to_gate, course}
use Rattle.direct_run.specs.Trace.{submits_of, told_by, trace}

-- memory ran out in an earlier step: from then on it does nothing
abbrev pub SystemHasFailed : {S : Type 0} → SystemKept S → Type 0
SystemHasFailed k = k.failed ≡ true

-- the gateway, the host and the wires are those of this course
pub record SystemRuns {S : Type 0} (m : Meaning S) (s : S) (k : SystemKept S) (c : Course) : Type 0 where
  pub gate : GateStands first_id k.gate c.events
  pub host : HostStands m s k.host c.acts
  pub to_host : k.to_host ≡ wire_to_host c
  pub to_gate : k.to_gate ≡ wire_to_gate m s c
  -- neither has got more than was sent to it
  pub host_had : length (guest_bytes c.acts) ≤ length (sent_to_host c)
  pub gate_had : length (host_bytes c.events) ≤ length (sent_to_gate m s c)
  pub submits : k.submits ≡ submits_of c.events

-- the system works, and stands for these steps, whose device began in state s
pub record SystemStands {S : Type 0} (m : Meaning S) (s : S) (k : SystemKept S) (steps : List PastStep) : Type 0 where
  pub works : k.failed ≡ false
  pub runs : SystemRuns m s k (course m s steps)
  pub known : IsKnown m s (course m s steps)
  pub trace-is : k.trace ≡ trace m s steps

-- it stands for the step too, and told what that sends and tells
pub record TakesStep {S : Type 0} (m : Meaning S) (s : S) (new : SystemKept S) (steps : List PastStep) (x : PastStep) (told : Told) : Type 0 where
  pub stands : SystemStands m s new (x ∷ steps)
  pub told-is : told ≡ told_by m s (course m s steps) x
