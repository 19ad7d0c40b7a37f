-- What a gate makes of an event.
use Rattle.std.specs.Prelude.{ℕ, List, Result, Ok, Err}
use Rattle.gate_history.specs.declared.note.Note.{Note}
use Rattle.gate_history.specs.step.Events.{PastEvent}
use Rattle.gate_core.specs.state.Kept.{GateKept}
use Rattle.gate_core.specs.step.Stands.{TakesEvent, StopsInEvent}

-- it has taken it, and these are its notes, or memory ran out within it
abbrev pub GateTakes : {E : Type 0} → Result (List Note) E → ℕ → GateKept → List PastEvent → PastEvent → List ℕ → List ℕ → List ℕ → List ℕ → Type 0
GateTakes (Ok notes) first new events e client_old client_new host_old host_new = TakesEvent first new events e client_old client_new host_old host_new notes
GateTakes (Err _) first new events e client_old client_new host_old host_new = StopsInEvent first new events e client_old client_new host_old host_new
