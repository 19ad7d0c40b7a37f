-- What comes straight into the memory of a side's stream: an event like the piece that it is.
use Rattle.std.specs.Prelude.{◌≡◌, ◌<◌, ℕ, List, [], take, Result, Ok, Err}
use Rattle.usb_base.specs.Incoming.{HasCome}
use Rattle.usb_base.specs.declared.memory.Memory.{Memory}
use Rattle.usb_base.specs.declared.side.Side.{Side}
use Rattle.gate_history.specs.declared.note.Note.{Note}
use Rattle.gate_history.specs.step.Events.{PastEvent}
use Rattle.gate_core.specs.state.Kept.{GateKept}
use Rattle.gate_core.specs.step.Stands.{GateStands, GateHasFailed, TakesEvent, StopsInEvent, piece_of}

-- whatever has come: the event was taken, or memory ran out within it, and the gate has failed
abbrev pub TakesOrFails : Result (List Note) Memory → GateKept → GateKept → PastEvent → List ℕ → List ℕ → List ℕ → List ℕ → Type 0
TakesOrFails (Ok notes) old new e client_old client_new host_old host_new =
    (first : ℕ) (past : List PastEvent) → GateStands first old past → TakesEvent first new past e client_old client_new host_old host_new notes
TakesOrFails (Err memory) old new e client_old client_new host_old host_new =
    GateHasFailed new × ((first : ℕ) (past : List PastEvent) → GateStands first old past → StopsInEvent first new past e client_old client_new host_old host_new)

-- so many bytes came of it, and were taken as a piece; where none came nothing has changed
pub record TakesIncoming {I : Type 0} (gives : I → ℕ → List ℕ → I → Type 0) (side : Side) (limit : ℕ) (result : Result (List Note) Memory)
    (old : GateKept) (from : I) (client_old host_old : List ℕ) (new : GateKept) (left : I) (client_new host_new : List ℕ) : Type 0 where
  pub count : ℕ
  pub came : HasCome gives limit count from left
  pub some : 0 < count → TakesOrFails result old new (piece_of side (take count came.room)) client_old client_new host_old host_new
  pub nothing : count ≡ 0 → (result ≡ Ok []) × (new ≡ old) × (client_new ≡ client_old) × (host_new ≡ host_old)
