-- What the gate's own steps do.
use Rattle.std.specs.Prelude.{◌≡◌, ◌<◌, ◌∷◌, ℕ, List, take, is_some, Some, Result, Ok, Err}
use Rattle.usb_base.specs.Incoming.{HasCome}
use Rattle.usb_base.specs.declared.memory.Memory.{Memory}
use Rattle.redir_wire.specs.declared.packet.Header.{Header}
use Rattle.redir_data.specs.declared.packet.RedirPacket.{RedirPacket}
use Rattle.gate_history.specs.declared.item.Item.{Item}
use Rattle.gate_history.specs.declared.note.Note.{Note}
use Rattle.gate_history.specs.declared.item.Item.TheVariants.{Told}
use Rattle.gate_parts.specs.declared.write.outputs.Outputs.{Outputs}
use Rattle.gate_core.specs.declared.step.inner.Inner.{Inner}
use Rattle.gate_history.specs.step.Events.{PastEvent}
use Rattle.gate_history.specs.step.Past.{past}
use Rattle.gate_history.specs.step.History.{arrivals}
use Rattle.gate_history.specs.write.Notes.{notes_of}
use Rattle.gate_history.specs.write.All.{all_of}
use Rattle.gate_history.specs.write.Bytes.{out_client, out_host}
use Rattle.gate_core.specs.state.Kept.{GateKept}
use Rattle.gate_core.specs.step.Stands.{GateStands, StopsInEvent}
use Rattle.gate_history.specs.Headline.{Gains}

-- what the gate keeps, without its streams' allocator
abbrev pub kept_of : Inner → GateKept
kept_of g = record { items = g.translator; client = g.client; host = g.host; failed = is_some g.want }

abbrev pub told_item : ℕ → Header × RedirPacket → Item
told_item place p = Told place p.0 p.1

-- ---- an event

-- from these items to those this was sent and told
pub record SendsItems (first : ℕ) (out_old out_new : Outputs) (h k : List Item) : Type 0 where
  pub client : Gains out_old.to_client out_new.to_client (out_client first (past first h)) (out_client first (past first k))
  pub host : Gains out_old.to_host out_new.to_host (out_host first (past first h)) (out_host first (past first k))
  pub told : Gains out_old.notes out_new.notes (all_of notes_of first (past first h)) (all_of notes_of first (past first k))

pub record TakesOn (first : ℕ) (new : Inner) (events : List PastEvent) (e : PastEvent) (out_old out_new : Outputs) : Type 0 where
  pub stands : GateStands first (kept_of new) (e ∷ events)
  pub sends : SendsItems first out_old out_new (arrivals events) (arrivals (e ∷ events))

-- whatever has come: the event was taken, or memory ran out
abbrev pub TakesOrStops : Result (Unit {0}) Memory → Inner → Inner → PastEvent → Outputs → Outputs → Type 0
TakesOrStops (Ok v) old new e out_old out_new =
    (first : ℕ) (events : List PastEvent) → GateStands first (kept_of old) events → TakesOn first new events e out_old out_new
TakesOrStops (Err memory) old new e out_old out_new =
    (first : ℕ) (events : List PastEvent) → GateStands first (kept_of old) events → StopsInEvent first (kept_of new) events e out_old.to_client out_new.to_client out_old.to_host out_new.to_host

-- what came straight into a side's stream was taken as this piece, or memory ran out; where nothing came nothing has
-- changed
pub record TakesFrom {I : Type 0} (piece : List ℕ → PastEvent) (gives : I → ℕ → List ℕ → I → Type 0) (limit : ℕ) (result : Result (Unit {0}) Memory)
    (old : Inner) (from : I) (out_old : Outputs) (new : Inner) (left : I) (out_new : Outputs) : Type 0 where
  pub count : ℕ
  pub came : HasCome gives limit count from left
  pub some : 0 < count → TakesOrStops result old new (piece (take count came.room)) out_old out_new
  pub nothing : count ≡ 0 → (result ≡ Ok tt) × (new ≡ old) × (out_new ≡ out_old)

-- what is told of it, and the gate behind it: that memory ran out is kept
abbrev pub told : Result (Unit {0}) Memory → List Note → Result (List Note) Memory
told (Ok v) notes = Ok notes
told (Err memory) notes = Err memory

abbrev pub left_by : Result (Unit {0}) Memory → Inner → Inner
left_by (Ok v) g = g
left_by (Err memory) g = record g { want = Some memory }
