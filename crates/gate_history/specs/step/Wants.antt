-- What memory is wanted for: to hold a piece, to read a packet, and for what an item sends and tells. An event ends for
-- want of it only where there is something of these.
use Rattle.std.specs.Prelude.{◌≡◌, ◌⊎◌, ◌<◌, ◌+◌, ℕ, Bool, true, false, List, [], ◌∷◌, length}
use Rattle.usbip_urb.specs.ClientPackets.{takes_memory as asked_takes_memory}
use Rattle.redir_data.specs.Packets.{takes_memory as told_takes_memory}
use Rattle.gate_history.specs.step.Events.{PastEvent, ClientPiece, ClientEnd, HostPiece, HostEnd}
use Rattle.gate_history.specs.declared.item.Item.{Item}
use Rattle.gate_history.specs.declared.item.Item.TheVariants.{Asked, Told}
use Rattle.gate_history.specs.step.Marks.{Mark}
use Rattle.gate_history.specs.state.Sides.{client_over, host_over}
use Rattle.gate_history.specs.state.State.{State, state_of}
use Rattle.gate_history.specs.step.Meaning.{mark_of}
use Rattle.gate_history.specs.step.Past.{is_left_out, past}
use Rattle.gate_history.specs.step.History.{history}
use Rattle.gate_history.specs.write.Output.{to_client, to_host}
use Rattle.gate_history.specs.write.Notes.{notes_of}

-- a packet that takes memory where it is read
abbrev pub takes_memory : Item → Bool
takes_memory (Asked place packet) = asked_takes_memory packet
takes_memory (Told place header packet) = told_takes_memory (header, packet)
takes_memory _ = false

-- how many packets it sends and notes it tells
abbrev pub count_given : State → Mark → ℕ
count_given st m = length (to_client st m) + length (to_host st m) + length (notes_of st m)

-- there are some
abbrev pub GivesSome : State → Mark → Type 0
GivesSome st m = 0 < count_given st m

-- behind these items it isn't left out, and it is read with memory, or sends or tells something
pub record Wants (first : ℕ) (before : List Item) (x : Item) : Type 0 where
  pub comes : is_left_out (state_of first (past first before)) x ≡ false
  pub some : (takes_memory x ≡ true) ⊎ GivesSome (state_of first (past first before)) (mark_of (state_of first (past first before)) x)

-- so does the first of these
abbrev pub FirstWants : ℕ → List Item → List Item → Type 0
FirstWants first before [] = ⊥
FirstWants first before (x ∷ xs) = Wants first before x

-- behind these events a piece has bytes, and its side isn't over
abbrev pub IsHeld : ℕ → List PastEvent → PastEvent → Type 0
IsHeld first events (ClientPiece b) = (0 < length b) × (client_over (history first events) ≡ false)
IsHeld first events (HostPiece b) = (0 < length b) × (host_over (history first events) ≡ false)
IsHeld first events _ = ⊥
