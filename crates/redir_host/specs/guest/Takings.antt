-- What a host makes of what its guest's stream gives: a packet, or its wrong place.
use Rattle.std.specs.Prelude.{◌≡◌, ℕ, List, Result, Ok, Err}
use Rattle.usb_base.specs.declared.memory.Memory.{Memory}
use Rattle.usb_base.specs.declared.reason.Reason.{Reason}
use Rattle.redir_wire.specs.declared.packet.Header.{Header}
use Rattle.redir_data.specs.declared.packet.RedirPacket.{RedirPacket}
use Rattle.model_device.specs.Meaning.{Meaning}
use Rattle.redir_host.specs.declared.state.host.Host.{Host}
use Rattle.redir_host.specs.declared.write.note.HostNote.{HostNote}
use Rattle.redir_host.specs.step.Items.{Item, Asked, Wrong}
use Rattle.redir_host.specs.step.Machine.{move}
use Rattle.redir_host.specs.step.Makes.{TakesMove}
use Rattle.redir_host.specs.step.Wants.{GivesSome}
use Rattle.redir_host.specs.write.Readable.{TakesInRange}

abbrev pub item_of : ℕ → Result (Header × RedirPacket) Reason → Item
item_of place (Ok p) = Asked p.0.id p.1
item_of place (Err reason) = Wrong place reason

abbrev pub IsInRange : {S : Type 0} → Meaning S → Host S → Result (Header × RedirPacket) Reason → Type 0
IsInRange m h (Ok p) = TakesInRange m h p.1
IsInRange m h (Err reason) = Unit {0}

-- it is taken, or memory was wanted for it and it has sent nothing
abbrev pub TakesFound : {S : Type 0} → Meaning S → ℕ → Result (Header × RedirPacket) Reason → Result (Unit {0}) Memory → Host S → Host S → List ℕ → List ℕ → List HostNote → List HostNote → Type 0
TakesFound m place found (Ok v) old new old_out new_out old_notes new_notes = TakesMove (move m old (item_of place found)) new old_out new_out old_notes new_notes × IsInRange m old found
TakesFound m place found (Err memory) old new old_out new_out old_notes new_notes = (new_out ≡ old_out) × GivesSome old (move m old (item_of place found))
