-- What memory is wanted for: to hold a piece of the guest's bytes, to read a packet, and for what an item sends, tells
-- and keeps. An act ends for want of it only where there is something of these.
use Rattle.std.specs.Prelude.{◌≡◌, ◌⊎◌, ◌<◌, ◌+◌, ◌-◌, Bool, true, false, List, length, None, slice_get, IsSomeAnd}
use Rattle.redir_wire.specs.Plain.{takes_memory as plain_takes_memory}
use Rattle.redir_data.specs.Carrying.{has_data}
use Rattle.redir_data.specs.declared.packet.RedirPacket.TheVariants.{Plain, Carrying}
use Rattle.model_device.specs.Meaning.{Meaning}
use Rattle.redir_host.specs.declared.state.host.Host.{Host}
use Rattle.redir_host.specs.guest.Guest.{guest_split}
use Rattle.redir_host.specs.step.Acts.{Act, Piece, guest_bytes}
use Rattle.redir_host.specs.step.Items.{Item, Asked}
use Rattle.redir_host.specs.step.Machine.{move}
use Rattle.redir_host.specs.step.Moves.{Move}

-- a packet that takes memory where it is read
abbrev pub takes_memory : Item → Bool
takes_memory (Asked id (Plain packet)) = plain_takes_memory packet
takes_memory (Asked id (Carrying packet)) = has_data packet
takes_memory _ = false

-- it sends packets, tells notes, or keeps requests more
abbrev pub GivesSome : {S : Type 0} → Host S → Move S → Type 0
GivesSome h v = 0 < length v.sent + length v.notes + (length v.host.queue - length h.queue)

abbrev pub HostWants : {S : Type 0} → Meaning S → Host S → Item → Type 0
HostWants m h x = (takes_memory x ≡ true) ⊎ GivesSome h (move m h x)

-- so does the first of these
abbrev pub FirstWants : {S : Type 0} → Meaning S → Host S → List Item → Type 0
FirstWants m h xs = IsSomeAnd (slice_get xs 0) (HostWants m h)

-- behind these acts a piece has bytes, and the guest's stream has met no wrong place
abbrev pub IsHeld : List Act → Act → Type 0
IsHeld acts (Piece b) = (0 < length b) × ((guest_split (guest_bytes acts)).wrong ≡ None)
IsHeld acts _ = ⊥
