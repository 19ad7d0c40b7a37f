-- That what a host sends can be read by its guest.
use Rattle.std.specs.Prelude.{◌≡◌, ℕ, Bool, true, false, List, []}
use Rattle.std.specs.List.{AllByRecursion}
use Rattle.redir_wire.specs.declared.packet.RedirControl.{RedirControl}
use Rattle.redir_wire.specs.declared.packet.RedirControl.TheVariants as plain
use Rattle.redir_wire.specs.declared.packet.Way.TheVariants.{ToGuest}
use Rattle.redir_wire.specs.declared.state.RedirState.{RedirState}
use Rattle.redir_wire.specs.Ranges.{Ranges}
use Rattle.redir_data.specs.declared.packet.RedirPacket.{RedirPacket}
use Rattle.redir_data.specs.declared.packet.RedirPacket.TheVariants.{Plain, Carrying}
use Rattle.redir_data.specs.Sent.{CanBeRead}
use Rattle.redir_data.specs.Streams.{advanced}
use Rattle.model_device.specs.Meaning.{Meaning}
use Rattle.redir_host.specs.declared.state.host.Host.{Host}
use Rattle.redir_host.specs.guest.Packets.{greets}

-- all that was sent can be read with the capabilities that are agreed; before the guest's hello nothing was
pub record AreRead (guest : RedirState) (sent : List (ℕ × RedirPacket)) : Type 0 where
  pub none : guest.first ≡ true → sent ≡ []
  pub read : AllByRecursion (CanBeRead ToGuest guest.caps) sent

-- ---- what isn't known but of a device that runs: its facts fit the fields of their packets

-- the fields of a packet that moves no data; those of one that moves some follow from its request
abbrev pub InRange : ℕ × RedirPacket → Type 0
InRange (id, Plain p) = Ranges p
InRange (id, Carrying d) = Unit {0}

-- the device is told of where this is the hello
abbrev pub GreetsInRange : {S : Type 0} → Meaning S → Host S → RedirControl → Type 0
GreetsInRange m h (plain.Hello x) = AllByRecursion InRange (greets m h).sent
GreetsInRange m h _ = Unit {0}

abbrev pub AnswersInRange : {S : Type 0} → Meaning S → Host S → RedirPacket → Type 0
AnswersInRange m h (Plain p) = GreetsInRange m h p
AnswersInRange m h (Carrying d) = Unit {0}

abbrev pub Unless : Bool → Type 0 → Type 0
Unless true P = Unit {0}
Unless false P = P

-- an unplugged host tells nothing
abbrev pub TakesInRange : {S : Type 0} → Meaning S → Host S → RedirPacket → Type 0
TakesInRange m h p = Unless h.unplugged (AnswersInRange m (record h { guest = advanced h.guest p }) p)
