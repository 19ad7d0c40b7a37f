-- What the taker of a guest's packets makes of the host and the lists that it borrows.
use Rattle.std.specs.Prelude.{◌≡◌, ℕ, Result}
use Rattle.usb_base.specs.declared.memory.Memory.{Memory}
use Rattle.usb_base.specs.declared.reason.Reason.{Reason}
use Rattle.redir_wire.specs.declared.packet.Header.{Header}
use Rattle.redir_data.specs.declared.packet.RedirPacket.{RedirPacket}
use Rattle.model_device.specs.Meaning.{Meaning}
use Rattle.redir_host.specs.declared.step.taker.GuestTaker.{GuestTaker}
use Rattle.redir_host.specs.guest.Takings.{TakesFound}

-- it borrows the same
pub record Borrows {S : Type 0} (old new : GuestTaker S) : Type 0 where
  pub host : new.host.ghost_name ≡ old.host.ghost_name
  pub out : new.out.ghost_name ≡ old.out.ghost_name
  pub notes : new.notes.ghost_name ≡ old.notes.ghost_name

abbrev pub TakerTakes : {S : Type 0} → Meaning S → ℕ → Result (Header × RedirPacket) Reason → Result (Unit {0}) Memory → GuestTaker S → GuestTaker S → Type 0
TakerTakes m place found result old new = Borrows old new × TakesFound m place found result old.host.now new.host.now old.out.now new.out.now old.notes.now new.notes.now
