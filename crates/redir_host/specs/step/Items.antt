-- What comes to a host, one by one: a packet of the guest that has become whole, or a wrong place of its stream, and
-- what is done with the device.
use Rattle.std.specs.Prelude.{ℕ}
use Rattle.usb_base.specs.declared.reason.Reason.{Reason}
use Rattle.redir_data.specs.declared.packet.RedirPacket.{RedirPacket}

pub data Item : Type 0 where
  Asked : (id : ℕ) → (packet : RedirPacket) → Item
  Wrong : (place : ℕ) → (reason : Reason) → Item
  Performs : (ep : ℕ) → Item
  Offers : (ep : ℕ) → Item
  Unplugs : Item
