-- A cut: what a request gets of the packets that are held, and which of them are left.
use Rattle.std.specs.Prelude.{List}
use Rattle.usb_base.specs.declared.transfer.StreamPacket.{StreamPacket}

pub record Cut (A : Type 0) : Type 0 where
  pub gives : A
  pub leaves : List StreamPacket
