-- What a device does, as plain data over its states.
use Rattle.std.specs.Prelude.{ℕ, Option, Some, None}
use Rattle.usb_base.specs.declared.endpoint.EpTable.{EpTable}
use Rattle.usb_base.specs.declared.transfer.Transfer.{Transfer}
use Rattle.usb_base.specs.declared.transfer.Outcome.{Outcome}
use Rattle.usb_base.specs.declared.transfer.StreamPacket.{StreamPacket}
use Rattle.redir_wire.specs.declared.packet.Connect.{Connect}
use Rattle.redir_wire.specs.declared.packet.InterfaceInfo.{InterfaceInfo}

pub record Meaning (S : Type 0) : Type 0 where
  -- what it tells of itself as it is plugged in
  pub identity : Connect
  -- the configuration that is set, the interfaces and the endpoints
  pub configuration : S → ℕ
  pub interfaces : S → InterfaceInfo
  pub table : S → EpTable
  -- a transfer: the state after it and what came of it, or none where the device isn't ready for it yet
  pub perform : S → Transfer → Option (S × Outcome)
  -- a packet that an IN endpoint sends by itself: the state after it and the packet, or none where it has none
  pub offer : S → ℕ → Option (S × StreamPacket)

-- what came of a transfer or an offer, if anything did
abbrev pub given_in : {S A : Type 0} → Option (S × A) → Option A
given_in None = None
given_in (Some r) = Some r.1

-- the state after it: nothing has changed where nothing came
abbrev pub state_in : {S A : Type 0} → S → Option (S × A) → S
state_in s None = s
state_in s (Some r) = r.0
