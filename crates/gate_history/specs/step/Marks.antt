-- What an item means where it stands. Lists of marks have the latest first.
use Rattle.std.specs.Prelude.{ℕ, List, Option}
use Rattle.usb_base.specs.declared.side.Side.{Side}
use Rattle.usb_base.specs.declared.refusal.Refusal.{Refusal}
use Rattle.usb_base.specs.declared.status.UsbStatus.{UsbStatus}
use Rattle.usb_base.specs.declared.endpoint.EpTable.{EpTable}
use Rattle.usb_base.specs.declared.transfer.Outcome.{Outcome}
use Rattle.usbip_op.specs.declared.packet.OpPacket.{OpPacket}
use Rattle.redir_wire.specs.declared.packet.Caps.{Caps}
use Rattle.redir_wire.specs.declared.packet.Connect.{Connect}
use Rattle.redir_wire.specs.declared.packet.InterfaceInfo.{InterfaceInfo}
use Rattle.gate_history.specs.declared.request.Request.{Request}
use Rattle.gate_history.specs.declared.verdict.Verdict.{Verdict}
use Rattle.gate_history.specs.host.Fillings.{Fill}

-- an accepted submit. Its place, the number of marks before its own, names it: numbers and ids come again
pub record Submission : Type 0 where
  pub place : ℕ
  pub request : Request
  pub verdict : Verdict
  -- of the last packet that it sends to the host, where its answer has that; else 0
  pub id : ℕ

-- what the host tells of its device
pub data Fact : Type 0 where
  Connected : Connect → Fact
  Interfaces : InterfaceInfo → Fact
  Endpoints : EpTable → Fact
  Configuration : ℕ → Fact

-- what an item does to the requests and the sides
pub data Effect : Type 0 where
  Idle : Effect
  -- it is answered by this list, or by this failed import
  Replies : OpPacket → Effect
  -- the client imports the device, and gets this reply
  Imports : OpPacket → Effect
  -- a submit is accepted
  Opens : Submission → Effect
  -- a submit is accepted that waits for a stream's packets; those that are held may fill it, and others before it
  Waits : Submission → Fill → Effect
  -- the submit `target` is asked back
  Unlinks : (by target : ℕ) → Effect
  -- the host's hello: these capabilities are agreed
  Agrees : Caps → Effect
  -- the host answers the request that has this id
  Answers : (id : ℕ) → Outcome → Effect
  -- a packet comes from this endpoint, whose stream is up, and may fill requests that wait
  Arrives : (ep : ℕ) → Fill → Effect
  -- the host tells of the stream of an endpoint, by the id of what started or stopped it
  StreamTold : (id ep : ℕ) → UsbStatus → Effect
  -- the device is gone: the packet with this id tells so, and is acknowledged where that is agreed
  Disconnects : (id : ℕ) → Effect
  -- a side ends
  Ends : Side → Effect
  -- a side is refused
  Refuses : Refusal → Effect

pub record Mark : Type 0 where
  pub what : Effect
  pub told : Option Fact
  -- the ids of the packets that it sends to the host, in order, but for those that take none of their own
  pub drawn : List ℕ
