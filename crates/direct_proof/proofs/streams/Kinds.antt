-- Moves of streams: submits that wait for packets of one, changes with the stops of those that they end, starts and
-- stops that the host reads, packets and statuses that the gateway reads, and offers.
use Rattle.std.specs.Prelude.{◌≡◌, ℕ, true, false, List, [], ◌∷◌, is_some}
use Rattle.usb_base.specs.Endpoint.{is_in_endpoint}
use Rattle.usbip_urb.specs.declared.client.ClientPacket.TheVariants.{Urb}
use Rattle.usbip_urb.specs.ClientPackets.{IsClientPacket}
use Rattle.usbip_urb.specs.declared.packet.Submit.{Submit as UrbSubmit}
use Rattle.usbip_urb.specs.declared.packet.UrbPacket.TheVariants as urb
use Rattle.redir_wire.specs.declared.packet.RedirControl.TheVariants as plain
use Rattle.redir_data.specs.declared.packet.RedirData.TheVariants as moving
use Rattle.redir_data.specs.declared.packet.RedirPacket.{RedirPacket}
use Rattle.redir_data.specs.declared.packet.RedirPacket.TheVariants.{Plain, Carrying}
use Rattle.control_route.specs.Changes.{is_change}
use Rattle.gate_history.specs.declared.item.Item.TheVariants.{Asked}
use Rattle.gate_history.specs.step.Meaning.{verdict_of}
use Rattle.gate_history.specs.client.Requests.{request_of}
use Rattle.gate_history.specs.state.State.{State, has_number}
use Rattle.gate_history.specs.declared.verdict.Verdict.{Verdict}
use Rattle.gate_history.specs.declared.verdict.Verdict.TheVariants.{Routed, Stream}
use Rattle.direct_run.specs.Moves.{World, Move, ByClient, HostReads, GateReads, Offers}
use Rattle.direct_proof.specs.Running.{stream_endpoint}

-- it waits for packets of a stream, which goes up where it is down, or it is a change, ahead of which the streams that
-- it ends are stopped
abbrev pub MovesStreams : Verdict → Type 0
MovesStreams (Stream row) = Unit {0}
MovesStreams (Routed x) = is_change x ≡ true
MovesStreams _ = ⊥

pub record IsStreamSubmit (st : State) (s : UrbSubmit) : Type 0 where
  -- as it was read
  pub read : IsClientPacket (Urb (urb.Submit s))
  pub new : has_number st s.head.seqnum ≡ false
  pub verdict : Verdict
  pub verdict-is : verdict_of st (request_of s) ≡ verdict
  pub moves : MovesStreams verdict

-- the next packet starts or stops a stream
abbrev pub HearsSwitch : List (ℕ × RedirPacket) → Type 0
HearsSwitch [] = Unit {0}
HearsSwitch (p ∷ ps) = is_some (stream_endpoint p.1) ≡ true

-- it is a packet of a stream, or its status
abbrev pub IsStreamPacket : RedirPacket → Type 0
IsStreamPacket (Plain (plain.IsoStatus status ep)) = Unit {0}
IsStreamPacket (Plain (plain.InterruptStatus status ep)) = Unit {0}
IsStreamPacket (Plain _) = ⊥
IsStreamPacket (Carrying (moving.Iso ep status told body)) = Unit {0}
IsStreamPacket (Carrying (moving.Interrupt ep status told body)) = is_in_endpoint ep ≡ true
IsStreamPacket (Carrying _) = ⊥

abbrev pub ReadsStream : List (ℕ × RedirPacket) → Type 0
ReadsStream [] = Unit {0}
ReadsStream (p ∷ ps) = IsStreamPacket p.1

abbrev pub IsStreamMove : {S : Type 0} → World S → Move → Type 0
IsStreamMove w (ByClient (Asked place (Urb (urb.Submit s)))) = (w.gate.sides.imported ≡ true) × IsStreamSubmit w.gate s
IsStreamMove w HostReads = HearsSwitch w.to_host
IsStreamMove w (GateReads place) = ReadsStream w.to_gate
IsStreamMove w (Offers ep) = Unit {0}
IsStreamMove w _ = ⊥
