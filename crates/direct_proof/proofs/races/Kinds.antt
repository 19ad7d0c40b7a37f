-- Moves of schedules in which submits, unlinks and changes race with what the device does, with its end and with
-- clients that come and go. No stream goes up or down, and none is up where a client leaves.
use Rattle.std.specs.Prelude.{◌≡◌, ℕ, true, false, List, [], ◌∷◌, Option, Some, None, is_some}
use Rattle.std.specs.List.{AllByRecursion as Each}
use Rattle.usb_base.specs.Endpoint.{is_in_endpoint}
use Rattle.usbip_op.specs.declared.packet.OpPacket.TheVariants as op
use Rattle.usbip_urb.specs.ClientPackets.{IsClientPacket}
use Rattle.usbip_urb.specs.declared.client.ClientPacket.TheVariants.{Op, Urb}
use Rattle.usbip_urb.specs.declared.packet.Submit.{Submit as UrbSubmit}
use Rattle.usbip_urb.specs.declared.packet.UrbPacket.TheVariants as urb
use Rattle.redir_wire.specs.declared.packet.RedirControl.TheVariants as plain
use Rattle.redir_data.specs.declared.packet.RedirData.TheVariants as moving
use Rattle.redir_data.specs.declared.packet.RedirPacket.{RedirPacket}
use Rattle.redir_data.specs.declared.packet.RedirPacket.TheVariants.{Plain, Carrying}
use Rattle.control_route.specs.declared.route.Route.{Route}
use Rattle.gate_history.specs.declared.item.Item.TheVariants.{Asked, ClientWrong, ClientLeft}
use Rattle.gate_history.specs.step.Meaning.{verdict_of}
use Rattle.gate_history.specs.client.Requests.{request_of}
use Rattle.gate_history.specs.state.State.{State, has_number}
use Rattle.gate_history.specs.client.Submits.{Pending}
use Rattle.gate_history.specs.client.Ends.{is_touched}
use Rattle.gate_history.specs.state.Ups.{Up, is_ended}
use Rattle.gate_history.specs.declared.verdict.Verdict.{Verdict}
use Rattle.gate_history.specs.declared.verdict.Verdict.TheVariants.{Routed, Stream}
use Rattle.direct_run.specs.Moves.{World, Move, ByClient, HostReads, GateReads, Performs, Unplugs}
use Rattle.direct_proof.specs.Running.{stream_endpoint}

-- ---- submits

-- no stream that is up ends with the route, and nobody waits for one that does
abbrev pub Stays : Route → Option Up → Type 0
Stays x None = Unit {0}
Stays x (Some up) = is_ended (Some x) up ≡ false

pub record EndsNone (st : State) (x : Route) : Type 0 where
  pub ups : Each (Stays x) st.streams
  pub waiting : Each (λ (p : Pending). is_touched (Routed x) p.submit.verdict ≡ false) st.live

-- what is made of it: it is answered at once, or it goes to the host by an id, by a packet of its own or by a route
-- that ends no stream
abbrev pub IsRaceVerdict : State → Verdict → Type 0
IsRaceVerdict st (Routed x) = EndsNone st x
IsRaceVerdict st (Stream row) = ⊥
IsRaceVerdict st _ = Unit {0}

-- one of a client that hasn't imported is refused, and so is one with a number that is taken
pub record IsRaceSubmit (st : State) (s : UrbSubmit) : Type 0 where
  pub read : IsClientPacket (Urb (urb.Submit s))
  pub new : st.sides.imported ≡ true → has_number st s.head.seqnum ≡ false → IsRaceVerdict st (verdict_of st (request_of s))

-- ---- what is read

-- the next packet starts or stops no stream
abbrev pub HearsNoSwitch : List (ℕ × RedirPacket) → Type 0
HearsNoSwitch [] = Unit {0}
HearsNoSwitch (p ∷ ps) = is_some (stream_endpoint p.1) ≡ false

-- it is no packet or status of a stream
abbrev pub IsReply : RedirPacket → Type 0
IsReply (Plain (plain.IsoStatus status ep)) = ⊥
IsReply (Plain (plain.InterruptStatus status ep)) = ⊥
IsReply (Plain _) = Unit {0}
IsReply (Carrying (moving.Iso ep status told body)) = ⊥
IsReply (Carrying (moving.Interrupt ep status told body)) = is_in_endpoint ep ≡ false
IsReply (Carrying _) = Unit {0}

abbrev pub ReadsReply : List (ℕ × RedirPacket) → Type 0
ReadsReply [] = Unit {0}
ReadsReply (p ∷ ps) = IsReply p.1

-- ---- any schedule of these moves

abbrev pub IsRaceMove : {S : Type 0} → World S → Move → Type 0
IsRaceMove w (ByClient (Asked place (Urb (urb.Submit s)))) = IsRaceSubmit w.gate s
IsRaceMove w (ByClient (Asked place (Urb (urb.Unlink u)))) = Unit {0}
IsRaceMove w (ByClient (Asked place (Op (op.ReqImport status busid)))) = Unit {0}
IsRaceMove w (ByClient (Asked place (Op (op.ReqDevlist status)))) = Unit {0}
IsRaceMove w (ByClient (ClientWrong place reason)) = Unit {0}
IsRaceMove w (ByClient ClientLeft) = Unit {0}
IsRaceMove w HostReads = HearsNoSwitch w.to_host
IsRaceMove w (GateReads place) = ReadsReply w.to_gate
IsRaceMove w (Performs ep) = Unit {0}
IsRaceMove w Unplugs = Unit {0}
IsRaceMove w _ = ⊥
