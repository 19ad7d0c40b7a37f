-- What the gateway and the host, with what is on the wires, share with the device attached directly.
use Rattle.std.specs.Prelude.{ℕ, Bool, if◌then◌else◌, List, [], ◌∷◌, ◌++◌, map, Option, Some, None}
use Rattle.usb_base.specs.declared.transfer.StreamPacket.{StreamPacket}
use Rattle.redir_data.specs.declared.packet.RedirPacket.{RedirPacket}
use Rattle.redir_host.specs.guest.Line.{Waiting as InLine, Reset, packet_line}
use Rattle.gate_history.specs.state.Ups.{Up, stream_of}
use Rattle.direct_run.specs.Moves.{World}
use Rattle.direct_device.specs.Direct.{Direct}
use Rattle.direct_proof.specs.Requests.{Debt, Entry, at_device, at_host, live_of, ran_of}
use Rattle.direct_proof.specs.Tagged.{Tagged, packets_in, runs_in}

-- ---- the wire to the host

-- what a packet puts in line, whatever its place, which is 0 here; a cancel finds its request there, and puts nothing
abbrev pub in_line : ℕ × RedirPacket → List InLine
in_line p = packet_line 0 p.0 p.1

abbrev pub lines : List (ℕ × RedirPacket) → List InLine
lines [] = []
lines (p ∷ ps) = in_line p ++ lines ps

-- ---- what is shared, and the device that it stands for

-- `half` says that the first that comes is a reset, of whose two packets the first has come and the second hasn't
pub record Shared : Type 0 where
  pub held : List Entry
  pub half : Bool
  pub coming : List Entry
  pub back : List Tagged
  pub debts : List Debt
  -- the fence's stop hasn't come to the host
  pub fenced : Bool
  -- the device was lost while a client had it
  pub gone : Bool

abbrev pub half_line : Bool → List InLine
half_line half = if half then Reset ∷ [] else []

abbrev pub at_hosts : List Entry → List InLine
at_hosts [] = []
at_hosts (e ∷ es) = at_host e ++ at_hosts es

abbrev pub way_of : Option Up → ℕ → List Tagged → List StreamPacket
way_of None ep bs = []
way_of (Some up) ep bs = packets_in up.row.kind ep bs

abbrev pub view : {S : Type 0} → World S → Shared → Direct S
view w j = record {
  gadget = w.host.gadget;
  live = map live_of w.gate.live;
  queue = map at_device (j.held ++ j.coming);
  ran = if w.gate.sides.imported then map ran_of (runs_in j.back) else [];
  streams = w.gate.streams;
  way = λ ep. way_of (stream_of w.gate.streams ep) ep j.back;
  imported = w.gate.sides.imported;
  gone = j.gone;
}
