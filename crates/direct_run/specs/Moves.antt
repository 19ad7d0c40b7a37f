-- The gateway and the modelled host as two machines on two wires of packets. Lists of moves have the latest first.
use Rattle.std.specs.Prelude.{ℕ, if◌then◌else◌, List, [], ◌∷◌, ◌++◌}
use Rattle.std.specs.List.{flat_map}
use Rattle.redir_data.specs.declared.packet.RedirPacket.{RedirPacket}
use Rattle.redir_data.specs.Sent.{sent_header}
use Rattle.usbip_urb.specs.declared.client.ClientPacket.{ClientPacket}
use Rattle.gate_history.specs.declared.item.Item.{Item as GateItem}
use Rattle.gate_history.specs.declared.item.Item.TheVariants.{Told}
use Rattle.gate_history.specs.step.Marks.{Submission, Mark}
use Rattle.gate_history.specs.client.Submits.{opened}
use Rattle.gate_history.specs.state.State.{State}
use Rattle.gate_history.specs.step.Meaning.{mark_of}
use Rattle.gate_history.specs.step.Past.{is_left_out}
use Rattle.gate_history.specs.write.Output.{to_client, to_host}
use Rattle.gate_history.specs.write.Notes.{notes_of}
use Rattle.gate_history.specs.write.Bytes.{gateway_hello}
use Rattle.gate_history.specs.step.Machine.{with_mark, start as first_state}
use Rattle.model_device.specs.Meaning.{Meaning}
use Rattle.redir_host.specs.declared.state.host.Host.{Host}
use Rattle.redir_host.specs.step.Machine.{first_host}
use Rattle.redir_host.specs.step.Moves.{Move as HostMove}
use Rattle.redir_host.specs.device.Offering.{offer_move, told_offered, unplug_move}
use Rattle.redir_host.specs.write.Output.{first_packet}
use Rattle.redir_host.specs.guest.Packets.{packet_move}
use Rattle.redir_host.specs.device.Performing.{perform_move, told_performed}
use Rattle.direct_run.specs.declared.item.Item.{Item}
use Rattle.direct_run.specs.declared.submitted.Submitted.{Submitted}
use Rattle.direct_run.specs.Noted.{item_of, item_of_host, named, performed_item, offered_item}
use Rattle.direct_run.specs.World.{first_id}

-- the packets on the wires, each with its id, the next one first
pub record World (S : Type 0) : Type 0 where
  pub gate : State
  pub host : Host S
  pub to_host : List (ℕ × RedirPacket)
  pub to_gate : List (ℕ × RedirPacket)
  -- the submits that were accepted, with the ids of their packets
  pub submits : List Submitted

-- each side has sent its hello
abbrev pub first_world : {S : Type 0} → S → World S
first_world s = record {
  gate = first_state first_id;
  host = first_host s;
  to_host = (0, gateway_hello) ∷ [];
  to_gate = first_packet ∷ [];
  submits = [];
}

-- what a move makes: the packets to the client, and what is told of it, in the order in which it came about
pub record Made (S T : Type 0) : Type 0 where
  pub world : World S
  pub outs : List ClientPacket
  pub told : List T

abbrev pub quiet : {S T : Type 0} → World S → Made S T
quiet w = record { world = w; outs = []; told = [] }

-- first the one, then the other
abbrev pub then_made : {S T : Type 0} → Made S T → Made S T → Made S T
then_made x y = record { world = y.world; outs = x.outs ++ y.outs; told = x.told ++ y.told }

-- ---- how moves are told

-- what is told of a mark in a state of the gateway, and for the items of the host
pub record Telling (T : Type 0) : Type 0 where
  pub by_gate : State → Mark → List T
  pub by_host : List Item → List T

abbrev pub as_items : Telling Item
as_items = record { by_gate = λ st m. flat_map item_of (notes_of st m); by_host = λ items. items }

-- the submits that are accepted
abbrev pub as_submits : Telling Submission
as_submits = record { by_gate = λ st m. opened m.what; by_host = λ items. [] }

-- ---- the gateway

abbrev pub gate_made : {S T : Type 0} → Telling T → World S → Mark → Made S T
gate_made t w m = record {
  world = record w { gate = with_mark w.gate m; to_host = w.to_host ++ to_host w.gate m; submits = w.submits ++ flat_map named (notes_of w.gate m) };
  outs = to_client w.gate m;
  told = t.by_gate w.gate m;
}

-- an item of a side that is over is left out
abbrev pub gate_move : {S T : Type 0} → Telling T → World S → GateItem → Made S T
gate_move t w x = if is_left_out w.gate x then quiet w else gate_made t w (mark_of w.gate x)

-- the next packet, as it is read at this place of the host's stream
abbrev pub gate_reads : {S T : Type 0} → Telling T → World S → ℕ → List (ℕ × RedirPacket) → Made S T
gate_reads t w place [] = quiet w
gate_reads t w place (p ∷ ps) = gate_move t (record w { to_gate = ps }) (Told place (sent_header w.gate.sides.agreed p) p.1)

-- ---- the host

abbrev pub host_made : {S T : Type 0} → Telling T → World S → HostMove S → List Item → Made S T
host_made t w v items = record { world = record w { host = v.host; to_gate = w.to_gate ++ v.sent }; outs = []; told = t.by_host items }

abbrev pub host_takes : {S T : Type 0} → Telling T → World S → HostMove S → Made S T
host_takes t w v = host_made t w v (flat_map (item_of_host w.submits) v.notes)

abbrev pub host_reads : {S T : Type 0} → Telling T → Meaning S → World S → List (ℕ × RedirPacket) → Made S T
host_reads t m w [] = quiet w
host_reads t m w (p ∷ ps) = host_takes t (record w { to_host = ps }) (packet_move m w.host p.0 p.1)

-- ---- all moves

pub data Move : Type 0 where
  -- a packet or a wrong place of the client, or its end
  ByClient : GateItem → Move
  -- the next packet on a wire has got there
  HostReads : Move
  GateReads : (place : ℕ) → Move
  -- what is done with the device
  Performs : (ep : ℕ) → Move
  Offers : (ep : ℕ) → Move
  Unplugs : Move

abbrev pub move : {S T : Type 0} → Telling T → Meaning S → World S → Move → Made S T
move t m w (ByClient x) = gate_move t w x
move t m w HostReads = host_reads t m w w.to_host
move t m w (GateReads place) = gate_reads t w place w.to_gate
move t m w (Performs ep) = host_made t w (perform_move m w.host ep) (performed_item w.submits ep (told_performed m w.host ep))
move t m w (Offers ep) = host_made t w (offer_move m w.host ep) (offered_item ep (told_offered m w.host ep))
move t m w Unplugs = host_made t w (unplug_move w.host) []

-- from a world on
abbrev pub runs_from : {S T : Type 0} → Telling T → Meaning S → World S → List Move → Made S T
runs_from t m w [] = quiet w
runs_from t m w (x ∷ xs) = then_made (runs_from t m w xs) (move t m (runs_from t m w xs).world x)

abbrev pub run : {S T : Type 0} → Telling T → Meaning S → S → List Move → Made S T
run t m s xs = runs_from t m (first_world s) xs
