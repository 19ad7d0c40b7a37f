-- That what a list of moves does, from a world on, is what the device attached directly does.
use Rattle.std.specs.Prelude.{◌≡◌, List, [], ◌∷◌}
use Rattle.std.specs.List.{flat_map}
use Rattle.usbip_urb.specs.declared.client.ClientPacket.{ClientPacket}
use Rattle.usbip_urb.specs.declared.client.ClientPacket.TheVariants.{Op, Urb}
use Rattle.usbip_urb.specs.declared.packet.UrbPacket.{UrbPacket}
use Rattle.model_device.specs.Meaning.{Meaning}
use Rattle.gate_history.specs.declared.item.Item.{Item}
use Rattle.gate_history.specs.step.Machine.{run as gate_run}
use Rattle.gate_history.specs.state.State.{State}
use Rattle.direct_run.specs.Moves.{Move, World, runs_from}
use Rattle.direct_run.specs.World.{first_id}
use Rattle.direct_device.specs.Legal.{AreAllowed, acts, all_answers}
use Rattle.direct_proof.specs.Deeds.{as_deeds}
use Rattle.direct_proof.specs.Related.{Related}
use Rattle.direct_proof.specs.Shared.{Shared, view}

-- the answer that a packet to the client is, where it isn't the reply to a list or import request
abbrev pub urb_in : ClientPacket → List UrbPacket
urb_in (Op p) = []
urb_in (Urb p) = p ∷ []

-- what they do is what the device attached directly does, and the client's answers are its
pub record AreDirectly {S : Type 0} (m : Meaning S) (w : World S) (j : Shared) (moves : List Move) : Type 0 where
  pub later : Shared
  pub related : Related m (runs_from as_deeds m w moves).world later
  pub same : acts m (view w j) (runs_from as_deeds m w moves).told ≡ view (runs_from as_deeds m w moves).world later
  pub legal : AreAllowed m (view w j) (runs_from as_deeds m w moves).told
  pub given : flat_map urb_in (runs_from as_deeds m w moves).outs ≡ all_answers m (view w j) (runs_from as_deeds m w moves).told

-- a gateway's state is that after some items
abbrev pub IsRun : State → Type 0
IsRun st = (items : List Item) × (st ≡ gate_run first_id items)
