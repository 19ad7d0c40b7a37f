-- What the present client is sent, by events and by moves, and which moves the bytes of clients can make.
use Rattle.std.specs.Prelude.{List, [], ◌∷◌, ◌++◌}
use Rattle.usbip_urb.specs.declared.client.ClientPacket.{ClientPacket}
use Rattle.usbip_urb.specs.ClientPackets.{IsClientPacket}
use Rattle.gate_history.specs.step.Events.{PastEvent, ClientEnd}
use Rattle.gate_history.specs.declared.item.Item.{Item}
use Rattle.gate_history.specs.declared.item.Item.TheVariants.{Asked, ClientWrong, ClientLeft}
use Rattle.gate_history.specs.write.Output.{to_client}
use Rattle.model_device.specs.Meaning.{Meaning}
use Rattle.direct_run.specs.Trace.{given_of}
use Rattle.direct_run.specs.Moves.{Move, ByClient, as_items, move, run}

-- ---- the packets to the present client, which began at the start or behind the last client's end

abbrev pub present : List PastEvent → List ClientPacket
present [] = []
present (ClientEnd ∷ events) = []
present (e ∷ events) = present events ++ given_of to_client events e

abbrev pub then_sent : Move → List ClientPacket → List ClientPacket → List ClientPacket
then_sent (ByClient ClientLeft) before more = []
then_sent _ before more = before ++ more

abbrev pub present_outs : {S : Type 0} → Meaning S → S → List Move → List ClientPacket
present_outs m s [] = []
present_outs m s (x ∷ xs) = then_sent x (present_outs m s xs) (move as_items m (run as_items m s xs).world x).outs

-- ---- moves that bytes can make

-- a client's packets are in the ranges of their fields, and no client brings a packet of the host
abbrev pub IsOfClient : Item → Type 0
IsOfClient (Asked place packet) = IsClientPacket packet
IsOfClient (ClientWrong place reason) = Unit {0}
IsOfClient ClientLeft = Unit {0}
IsOfClient _ = ⊥

abbrev pub IsMove : Move → Type 0
IsMove (ByClient x) = IsOfClient x
IsMove _ = Unit {0}
