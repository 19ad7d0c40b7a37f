-- The packets that came with items, with their places.
use Rattle.std.specs.Prelude.{◌++◌, ◌∷◌, [], ℕ, List}
use Rattle.usbip_urb.specs.declared.client.ClientPacket.{ClientPacket}
use Rattle.redir_wire.specs.declared.packet.Header.{Header}
use Rattle.redir_data.specs.declared.packet.RedirPacket.{RedirPacket}
use Rattle.gate_history.specs.declared.item.Item.{Item}
use Rattle.gate_history.specs.declared.item.Item.TheVariants.{Asked, ClientLeft, Told}

-- of the present client
abbrev pub asked : List Item → List (ℕ × ClientPacket)
asked [] = []
asked (Asked place packet ∷ xs) = asked xs ++ (place, packet) ∷ []
asked (ClientLeft ∷ xs) = []
asked (_ ∷ xs) = asked xs

abbrev pub told : List Item → List (ℕ × (Header × RedirPacket))
told [] = []
told (Told place header packet ∷ xs) = told xs ++ (place, (header, packet)) ∷ []
told (_ ∷ xs) = told xs
