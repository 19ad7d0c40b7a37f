-- Moves, computed for every device: how the sides meet, an unplugging, and a client's end.
use Rattle.std.proofs.Common.{◌≡◌, ℕ, List, [], ◌∷◌, ◌++◌, refl}
use Rattle.usbip_urb.specs.declared.client.ClientPacket.TheVariants.{Op}
use Rattle.usbip_op.specs.declared.packet.OpPacket.TheVariants as op
use Rattle.redir_wire.specs.declared.packet.RedirControl.TheVariants as plain
use Rattle.redir_data.specs.declared.packet.RedirPacket.{RedirPacket}
use Rattle.redir_data.specs.declared.packet.RedirPacket.TheVariants.{Plain}
use Rattle.gate_history.specs.declared.item.Item.TheVariants.{Asked, ClientLeft}
use Rattle.model_device.specs.Meaning.{Meaning}
use Rattle.redir_host.specs.device.Facts.{connect_of, facts_of}
use Rattle.redir_host.specs.write.Output.{first_packet}
use Rattle.direct_run.specs.declared.item.Item.TheVariants as item
use Rattle.direct_run.specs.Clients.{present_outs}
use Rattle.direct_run.specs.Moves.{World, Move, ByClient, HostReads, GateReads, Performs, Unplugs, as_items, quiet, move, run}
use Rattle.direct_run.specs.Packets.{both_caps}

-- what the host tells of its device, once it has heard the gateway's hello
abbrev tells : {S : Type 0} → Meaning S → S → List (ℕ × RedirPacket)
tells m s = facts_of both_caps m s ++ (0, Plain (plain.Connect (connect_of both_caps m.identity))) ∷ []

host-hears : {S : Type 0} (m : Meaning S) (s : S) → (run as_items m s (HostReads ∷ [])).world.to_gate ≡ first_packet ∷ tells m s
host-hears m s = refl

gateway-hears : {S : Type 0} (m : Meaning S) (s : S) → (run as_items m s (GateReads 0 ∷ HostReads ∷ [])).world.to_gate ≡ tells m s
gateway-hears m s = refl

both-agree : {S : Type 0} (m : Meaning S) (s : S) → (run as_items m s (GateReads 0 ∷ [])).world.gate.sides.agreed ≡ both_caps
both-agree m s = refl

-- nothing is there to be read
nothing-comes : {S : Type 0} (m : Meaning S) (w : World S) → move as_items m (record w { to_host = [] }) HostReads ≡ quiet (record w { to_host = [] })
nothing-comes m w = refl

-- before the gateway's hello the host tells of nothing, and behind it of the end
unplugged-unheard : {S : Type 0} (m : Meaning S) (s : S) → (run as_items m s (HostReads ∷ Unplugs ∷ [])).world.to_gate ≡ first_packet ∷ []
unplugged-unheard m s = refl

unplugged : {S : Type 0} (m : Meaning S) (s : S) → (run as_items m s (Unplugs ∷ HostReads ∷ [])).world.to_gate ≡ first_packet ∷ tells m s ++ (0, Plain plain.Disconnect) ∷ []
unplugged m s = refl

-- a client that asks what there is, and leaves
client-left : {S : Type 0} (m : Meaning S) (s : S) → (run as_items m s (ByClient ClientLeft ∷ ByClient (Asked 0 (Op (op.ReqDevlist 0))) ∷ [])).told ≡ item.ClientGone ∷ []
client-left m s = refl

none-to-next : {S : Type 0} (m : Meaning S) (s : S) (xs : List Move) → present_outs m s (ByClient ClientLeft ∷ xs) ≡ []
none-to-next m s xs = refl

-- an endpoint without requests performs nothing
nothing-performed : {S : Type 0} (m : Meaning S) (s : S) (ep : ℕ) → (run as_items m s (Performs ep ∷ [])).told ≡ []
nothing-performed m s ep = refl
