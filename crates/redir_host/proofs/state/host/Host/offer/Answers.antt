use Rattle.std.proofs.Common.{◌≡◌, ◌≤◌, ◌∙◌, ℕ, true, length, sym, ap, subst}
use Rattle.std.proofs.lemmas.Bool.{eqb-true}
use Rattle.usb_base.specs.Endpoint.{is_in_endpoint}
use Rattle.usb_base.specs.declared.transfer.StreamPacket.{StreamPacket}
use Rattle.redir_data.specs.declared.packet.RedirPacket.{RedirPacket}
use Rattle.model_device.specs.declared.gadget.TheConstants.{MAX_STREAM_PACKET}
use Rattle.redir_host.specs.guest.Packets.{runs_at}
use Rattle.redir_host.specs.state.Sound.{CanTell, IsRunning}
use Rattle.redir_host.proofs.lemmas.state.Each.{each_found, given_if}
use Rattle.redir_host.proofs.lemmas.write.Facts.{stream_told}
use Rattle.redir_host.proofs.state.host.Host.offer.Goals as goal

pub write-requires : goal.write-requires
write-requires g c =
    let h = c.args.self.now in
    let found = each_found (IsRunning h.guest) (runs_at c.args.ep) h.running c.in-Some.running c.requires.streams (sym c.in-Some.ensures) in
    let way : is_in_endpoint c.args.ep ≡ true = ap is_in_endpoint (sym (eqb-true c.in-Some.running.ep c.args.ep found.1)) ∙ found.0.in_endpoint in
    let few = given_if (λ (p : StreamPacket). length p.body ≤ MAX_STREAM_PACKET) (g.G.Gadget.meaning.offer h.gadget c.args.ep) c.in-Some-2.packet (sym c.in-Some-2.is ∙ c.in_ok-packet.ensures.packet) (g.met.G.Gadget.lawful.packets h.gadget c.args.ep) in
    let told = stream_told h.guest.caps c.in-Some.running.kind c.args.ep c.in-Some-2.packet way few in
    subst (λ (p : ℕ × RedirPacket). CanTell h.guest.caps 0 p.1) (sym c.stream_packet-packet.ensures) told
