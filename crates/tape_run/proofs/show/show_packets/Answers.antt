use Rattle.std.proofs.Common.{◌≡◌, ℕ, Option, Some, Ok, ap, sym, ◌∙◌}
use Rattle.packet_stream.proofs.Following.{changed_to}
use Rattle.tape_run.specs.inner.show.Show.{shown_by}
use Rattle.tape_run.proofs.lemmas.show.Showing.{goes-more, shows-all, shows-handed}
use Rattle.tape_run.proofs.show.show_packets.Goals as goal

pub returns-in_err-place : goal.returns-in_err-place
returns-in_err-place g c =
    let side = g.F.ShownFormat in
    let format = g.F.PacketFormat in
    shows-handed (shown_by side.the_side format.format format.after side.first_state side.bytes side.line) format.takes_memory c.args.stream.now c.packets.stream c.next.new.self c.args.text.now c.packets.text c.next.result
    c.in_err-place.field-0.0 c.from_residual.result c.packets.invariant.over c.packets.invariant.goes c.next.ensures.changes c.next.ensures.follows c.in_err-place.was c.from_residual.ensures.1

pub packets-preserved : goal.packets-preserved
packets-preserved g c =
    let side = g.F.ShownFormat in
    let format = g.F.PacketFormat in
    let i : ℕ × g.row.F-Packet.Denot = (c.in-Some.place, c.in-Some.packet) in
    let is : c.next.result ≡ Ok (Some i) = c.in_ok-place.was ∙ ap (λ (o : Option (ℕ × g.row.F-Packet.Denot)). Ok o) c.in-Some.is in
    let changed = changed_to c.packets.stream c.next.new.self c.next.result (Ok (Some i)) c.next.ensures.changes is in
    record {
      over = changed.2 ∙ sym changed.1 ∙ c.packets.invariant.over;
      goes = goes-more (shown_by side.the_side format.format format.after side.first_state side.bytes side.line) format.takes_memory c.args.stream.now c.packets.stream c.next.new.self c.args.text.now c.packets.text c.show.new.text c.next.result i
          c.packets.invariant.goes c.next.ensures.follows is c.in_ok-show.ensures;
    }

pub returns : goal.returns
returns g c =
    let side = g.F.ShownFormat in
    let format = g.F.PacketFormat in
    shows-all (shown_by side.the_side format.format format.after side.first_state side.bytes side.line) format.takes_memory tt c.args.stream.now c.packets.stream c.next.new.self c.args.text.now c.packets.text c.next.result
    c.packets.invariant.over c.packets.invariant.goes c.next.ensures.changes c.next.ensures.follows (c.in_ok-place.was ∙ ap (λ (o : Option (ℕ × g.row.F-Packet.Denot)). Ok o) c.in_default.is)
