use Rattle.std.proofs.Common.{◌++◌, Err, None, ap, subst, ◌∙◌}
use Rattle.std.proofs.lemmas.Result.{IfOk-weaker}
use Rattle.usb_base.specs.declared.side.Side.{Side}
use Rattle.usb_base.specs.Refusal.{refusal_line}
use Rattle.packet_stream.specs.declared.read.ReadError.{ReadError}
use Rattle.tape_run.specs.inner.show.Show.{shown_by, ShowsPackets}
use Rattle.tape_run.proofs.lemmas.show.Showing.{sees-all, sees-wrong}
use Rattle.tape_run.proofs.show.Show.take_piece.Goals as goal

pub returns-in-Ok : goal.returns-in-Ok
returns-in-Ok g c = λ events e bytes.
    let side = g.F.ShownFormat in
    let format = g.F.PacketFormat in
    sees-all (shown_by side.the_side format.format format.after side.first_state side.bytes side.line) events e c.args.piece.now c.args.self.now.refused c.args.self.now.stream c.put.new.self c.show_packets.new.stream c.args.text.now
    c.show_packets.new.text c.in-Ok.field-0 bytes c.in_ok-put.ensures.ok c.in_ok-put.ensures.follows c.in-Ok.ensures

pub returns-in-Err-Refused : goal.returns-in-Err-Refused
returns-in-Err-Refused g c =
    let side = g.F.ShownFormat in
    let format = g.F.PacketFormat in
    let shown = shown_by side.the_side format.format format.after side.first_state side.bytes side.line in
    let place = c.in-Err-Refused.place in
    let reason = c.in-Err-Refused.reason in
    let shows = subst (λ (e : ReadError). ShowsPackets shown (Err e) c.put.new.self c.show_packets.new.stream c.args.text.now c.show_packets.new.text) c.in-Err-Refused.field-0-is c.in-Err-Refused.ensures in
    IfOk-weaker c.line.result _ _
    (λ v line events e bytes.
    sees-wrong shown events e c.args.piece.now c.args.self.now.refused c.args.self.now.stream c.put.new.self c.show_packets.new.stream c.args.text.now c.show_packets.new.text c.line.new.out place reason bytes
    c.in_ok-put.ensures.ok c.in_ok-put.ensures.follows shows
    (line ∙ ap (λ (s : Side). c.show_packets.new.text ++ refusal_line (record { side = s; place = place; reason = reason; kept = None })) c.side.ensures))
    c.line.ensures.ok
