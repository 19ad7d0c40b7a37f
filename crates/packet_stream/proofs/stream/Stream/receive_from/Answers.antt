use Rattle.std.proofs.Common.{◌≡◌, take, ◌∙◌, arith}
use Rattle.usb_base.proofs.Numbers.{AreBytes-take}
use Rattle.packet_stream.specs.Split.{reads}
use Rattle.packet_stream.specs.Streams.{StreamView, after_piece}
use Rattle.packet_stream.proofs.Laws.{reads_steady}
use Rattle.packet_stream.proofs.Following.{follows-put, after-going}
use Rattle.packet_stream.proofs.stream.Stream.receive_from.Goals as goal

pub returns-then-count-gt0-clause-came : goal.returns-then-count-gt0-clause-came
returns-then-count-gt0-clause-came g c =
    let own = c.self.inside in
    let r = reads g.F.PacketFormat.format g.F.PacketFormat.after in
    let steady = reads_steady g.F.PacketFormat.format g.F.PacketFormat.after g.met.F.PacketFormat.sound in
    let came = c.in_ok-count.ensures.came.0 in
    let rest = c.in_ok-count.ensures.came.1 in
    let piece = take c.in_ok-count.count came.room in
    let last = c.given_from.ensures in
    let new : StreamView g.row.F-State.Denot = record { state = own.state; rest = c.receive_from.new.self; place = own.place; held = c.given_from.result.bytes.value; at = c.given_from.result.place; over = own.over } in
    let held = last.bytes ∙ rest in
    let stream : new ≡ after_piece c.args.self.now piece = after-going _ c.args.self.now new piece c.self.view_is c.if-self.false (λ t. record { state = own.state; rest = rest t; place = own.place; held = held t; at = last.place t; over = own.over }) in (
      came,
      record {
        stream = λ more. stream;
        puts = λ more start bytes given f. follows-put r steady start c.args.self.now new bytes piece given (AreBytes-take c.in_ok-count.count came.room came.bytes) stream f;
        nothing = λ none. absurd (omega (arith, none, c.if-count-gt0.true));
      },
    )
