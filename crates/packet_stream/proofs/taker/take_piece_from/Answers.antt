use Rattle.std.proofs.Common.{◌<◌, take, arith}
use Rattle.usb_base.proofs.Numbers.{AreBytes-take}
use Rattle.packet_stream.specs.Takers.{taken_by}
use Rattle.packet_stream.proofs.Takers.{can-take-whole, takes-piece}
use Rattle.packet_stream.proofs.taker.take_piece_from.Goals as goal

pub take_whole-requires : goal.take_whole-requires
take_whole-requires g c =
    let f = g.F.PacketFormat in
    let t = g.T.PacketTaker in
    let k = taken_by f.format f.after f.takes_memory t.Takes t.over_in in
    let r = c.in_ok-receive_from in
    let came = r.ensures.came.0 in
    let received = r.ensures.came.1 in
    let some : 0 < r.field-0 = omega (arith, c.if-branch-eq0.false) in
    can-take-whole k t.CanTake (record { stream = c.args.stream.now; taker = c.args.taker.now }) c.receive_from.new.self (take r.field-0 came.room) (received.stream some) (received.puts some)
    (c.requires.takes (take r.field-0 came.room) (AreBytes-take r.field-0 came.room came.bytes))

pub returns-clause-came : goal.returns-clause-came
returns-clause-came g c =
    let f = g.F.PacketFormat in
    let t = g.T.PacketTaker in
    let k = taken_by f.format f.after f.takes_memory t.Takes t.over_in in
    let r = c.in_ok-receive_from in
    record {
      count = r.field-0;
      came = r.ensures.came.0;
      some = λ more. takes-piece k c.take_whole.result (record { stream = c.args.stream.now; taker = c.args.taker.now }) c.receive_from.new.self (record { stream = c.take_whole.new.stream; taker = c.take_whole.new.taker })
          (take r.field-0 r.ensures.came.0.room) (r.ensures.came.1.stream more) (r.ensures.came.1.puts more) c.take_whole.ensures;
      nothing = λ none. absurd (c.if-branch-eq0.false none);
    }
