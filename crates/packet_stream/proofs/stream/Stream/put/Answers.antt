use Rattle.std.proofs.Common.{◌∙◌, arith}
use Rattle.std.proofs.lemmas.Result.{on_ok_weaker}
use Rattle.packet_stream.specs.Split.{reads}
use Rattle.packet_stream.proofs.Laws.{reads_steady}
use Rattle.packet_stream.proofs.Following.{follows-put, after-going, after-over}
use Rattle.packet_stream.proofs.stream.Stream.put.Goals as goal

pub returns-then-self-clause-follows : goal.returns-then-self-clause-follows
returns-then-self-clause-follows g c start bytes given f =
    follows-put (reads g.F.PacketFormat.format g.F.PacketFormat.after) (reads_steady g.F.PacketFormat.format g.F.PacketFormat.after g.met.F.PacketFormat.sound) start c.args.self.now _ bytes c.args.piece.now given (λ i. omega (arith, c.type_inv.piece i))
    (after-over _ c.args.self.now c.args.piece.now c.self.view_is c.if-self.true) f

pub returns-clause-follows : goal.returns-clause-follows
returns-clause-follows g c = on_ok_weaker c.receive-put.result (λ rest start bytes given f.
    let own = c.self.inside in
    let held = c.given_from.ensures.bytes ∙ rest in
    follows-put (reads g.F.PacketFormat.format g.F.PacketFormat.after) (reads_steady g.F.PacketFormat.format g.F.PacketFormat.after g.met.F.PacketFormat.sound) start c.args.self.now _ bytes c.args.piece.now given (λ i. omega (arith, c.type_inv.piece i))
    (after-going _ c.args.self.now _ c.args.piece.now c.self.view_is c.if-self.false
    (λ t. record { state = own.state; rest = rest t; place = own.place; held = held t; at = c.given_from.ensures.place t; over = own.over })) f) c.receive-put.ensures.ok
