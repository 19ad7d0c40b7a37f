use Rattle.std.proofs.Common.{◌∙◌, false}
use Rattle.packet_stream.specs.Split.{reads}
use Rattle.packet_stream.proofs.Following.{follows-new}
use Rattle.packet_stream.proofs.stream.Stream.new.Goals as goal

pub returns-clause-follows : goal.returns-clause-follows
returns-clause-follows g c =
    let given = c.given_from-given.ensures in
    let held = given.bytes ∙ c.new-bytes.ensures in
    follows-new (reads g.F.PacketFormat.format g.F.PacketFormat.after) c.args.state _
    (λ t. record { state = c.args.state; rest = c.new-bytes.ensures t; place = 0; held = held t; at = given.place t; over = false })
