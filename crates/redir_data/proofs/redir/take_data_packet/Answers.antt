use Rattle.std.proofs.Common.{refl, drop}
use Rattle.packet_stream.specs.Format.{reading}
use Rattle.redir_wire.specs.Bodies.{behind}
use Rattle.redir_data.specs.Carrying.{transfers, has_data}
use Rattle.redir_data.specs.declared.packet.RedirPacket.TheVariants.{Carrying}
use Rattle.redir_data.specs.Packets.{takes_memory}
use Rattle.redir_data.proofs.Behind.{data_near, error_answers}
use Rattle.redir_data.proofs.redir.take_data_packet.Goals as goal

pub past_header-requires-clause-near : goal.past_header-requires-clause-near
past_header-requires-clause-near g c = data_near c.args.caps c.args.way c.args.head (drop c.args.size (g.B.PacketBytes.contents c.args.bytes.now)) c.in-Err.error c.in-Err.ensures.exact

pub returns-in-Err-clause-exact : goal.returns-in-Err-clause-exact
returns-in-Err-clause-exact g c =
    let a = c.args in
    let b = drop a.size (g.B.PacketBytes.contents a.bytes.now) in
    error_answers has_data takes_memory Carrying a.size a.head (reading (behind (transfers a.caps a.way) a.head) b) c.in-Err.error c.past_header.result (λ p. refl) c.past_header.ensures c.in-Err.ensures.exact
