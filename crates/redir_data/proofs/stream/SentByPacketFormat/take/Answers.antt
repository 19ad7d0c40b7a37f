use Rattle.std.proofs.Common.{subst}
use Rattle.packet_stream.specs.Format.{reading}
use Rattle.packet_stream.specs.Reads.{Answers}
use Rattle.redir_wire.specs.declared.packet.Way.{Way}
use Rattle.redir_data.specs.Packets.{takes_memory}
use Rattle.redir_data.specs.Streams.{stream_format}
use Rattle.redir_data.proofs.stream.SentByPacketFormat.take.Goals as goal

pub returns-clause-exact : goal.returns-clause-exact
returns-clause-exact g c = subst (λ (way : Way). Answers takes_memory c.take_redir.result (reading (stream_format way c.args.state.now) c.args.bytes.now)) c.WAY.ensures c.take_redir.ensures.exact
