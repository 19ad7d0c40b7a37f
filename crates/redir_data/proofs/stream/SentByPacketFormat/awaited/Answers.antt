use Rattle.std.proofs.Common.{subst}
use Rattle.packet_stream.specs.Awaited.{StaysShort}
use Rattle.redir_wire.specs.declared.packet.Way.{Way}
use Rattle.redir_data.specs.Streams.{stream_format}
use Rattle.redir_data.proofs.stream.SentByPacketFormat.awaited.Goals as goal

pub returns-clause-quiet : goal.returns-clause-quiet
returns-clause-quiet g c = subst (λ (way : Way). StaysShort (stream_format way c.args.state.now) c.args.bytes.now c.next_redir.result) c.WAY.ensures c.next_redir.ensures.quiet
