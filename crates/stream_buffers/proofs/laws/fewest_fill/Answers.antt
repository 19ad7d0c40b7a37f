use Rattle.std.proofs.Common.{length}
use Rattle.stream_buffers.specs.Interrupt.{fills}
use Rattle.stream_buffers.proofs.Found.{is_least}
use Rattle.stream_buffers.proofs.laws.fewest_fill.Goals as goal

pub returns : goal.returns
returns c = λ max_packet wanted packets. is_least (fills max_packet wanted packets) (length packets)
