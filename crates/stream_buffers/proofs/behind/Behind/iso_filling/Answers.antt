use Rattle.std.proofs.Common.{arith}
use Rattle.stream_buffers.proofs.Buffers.{pieces_fit}
use Rattle.stream_buffers.proofs.behind.Behind.iso_filling.Goals as goal

pub returns-clause-fits : goal.returns-clause-fits
returns-clause-fits c = λ size lies. omega (arith, c.filling_each.ensures.done, pieces_fit size c.args.descs.now c.args.self.now lies)
