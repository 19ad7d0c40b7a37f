use Rattle.std.proofs.Common.{take, arith, length-take-le}
use Rattle.gate_outside.proofs.Written.{take-written}
use Rattle.gate_outside.proofs.copy.append_front.Goals as goal

pub returns-clause-bytes : goal.returns-clause-bytes
returns-clause-bytes c =
    take-written c.args.used c.copy_front.result (take c.args.used c.args.space.now) c.copy_front.new.to _ c.args.from.now
    (length-take-le c.args.used c.args.space.now c.requires)
    (omega (arith, c.copy_front.ensures.count, c.copy_front.auto.to))
    c.copy_front.ensures.bytes
