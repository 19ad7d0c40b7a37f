use Rattle.std.proofs.Common.{arith}
use Rattle.disk_gadget.proofs.Ranges.{begun_answer}
use Rattle.disk_gadget.proofs.bulk.begin.Goals as goal

pub returns-clause-within : goal.returns-clause-within
returns-clause-within c = rw c.cut.ensures (begun_answer c.args.medium.now c.carry_out.new.medium c.args.course.now.sense c.args.wrapper c.in_ok-act.act.answer (omega arith) c.in_ok-act.ensures.blocks c.in_ok-act.ensures.answer)
