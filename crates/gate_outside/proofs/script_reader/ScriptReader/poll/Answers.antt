use Rattle.std.proofs.Common.{arith}
use Rattle.gate_outside.specs.Reading.{left}
use Rattle.gate_outside.proofs.Reading.{took-within}
use Rattle.gate_outside.proofs.script_reader.ScriptReader.poll.Goals as goal

pub returns-clause-bound : goal.returns-clause-bound
returns-clause-bound c =
    rw (c.take.ensures.answers, c.skip_empty.ensures.left)
    (took-within (left c.self.inside.place c.begun_script-turns.result.now) c.take.new.buf (omega arith))
