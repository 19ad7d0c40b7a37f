use Rattle.tape_run.proofs.lemmas.tape.LineEnds.{first-lf}
use Rattle.tape_run.proofs.tape.reader.line_end.Goals as goal

pub returns : goal.returns
returns c = first-lf c.args.bytes.now c.memchr.result c.memchr.ensures
