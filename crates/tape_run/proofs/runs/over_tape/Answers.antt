use Rattle.tape_run.proofs.lemmas.runs.Going.{runs-none}
use Rattle.tape_run.proofs.runs.over_tape.Goals as goal

pub read_pieces-requires-clause-start : goal.read_pieces-requires-clause-start
read_pieces-requires-clause-start g c = (c.requires.0, c.start.ensures c.requires.0 c.requires.1 c.requires.2)

pub returns-clause-runs : goal.returns-clause-runs
returns-clause-runs g c = λ task keeps opening. c.read_pieces.ensures.runs task (c.start.ensures task keeps opening)

pub returns-in-Err-clause-runs : goal.returns-in-Err-clause-runs
returns-in-Err-clause-runs g c = λ task keeps opening. runs-none c.args.tape.now c.args.out.now
