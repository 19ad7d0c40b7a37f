use Rattle.tape_run.specs.model.Made.{made}
use Rattle.tape_run.specs.Printout.{printed}
use Rattle.tape_run.proofs.lemmas.runs.Unread.{wrote-none}
use Rattle.tape_run.proofs.model.make.make.Goals as goal

pub returns-in-Err-clause-leaves : goal.returns-in-Err-clause-leaves
returns-in-Err-clause-leaves g c = wrote-none g.K.Sink.write_gives g.K.Sink.contents (printed (made c.args.count)) c.args.out.now
