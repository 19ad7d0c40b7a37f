use Rattle.tape_run.specs.model.Made.{loaded}
use Rattle.tape_run.specs.Printout.{printed}
use Rattle.tape_run.proofs.lemmas.runs.Unread.{wrote-none}
use Rattle.usbgate_tapes.proofs.model.load.load.Goals as goal

pub returns-in-Err-clause-leaves : goal.returns-in-Err-clause-leaves
returns-in-Err-clause-leaves g c = wrote-none g.K.Sink.write_gives g.K.Sink.contents (printed (loaded c.args.count)) c.args.out.now
