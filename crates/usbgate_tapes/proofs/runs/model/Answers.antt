use Rattle.std.proofs.Common.{rules}
use Rattle.tape_run.specs.model.Model.{model_of}
use Rattle.tape_run.specs.Printout.{tape_printout}
use Rattle.tape_run.proofs.lemmas.runs.Unread.{leaves-none}
use Rattle.usbgate_tapes.proofs.lemmas.model.Simulated.{unsimulated}
use Rattle.usbgate_tapes.proofs.runs.model.Goals as goal

pub returns-in-Err-clause-leaves : goal.returns-in-Err-clause-leaves
returns-in-Err-clause-leaves g c =
    let none = leaves-none g.S.Source.read_gives g.K.Sink.write_gives g.S.Source.remaining g.K.Sink.contents (tape_printout (model_of c.args.device)) c.args.tape.now c.args.out.now in search rules

pub returns-in-Err-clause-simulates : goal.returns-in-Err-clause-simulates
returns-in-Err-clause-simulates g c = unsimulated g.S.Source.read_gives g.S.Source.remaining c.args.device c.args.tape.now _
