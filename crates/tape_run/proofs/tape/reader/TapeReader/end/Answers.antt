use Rattle.std.proofs.Common.{Option, subst}
use Rattle.std.proofs.lemmas.Result.{IfOk-weaker}
use Rattle.tape_run.specs.declared.status.Status.{Status}
use Rattle.tape_run.specs.inner.tape.TapeReader.{TookLast}
use Rattle.tape_run.proofs.lemmas.tape.Wanting.{on_err-of, all-good}
use Rattle.tape_run.proofs.tape.reader.TapeReader.end.Goals as goal

pub returns-in-Some-clause-ok : goal.returns-in-Some-clause-ok
returns-in-Some-clause-ok g c = λ task read written s. subst (λ (o : Option Status). TookLast (g.C.TapeCommand.means task) (g.C.TapeCommand.Keeps task) o c.last_line.new.self read written) c.in-Some.is (c.in_ok-status.ensures.ok task read written s)

pub returns-clause-ok : goal.returns-clause-ok
returns-clause-ok g c = IfOk-weaker c.close.result _ _
    (λ status finished task read written s. finished task read written (subst (λ (o : Option Status). TookLast (g.C.TapeCommand.means task) (g.C.TapeCommand.Keeps task) o c.last_line.new.self read written) c.in_default.is (c.in_ok-status.ensures.ok task read written s)))
    c.close.ensures

pub returns-clause-good : goal.returns-clause-good
returns-clause-good g c = on_err-of c.close.result
    (λ task read written s. all-good (g.C.TapeCommand.means task) (g.C.TapeCommand.Keeps task)
    (subst (λ (o : Option Status). TookLast (g.C.TapeCommand.means task) (g.C.TapeCommand.Keeps task) o c.last_line.new.self read written) c.in_default.is (c.in_ok-status.ensures.ok task read written s)))
