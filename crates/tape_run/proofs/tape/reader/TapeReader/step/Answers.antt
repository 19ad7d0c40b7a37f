use Rattle.std.proofs.Common.{inr, rules}
use Rattle.std.proofs.lemmas.List.{nil_from_length}
use Rattle.std.proofs.lemmas.Result.{IfOk-weaker, on_err_weaker}
use Rattle.tape_run.proofs.lemmas.tape.Stages.{closes-end, stepped-take}
use Rattle.tape_run.proofs.lemmas.tape.Wanting.{on_err-of, end-wanted}
use Rattle.tape_run.proofs.tape.reader.TapeReader.step.Goals as goal

pub returns-then-is_empty-clause-ok : goal.returns-then-is_empty-clause-ok
returns-then-is_empty-clause-ok g c = λ task read written s.
    closes-end (g.C.TapeCommand.means task) (g.C.TapeCommand.Keeps task) c.in_ok-end.field-0 c.end.new.self c.args.piece.now read written (nil_from_length c.args.piece.now (search rules)) (c.in_ok-end.ensures.ok task read written s)

pub returns-clause-ok : goal.returns-clause-ok
returns-clause-ok g c = IfOk-weaker c.take.result _ _ (λ status took task read written s. stepped-take (g.C.TapeCommand.means task) (g.C.TapeCommand.Keeps task) status c.take.new.self c.args.piece.now read written (λ none. search rules) (took task read written s)) c.take.ensures.ok

pub returns-clause-wants : goal.returns-clause-wants
returns-clause-wants g c = on_err_weaker c.take.result (λ wants task read written s. inr (wants task read written s)) c.take.ensures.wants

pub returns-in_err-end-clause-wants : goal.returns-in_err-end-clause-wants
returns-in_err-end-clause-wants g c = on_err-of c.from_residual.result
    (λ task read written s. end-wanted (g.C.TapeCommand.means task) (g.C.TapeCommand.Keeps task) read c.args.piece.now (nil_from_length c.args.piece.now (search rules)) (c.in_err-end.ensures.good task read written s))
