use Rattle.std.proofs.Common.{rules}
use Rattle.std.proofs.lemmas.Result.{IfOk-weaker, on_err_weaker}
use Rattle.tape_run.proofs.lemmas.tape.Stages.{last-none, took-last}
use Rattle.tape_run.proofs.lemmas.tape.Wanting.{last-wanted}
use Rattle.tape_run.proofs.tape.reader.TapeReader.last_line.Goals as goal

pub returns-then-is_empty-clause-ok : goal.returns-then-is_empty-clause-ok
returns-then-is_empty-clause-ok g c = λ task read written s. last-none (g.C.TapeCommand.means task) (g.C.TapeCommand.Keeps task) s (search rules)

pub returns-clause-ok : goal.returns-clause-ok
returns-clause-ok g c = IfOk-weaker c.end_line.result _ _ (λ status took task read written s. took-last (g.C.TapeCommand.means task) (g.C.TapeCommand.Keeps task) c.end_line.new.self status s (λ none. search rules) (took task s.at s.has_read)) c.end_line.ensures.ok

pub returns-clause-good : goal.returns-clause-good
returns-clause-good g c = on_err_weaker c.end_line.result (λ wants task read written s. last-wanted (g.C.TapeCommand.means task) (g.C.TapeCommand.Keeps task) s (λ none. search rules) (wants task s.at s.has_read)) c.end_line.ensures.wants
