use Rattle.std.proofs.Common.{◌≡◌, true, false, rules, sym, ◌∙◌}
use Rattle.tape_run.proofs.lemmas.tape.Stages.{finished-by}
use Rattle.tape_run.proofs.tape.reader.TapeReader.close.Goals as goal

pub returns-then-has_refused : goal.returns-then-has_refused
returns-then-has_refused g c = λ task read written all.
    let refused : c.has_refused.result ≡ true = search rules in
    finished-by (g.C.TapeCommand.means task) (g.C.TapeCommand.Keeps task) (record c.args.self.now { text = c.close.new.text }) true all (c.in_ok-close.ensures task all.at all.has_read) (sym (c.has_refused.ensures task all.at all.has_read) ∙ refused)

pub returns : goal.returns
returns g c = λ task read written all.
    let good : c.has_refused.result ≡ false = search rules in
    finished-by (g.C.TapeCommand.means task) (g.C.TapeCommand.Keeps task) (record c.args.self.now { text = c.close.new.text }) false all (c.in_ok-close.ensures task all.at all.has_read) (sym (c.has_refused.ensures task all.at all.has_read) ∙ good)
