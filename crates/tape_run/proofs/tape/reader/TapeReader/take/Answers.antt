use Rattle.std.proofs.Common.{◌+◌, ◌++◌, Option, subst, take}
use Rattle.std.proofs.lemmas.Result.{IfOk-weaker, on_err_weaker, err_from_is_err_and}
use Rattle.tape_run.specs.declared.status.Status.{Status}
use Rattle.tape_run.specs.inner.tape.TapeReader.{Took}
use Rattle.tape_run.proofs.lemmas.tape.Stages.{step_within, took-step, took-rest, took-more}
use Rattle.tape_run.proofs.lemmas.tape.Wanting.{lines-more, line-wanted, part-wanted}
use Rattle.tape_run.proofs.tape.reader.TapeReader.take.Goals as goal

pub returns-in-Some-2-clause-ok : goal.returns-in-Some-2-clause-ok
returns-in-Some-2-clause-ok g c = λ task read written s.
    let piece = c.args.piece.now in
    let from = c.loop-len.from in
    let len = c.in-Some.len in
    let new = c.end_line.new.self in
    let at = c.loop-len.invariant.stage task read written s in
    let took = took-step (g.C.TapeCommand.means task) (g.C.TapeCommand.Keeps task) read new c.in_ok-status.field-0 piece from len at c.in-Some.ensures (c.in_ok-status.ensures.ok task at.at at.has_read) in
    took-more (g.C.TapeCommand.means task) (g.C.TapeCommand.Keeps task) new c.in-Some-2.status read written piece (from + len + 1) (subst (λ (o : Option Status). Took (g.C.TapeCommand.means task) (g.C.TapeCommand.Keeps task) o new (read ++ take (from + len + 1) piece) written) c.in-Some-2.is took)

pub loop-len-preserved : goal.loop-len-preserved
loop-len-preserved g c =
    let piece = c.args.piece.now in
    let from = c.loop-len.from in
    let len = c.in-Some.len in
    let new = c.end_line.new.self in
    record {
      within = step_within piece from len c.loop-len.invariant.within c.in-Some.ensures;
      own_lines = lines-more piece from len c.loop-len.invariant.own_lines c.in-Some.ensures;
      stage = λ task read written s.
          let at = c.loop-len.invariant.stage task read written s in
          subst (λ (o : Option Status). Took (g.C.TapeCommand.means task) (g.C.TapeCommand.Keeps task) o new (read ++ take (from + len + 1) piece) written) c.in_default-2.is
          (took-step (g.C.TapeCommand.means task) (g.C.TapeCommand.Keeps task) read new c.in_ok-status.field-0 piece from len at c.in-Some.ensures (c.in_ok-status.ensures.ok task at.at at.has_read));
    }

pub returns-clause-ok : goal.returns-clause-ok
returns-clause-ok g c = IfOk-weaker c.keep.result _ _
    (λ status kept task read written s.
    let at = c.loop-len.invariant.stage task read written s in
    took-rest (g.C.TapeCommand.means task) (g.C.TapeCommand.Keeps task) read c.keep.new.self status c.args.piece.now c.loop-len.from at c.in_default.ensures (kept task at.at at.has_read)) c.keep.ensures.ok

pub returns-in_err-status-clause-wants : goal.returns-in_err-status-clause-wants
returns-in_err-status-clause-wants g c =
    let p = err_from_is_err_and c.from_residual.result c.from_residual.ensures.1 in
    rw p.1 (λ task read written s.
    let at = c.loop-len.invariant.stage task read written s in
    line-wanted (g.C.TapeCommand.means task) (g.C.TapeCommand.Keeps task) read c.args.piece.now c.loop-len.from c.in-Some.len at c.loop-len.invariant.own_lines c.in-Some.ensures (c.in_err-status.ensures.wants task at.at at.has_read))

pub returns-clause-wants : goal.returns-clause-wants
returns-clause-wants g c = on_err_weaker c.keep.result
    (λ wants task read written s.
    let at = c.loop-len.invariant.stage task read written s in
    part-wanted (g.C.TapeCommand.means task) (g.C.TapeCommand.Keeps task) read c.args.piece.now c.loop-len.from at c.loop-len.invariant.own_lines c.in_default.ensures wants.0 wants.1) c.keep.ensures.wants
