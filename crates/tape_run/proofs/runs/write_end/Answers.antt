use Rattle.std.proofs.Common.{◌≡◌, List, ℕ, subst, sym, ap, ◌∙◌}
use Rattle.std.proofs.lemmas.Result.{on_ok_weaker, on_err_weaker}
use Rattle.gate_outside.specs.Front.{AppendsFront}
use Rattle.gate_outside.specs.Moved.{Moves, MovesFront}
use Rattle.tape_run.specs.inner.tape.TapeReader.{end_text}
use Rattle.gate_outside.proofs.Moving.{moves-append}
use Rattle.tape_run.proofs.lemmas.runs.Moving.{appends-less, appends-further, moves-further}
use Rattle.tape_run.proofs.lemmas.tape.Wanting.{on_err-of}
use Rattle.tape_run.proofs.runs.write_end.Goals as goal

pub returns-in_err-write_all-clause-err : goal.returns-in_err-write_all-clause-err
returns-in_err-write_all-clause-err g c = on_err-of c.from_residual.result (appends-less (g.K.Sink.contents c.args.out.now) (g.K.Sink.contents c.write_all.new.sink) c.args.text.now (end_text c.args.status) c.in_err-write_all.ensures.err)

pub returns-in-BadTape-clause-err : goal.returns-in-BadTape-clause-err
returns-in-BadTape-clause-err g c =
    let mid = g.K.Sink.contents c.write_all.new.sink in
    let new = g.K.Sink.contents c.write_all-in-BadTape.new.sink in
    let named : c.as_bytes.result.now ≡ end_text c.args.status = c.as_bytes.ensures.value ∙ c.deref.ensures.0 ∙ c.bad_line.ensures ∙ ap end_text (sym c.in-BadTape.is) in
    on_err_weaker c.write_all-in-BadTape.result (λ f. appends-further (g.K.Sink.contents c.args.out.now) mid new c.args.text.now (end_text c.args.status) c.in_ok-write_all.ensures.ok (subst (AppendsFront mid new) named f)) c.write_all-in-BadTape.ensures.err

pub returns-in-BadTape-clause-writes : goal.returns-in-BadTape-clause-writes
returns-in-BadTape-clause-writes g c =
    let mid = c.write_all.new.sink in
    let new = c.write_all-in-BadTape.new.sink in
    let named : c.as_bytes.result.now ≡ end_text c.args.status = c.as_bytes.ensures.value ∙ c.deref.ensures.0 ∙ c.bad_line.ensures ∙ ap end_text (sym c.in-BadTape.is) in
    on_ok_weaker c.write_all-in-BadTape.result
    (λ m. moves-append g.K.Sink.write_gives c.args.text.now (end_text c.args.status) c.args.out.now mid new c.in_ok-write_all.ensures.writes (subst (λ (l : List ℕ). Moves g.K.Sink.write_gives l mid new) named m)) c.write_all-in-BadTape.ensures.writes

pub returns-in-BadTape-clause-writes_front : goal.returns-in-BadTape-clause-writes_front
returns-in-BadTape-clause-writes_front g c =
    let mid = c.write_all.new.sink in
    let new = c.write_all-in-BadTape.new.sink in
    let named : c.as_bytes.result.now ≡ end_text c.args.status = c.as_bytes.ensures.value ∙ c.deref.ensures.0 ∙ c.bad_line.ensures ∙ ap end_text (sym c.in-BadTape.is) in
    on_err_weaker c.write_all-in-BadTape.result
    (λ f. moves-further g.K.Sink.write_gives c.args.text.now (end_text c.args.status) c.args.out.now mid new c.in_ok-write_all.ensures.writes (subst (λ (l : List ℕ). MovesFront g.K.Sink.write_gives l mid new) named f)) c.write_all-in-BadTape.ensures.writes_front
