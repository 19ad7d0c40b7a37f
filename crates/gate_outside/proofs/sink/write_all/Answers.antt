use Rattle.std.proofs.Common.{ℕ, ◌-◌, List, ◌∷◌, ◌++◌, take, drop, length, Ok, Err, ap, sym, ◌∙◌, subst, arith}
use Rattle.std.proofs.lemmas.List.{take_rest, length-take, length-drop, take-append-drop, append-nil}
use Rattle.std.proofs.Math.Seq.{take-add}
use Rattle.std.specs.Io.KnownBytes.{Appends}
use Rattle.std.proofs.KnownBytes.{Appends-trans, Appends-kept}
use Rattle.gate_outside.specs.Moved.{moved}
use Rattle.gate_outside.proofs.sink.write_all.Goals as goal

pub loop-done-preserved : goal.loop-done-preserved
loop-done-preserved g c =
    let bytes = c.args.bytes.now in
    let done = c.loop-done.done in
    let n = c.in-Ok.n in
    let writes = c.loop-done.invariant.writes in
    let held : List ℕ → Type 0 = Appends (g.K.Sink.contents c.loop-done.sink) (g.K.Sink.contents c.write.new.self) in
    record {
      within = omega (arith, c.in-Ok.ensures.bound, length-take (length bytes - done) (drop done bytes), length-drop done bytes);
      wrote = subst (Appends (g.K.Sink.contents c.args.sink.now) (g.K.Sink.contents c.write.new.self)) (sym (take-add done n bytes))
          (Appends-trans (g.K.Sink.contents c.args.sink.now) (g.K.Sink.contents c.loop-done.sink) (g.K.Sink.contents c.write.new.self) (take done bytes) (take n (drop done bytes)) c.loop-done.invariant.wrote
          (subst (λ (l : List ℕ). held (take n l)) (take_rest bytes done) c.in-Ok.ensures.bytes));
      writes = record {
        moves = record { bytes = drop done bytes; answer = Ok n } ∷ writes.moves;
        called = (c.loop-done.sink, (writes.called, subst (λ (l : List ℕ). g.K.Sink.write_gives c.loop-done.sink l (Ok n) c.write.new.self) (take_rest bytes done) c.in-Ok.ensures.gives));
        all = ap (λ (l : List ℕ). l ++ take n (drop done bytes)) writes.all ∙ sym (take-add done n bytes);
      };
      stands = c.in-Ok.ensures.cause.stands ∙ c.loop-done.invariant.stands;
    }

pub returns-in-Err-clause-err : goal.returns-in-Err-clause-err
returns-in-Err-clause-err g c = record {
  front = take c.loop-done.done c.args.bytes.now;
  back = drop c.loop-done.done c.args.bytes.now;
  parts = sym (take-append-drop c.loop-done.done c.args.bytes.now);
  appends = Appends-kept (g.K.Sink.contents c.args.sink.now) (g.K.Sink.contents c.loop-done.sink) (g.K.Sink.contents c.write.new.self) _ c.loop-done.invariant.wrote c.in-Err.ensures.bytes;
}

-- the write that failed is one of them
pub returns-in-Err-clause-writes_front : goal.returns-in-Err-clause-writes_front
returns-in-Err-clause-writes_front g c =
    let bytes = c.args.bytes.now in
    let done = c.loop-done.done in
    let writes = c.loop-done.invariant.writes in
    record {
      front = take done bytes;
      back = drop done bytes;
      parts = sym (take-append-drop done bytes);
      moves = record {
        moves = record { bytes = drop done bytes; answer = Err c.in-Err.failed } ∷ writes.moves;
        called = (c.loop-done.sink, (writes.called, subst (λ (l : List ℕ). g.K.Sink.write_gives c.loop-done.sink l (Err c.in-Err.failed) c.write.new.self) (take_rest bytes done) c.in-Err.ensures.gives));
        all = append-nil (moved writes.moves) ∙ writes.all;
      };
    }
