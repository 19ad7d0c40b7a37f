use Rattle.std.proofs.Common.{ℕ, ◌-◌, List, ◌++◌, take, drop, length, sym, ◌∙◌, ap, arith}
use Rattle.std.proofs.lemmas.List.{take_rest, length-take, length-drop, take-append-drop}
use Rattle.std.proofs.Math.Seq.{take-add}
use Rattle.gate_outside.specs.Link.{Link}
use Rattle.gate_outside.specs.Doors.{faulted}
use Rattle.bridge_run.specs.inner.Links.{wrote}
use Rattle.bridge_run.proofs.lemmas.written.Links.{wrote-twice}
use Rattle.bridge_run.proofs.lemmas.log.Writing.{wrote-call, failed-behind}
use Rattle.bridge_run.proofs.written.link.write_link.Goals as goal

pub loop-done-preserved : goal.loop-done-preserved
loop-done-preserved g c =
    let bytes = c.args.bytes.now in
    let done = c.loop-done.done in
    let n = c.in-Ok.n in
    let before = g.D.Doors.link c.args.doors.now c.args.side in
    record {
      within = omega (arith, c.in-Ok.ensures.link.1, length-take (length bytes - done) (drop done bytes), length-drop done bytes);
      wrote = c.in-Ok.ensures.link.2
          ∙ ap (λ (l : List ℕ). wrote (take n l) (g.D.Doors.link c.loop-done.doors c.args.side)) (take_rest bytes done)
          ∙ ap (λ (l : Link). wrote (take n (drop done bytes)) l) c.loop-done.invariant.wrote
          ∙ wrote-twice (take done bytes) (take n (drop done bytes)) before
          ∙ ap (λ (l : List ℕ). wrote l before) (sym (take-add done n bytes));
      other = c.in-Ok.ensures.other ∙ c.loop-done.invariant.other;
      door = c.in-Ok.ensures.door ∙ c.loop-done.invariant.door;
      log = λ begun calls called.
          wrote-call g.D.Doors.call_gives c.args.side (take done bytes) _ _ _ calls begun c.loop-done.doors c.write.new.self
          (ap (λ (l : List ℕ). take done bytes ++ take n l) (take_rest bytes done) ∙ sym (take-add done n bytes)) (c.loop-done.invariant.log begun calls called) c.in-Ok.ensures.gives;
    }

pub returns-in-Err-clause-link : goal.returns-in-Err-clause-link
returns-in-Err-clause-link g c = record {
  front = take c.loop-done.done c.args.bytes.now;
  back = drop c.loop-done.done c.args.bytes.now;
  parts = sym (take-append-drop c.loop-done.done c.args.bytes.now);
  link = c.in-Err.ensures.link ∙ ap (λ (l : Link). faulted l) c.loop-done.invariant.wrote;
  is_up = c.if-not-up.false;
}

pub returns-in-Err-clause-log : goal.returns-in-Err-clause-log
returns-in-Err-clause-log g c = λ begun calls called.
    let front = take c.loop-done.done c.args.bytes.now in
    let back = drop c.loop-done.done c.args.bytes.now in
    failed-behind g.D.Doors.call_gives c.args.side c.args.up c.args.bytes.now front back _ _ calls begun c.loop-done.doors c.write.new.self c.if-not-up.false (sym (take-append-drop c.loop-done.done c.args.bytes.now))
    (c.loop-done.invariant.log begun calls called) c.in-Err.ensures.gives
