use Rattle.std.proofs.Common.{ℕ, ◌≤◌, Option, take, length, sym, subst, ap, ◌++◌, List, ◌∙◌, refl, arith}
use Rattle.std.proofs.lemmas.List.{length-take-le}
use Rattle.gate_outside.specs.Faults.{Rose}
use Rattle.gate_outside.specs.Moved.{moved}
use Rattle.tape_run.specs.declared.status.Status.{Status}
use Rattle.tape_run.specs.inner.tape.TapeReader.{Stepped, end_text}
use Rattle.tape_run.proofs.lemmas.tape.Stages.{room-falls}
use Rattle.tape_run.proofs.lemmas.runs.Going.{goes-none, goes-written, goes-read, runs-write, runs-read, runs-memory, runs-end, runs-last, read-end, closes-is_quiet, quiet-not_usage, causes-none, causes-read, causes-write}
use Rattle.tape_run.proofs.runs.read_pieces.Goals as goal

pub loop-reader-init : goal.loop-reader-init
loop-reader-init g c = record { room = c.requires.room; goes = λ task start. goes-none start; tape = refl; out = refl }

pub read-requires : goal.read-requires
read-requires g c = c.loop-reader.invariant.room

pub slice_bounds-step-end : goal.slice_bounds-step-end
slice_bounds-step-end g c = omega (arith, c.in-Ok.ensures.bound)

pub slice_bounds-step-end-in-loop-reader : goal.slice_bounds-step-end-in-loop-reader
slice_bounds-step-end-in-loop-reader g c = let bound : c.in-Ok.n ≤ length c.read.new.buf = omega (arith, c.in-Ok.ensures.bound) in sym (length-take-le c.in-Ok.n c.read.new.buf bound)

-- ---- the first write

pub returns-in-Err-clause-runs : goal.returns-in-Err-clause-runs
returns-in-Err-clause-runs g c = λ task start. runs-write (c.loop-reader.invariant.goes task start) c.as_slice.ensures c.in-Err.ensures.err c.in-Err.ensures.writes_front

pub returns-in-Err-clause-causes : goal.returns-in-Err-clause-causes
returns-in-Err-clause-causes g c = causes-write _ _ _ _ c.loop-reader.invariant.tape (subst (λ (x : ℕ). Rose x (g.K.Sink.faults c.write_all.new.sink)) c.loop-reader.invariant.out c.in-Err.ensures.cause.failed)

-- ---- the read

pub returns-in-Err-read-clause-runs : goal.returns-in-Err-read-clause-runs
returns-in-Err-read-clause-runs g c = λ task start.
    let now = goes-written (c.loop-reader.invariant.goes task start) c.as_slice.ensures c.in_default.ensures.ok c.in_default.ensures.writes c.clear.ensures in runs-read c.read.new.buf _ now c.clear.ensures c.in-Err-read.ensures.bytes c.in-Err-read.ensures.gives

pub returns-in-Err-read-clause-causes : goal.returns-in-Err-read-clause-causes
returns-in-Err-read-clause-causes g c =
    causes-read _ _ _ _ (subst (λ (x : ℕ). Rose x (g.S.Source.faults c.read.new.self)) c.loop-reader.invariant.tape c.in-Err-read.ensures.cause.failed)
    (c.in_default.ensures.cause.stands ∙ c.loop-reader.invariant.out)

-- ---- the step

pub returns-in-Err-step-clause-runs : goal.returns-in-Err-step-clause-runs
returns-in-Err-step-clause-runs g c = λ task start.
    let now = goes-written (c.loop-reader.invariant.goes task start) c.as_slice.ensures c.in_default.ensures.ok c.in_default.ensures.writes c.clear.ensures in
    runs-memory c.in-Ok.n c.read.new.buf now c.clear.ensures c.in-Ok.ensures.bytes.0 c.in-Ok.ensures.gives (c.in-Err-step.ensures.wants task (moved now.reads) now.written now.stage)

pub returns-in-Err-step-clause-causes : goal.returns-in-Err-step-clause-causes
returns-in-Err-step-clause-causes g c =
    causes-none _ _ _ _ _ refl (c.in-Ok.ensures.cause.stands ∙ c.loop-reader.invariant.tape) (c.in_default.ensures.cause.stands ∙ c.loop-reader.invariant.out)

pub loop-reader-preserved : goal.loop-reader-preserved
loop-reader-preserved g c = record {
  room = omega (arith, c.read.auto.buf);
  goes = λ task start.
      let now = goes-written (c.loop-reader.invariant.goes task start) c.as_slice.ensures c.in_default.ensures.ok c.in_default.ensures.writes c.clear.ensures in
      let stepped = subst (λ (o : Option Status). Stepped (g.C.TapeCommand.means task) (g.C.TapeCommand.Keeps task) o c.step.new.self (take c.in-Ok.n c.read.new.buf) (moved now.reads) now.written) c.in_default-ended.is (c.in-Ok-step.ensures.ok task (moved now.reads) now.written now.stage) in
      goes-read c.in-Ok.n c.read.new.buf now c.in-Ok.ensures.gives c.in-Ok.ensures.bytes.0 stepped.1;
  tape = c.in-Ok.ensures.cause.stands ∙ c.loop-reader.invariant.tape;
  out = c.in_default.ensures.cause.stands ∙ c.loop-reader.invariant.out;
}

pub loop-reader-smaller : goal.loop-reader-smaller
loop-reader-smaller g c =
    let task = c.requires.start.0 in
    let now = goes-written (c.loop-reader.invariant.goes task c.requires.start.1) c.as_slice.ensures c.in_default.ensures.ok c.in_default.ensures.writes c.clear.ensures in
    let stepped = subst (λ (o : Option Status). Stepped (g.C.TapeCommand.means task) (g.C.TapeCommand.Keeps task) o c.step.new.self (take c.in-Ok.n c.read.new.buf) (moved now.reads) now.written) c.in_default-ended.is (c.in-Ok-step.ensures.ok task (moved now.reads) now.written now.stage) in
    room-falls (g.C.TapeCommand.means task) (g.C.TapeCommand.Keeps task) (take c.in-Ok.n c.read.new.buf) now.stage stepped.1 stepped.0

-- ---- the end

pub returns-in-Some-clause-runs : goal.returns-in-Some-clause-runs
returns-in-Some-clause-runs g c = λ task start.
    let n = c.in-Ok.n in
    let buf = c.read.new.buf in
    let now = goes-written (c.loop-reader.invariant.goes task start) c.as_slice.ensures c.in_default.ensures.ok c.in_default.ensures.writes c.clear.ensures in
    let closes = subst (λ (o : Option Status). Stepped (g.C.TapeCommand.means task) (g.C.TapeCommand.Keeps task) o c.step.new.self (take n buf) (moved now.reads) now.written) c.in-Some.is (c.in-Ok-step.ensures.ok task (moved now.reads) now.written now.stage) in
    let bound : n ≤ length buf = omega (arith, c.in-Ok.ensures.bound) in
    runs-end n buf now bound c.in-Ok.ensures.bytes.0 (read-end n buf (g.S.Source.remaining c.read.new.self) bound (omega (arith, c.read.auto.buf)) c.in-Ok.ensures.bytes.1) c.in-Ok.ensures.gives closes
    (ap (λ (l : List ℕ). l ++ end_text c.in-Some.status) c.as_slice-in-Some.ensures) c.in_default-write_end.ensures.ok c.in_default-write_end.ensures.writes

pub returns-in-Err-write_end-clause-runs : goal.returns-in-Err-write_end-clause-runs
returns-in-Err-write_end-clause-runs g c = λ task start.
    let n = c.in-Ok.n in
    let buf = c.read.new.buf in
    let now = goes-written (c.loop-reader.invariant.goes task start) c.as_slice.ensures c.in_default.ensures.ok c.in_default.ensures.writes c.clear.ensures in
    let closes = subst (λ (o : Option Status). Stepped (g.C.TapeCommand.means task) (g.C.TapeCommand.Keeps task) o c.step.new.self (take n buf) (moved now.reads) now.written) c.in-Some.is (c.in-Ok-step.ensures.ok task (moved now.reads) now.written now.stage) in
    let bound : n ≤ length buf = omega (arith, c.in-Ok.ensures.bound) in
    runs-last n buf now bound c.in-Ok.ensures.bytes.0 (read-end n buf (g.S.Source.remaining c.read.new.self) bound (omega (arith, c.read.auto.buf)) c.in-Ok.ensures.bytes.1) c.in-Ok.ensures.gives closes
    (ap (λ (l : List ℕ). l ++ end_text c.in-Some.status) c.as_slice-in-Some.ensures) c.in-Err-write_end.ensures.err c.in-Err-write_end.ensures.writes_front

pub returns-in-Err-write_end-clause-causes : goal.returns-in-Err-write_end-clause-causes
returns-in-Err-write_end-clause-causes g c =
    causes-write _ _ _ _ (c.in-Ok.ensures.cause.stands ∙ c.loop-reader.invariant.tape)
    (subst (λ (x : ℕ). Rose x (g.K.Sink.faults c.write_end.new.out)) (c.in_default.ensures.cause.stands ∙ c.loop-reader.invariant.out) c.in-Err-write_end.ensures.cause.failed)

pub returns-in-Some-clause-causes : goal.returns-in-Some-clause-causes
returns-in-Some-clause-causes g c =
    let task = c.requires.start.0 in
    let now = goes-written (c.loop-reader.invariant.goes task c.requires.start.1) c.as_slice.ensures c.in_default.ensures.ok c.in_default.ensures.writes c.clear.ensures in
    let closes = subst (λ (o : Option Status). Stepped (g.C.TapeCommand.means task) (g.C.TapeCommand.Keeps task) o c.step.new.self (take c.in-Ok.n c.read.new.buf) (moved now.reads) now.written) c.in-Some.is (c.in-Ok-step.ensures.ok task (moved now.reads) now.written now.stage) in
    causes-none _ _ _ _ _ (closes-is_quiet (g.C.TapeCommand.means task) (g.C.TapeCommand.Keeps task) (moved now.reads) closes) (c.in-Ok.ensures.cause.stands ∙ c.loop-reader.invariant.tape)
    (c.in_default-write_end.ensures.cause.stands ∙ c.in_default.ensures.cause.stands ∙ c.loop-reader.invariant.out)

pub returns-in-Some-clause-command : goal.returns-in-Some-clause-command
returns-in-Some-clause-command g c =
    let task = c.requires.start.0 in
    let now = goes-written (c.loop-reader.invariant.goes task c.requires.start.1) c.as_slice.ensures c.in_default.ensures.ok c.in_default.ensures.writes c.clear.ensures in
    let closes = subst (λ (o : Option Status). Stepped (g.C.TapeCommand.means task) (g.C.TapeCommand.Keeps task) o c.step.new.self (take c.in-Ok.n c.read.new.buf) (moved now.reads) now.written) c.in-Some.is (c.in-Ok-step.ensures.ok task (moved now.reads) now.written now.stage) in
    quiet-not_usage c.in-Some.status (closes-is_quiet (g.C.TapeCommand.means task) (g.C.TapeCommand.Keeps task) (moved now.reads) closes)
