-- What a run leaves that reads no tape.
use Rattle.std.proofs.Common.{◌≡◌, ◌⊎◌, inl, inr, ℕ, List, [], Option, Some, Result, refl, sym, ap, subst, ◌∙◌}
use Rattle.std.proofs.lemmas.List.{append-nil}
use Rattle.std.specs.Io.KnownBytes.{Appends}
use Rattle.std.proofs.KnownBytes.{Consumes-nil}
use Rattle.gate_outside.specs.declared.fault.Failed.{Failed}
use Rattle.gate_outside.specs.Front.{AppendsFront}
use Rattle.gate_outside.specs.Moved.{Moves, MovesFront}
use Rattle.tape_run.specs.declared.status.Status.{Status}
use Rattle.tape_run.specs.declared.status.Status.TheVariants.{Done, Usage, WriteFault, OutOfMemory}
use Rattle.tape_run.specs.Run.{LeavesTold, LeavesWhereTold}
use Rattle.tape_run.specs.Printout.{Printout, untaped}
use Rattle.tape_run.specs.Logs.{RunLeaves, RunWrites}
use Rattle.gate_outside.proofs.Moving.{moves-none}
use Rattle.tape_run.proofs.lemmas.runs.Told.{leaves-told}

pub write-memory : {A : Type 0} → WriteFault ≡ OutOfMemory → A
write-memory e = cc

-- nothing was read or written
told-none : (p : Printout) (remaining contents : Option (List ℕ)) → LeavesWhereTold OutOfMemory p remaining remaining contents contents
told-none p remaining contents = λ tape text remaining-is contents-is. ([], contents-is ∙ ap (λ (l : List ℕ). Some l) (sym (append-nil text)), record { back = p.text tape; text-is = refl })

pub leaves-none : {S K : Type 0} (read_gives : S → List ℕ → Result ℕ Failed → S → Type 0) (write_gives : K → List ℕ → Result ℕ Failed → K → Type 0) (remaining : S → Option (List ℕ)) (contents : K → Option (List ℕ)) (p : Printout) (tape : S) (out : K) → RunLeaves read_gives write_gives remaining contents OutOfMemory p tape tape out out
leaves-none read_gives write_gives remaining contents p tape out = record {
  by_log = record {
    reads = [];
    read = refl;
    written = [];
    writes = moves-none write_gives out;
    leaves = λ later follows. record { back = p.text later; text-is = refl };
    wants = λ e. refl;
  };
  where_told = told-none p (remaining tape) (contents out);
}

-- a text is written for which no tape is read
pub leaves-unread : {S K : Type 0} (read_gives : S → List ℕ → Result ℕ Failed → S → Type 0) (write_gives : K → List ℕ → Result ℕ Failed → K → Type 0) (remaining : S → Option (List ℕ)) (contents : K → Option (List ℕ)) (status : Status) (p : Printout) (tape : S) (out_old out : K) → RunWrites write_gives contents status p out_old out
    → RunLeaves read_gives write_gives remaining contents status p tape tape out_old out
leaves-unread read_gives write_gives remaining contents status p tape out_old out w = record {
  by_log = record {
    reads = [];
    read = refl;
    written = w.by_log.written;
    writes = w.by_log.writes;
    leaves = λ later follows. w.by_log.leaves later;
    wants = w.by_log.wants;
  };
  where_told = w.where_told (remaining tape);
}

-- memory ran out before
pub wrote-none : {K : Type 0} (write_gives : K → List ℕ → Result ℕ Failed → K → Type 0) (contents : K → Option (List ℕ)) (p : Printout) (out : K) → RunWrites write_gives contents OutOfMemory p out out
wrote-none write_gives contents p out = record {
  by_log = record {
    written = [];
    writes = moves-none write_gives out;
    leaves = λ tape. record { back = p.text tape; text-is = refl };
    wants = λ e. refl;
  };
  where_told = λ remaining. told-none p remaining (contents out);
}

-- the text is written
wrote-all : {K : Type 0} (write_gives : K → List ℕ → Result ℕ Failed → K → Type 0) (contents : K → Option (List ℕ)) (status : Status) (p : Printout) (text : List ℕ) (out_old out : K) → (status ≡ OutOfMemory → ⊥) → ((tape : List ℕ) → LeavesTold status p tape (Some tape) text) → Moves write_gives text out_old out
    → Appends (contents out_old) (contents out) text → RunWrites write_gives contents status p out_old out
wrote-all write_gives contents status p text out_old out remembers leaves m a = record {
  by_log = record { written = text; writes = m; leaves = leaves; wants = λ e. absurd (remembers e) };
  where_told = λ remaining. leaves-told status p remaining remaining (contents out_old) (contents out) [] text (Consumes-nil remaining) a (λ later told. leaves later);
}

pub wrote-text : {K : Type 0} (write_gives : K → List ℕ → Result ℕ Failed → K → Type 0) (contents : K → Option (List ℕ)) (status : Status) (text : List ℕ) (out_old out : K) → (status ≡ Done) ⊎ (status ≡ Usage) → Moves write_gives text out_old out → Appends (contents out_old) (contents out) text
    → RunWrites write_gives contents status (untaped status text) out_old out
wrote-text {K = K} write_gives contents status text out_old out is m a = go is
  where
    wrote : (s : Status) → (s ≡ OutOfMemory → ⊥) → ((tape : List ℕ) → LeavesTold s (untaped s text) tape (Some tape) text) → s ≡ status → RunWrites write_gives contents status (untaped status text) out_old out
    wrote s remembers leaves same = subst (λ (x : Status). RunWrites write_gives contents x (untaped x text) out_old out) same (wrote-all write_gives contents s (untaped s text) text out_old out remembers leaves m a)

    go : (status ≡ Done) ⊎ (status ≡ Usage) → RunWrites write_gives contents status (untaped status text) out_old out
    go (inl done) = wrote Done (λ e. cc) (λ tape. (refl, record { text-is = refl; status-is = refl })) (sym done)
    go (inr usage) = wrote Usage (λ e. cc) (λ tape. (refl, record { text-is = refl; status-is = refl })) (sym usage)

-- a front of it is written
pub wrote-front : {K : Type 0} (write_gives : K → List ℕ → Result ℕ Failed → K → Type 0) (contents : K → Option (List ℕ)) (status : Status) (text : List ℕ) (out_old out : K) → MovesFront write_gives text out_old out → AppendsFront (contents out_old) (contents out) text → RunWrites write_gives contents WriteFault (untaped status text) out_old out
wrote-front write_gives contents status text out_old out m f = record {
  by_log = record {
    written = m.front;
    writes = m.moves;
    leaves = λ tape. record { back = m.back; text-is = m.parts };
    wants = λ e. write-memory e;
  };
  where_told = λ remaining. leaves-told WriteFault (untaped status text) remaining remaining (contents out_old) (contents out) [] f.front (Consumes-nil remaining) f.appends
      (λ later told. record { back = f.back; text-is = f.parts });
}
