-- In the middle of a run, and how it ends.
use Rattle.std.proofs.Common.{◌≡◌, ◌⊎◌, inl, inr, ℕ, ◌+◌, ◌<◌, ◌≤◌, Bool, true, false, cond, if◌then◌else◌, List, [], ◌∷◌, ◌++◌, length, take, Option, Some, None, Result, Ok, Err, refl, sym, ap, subst, ◌∙◌, append_assoc}
use Rattle.std.proofs.lemmas.List.{append-nil, length-take-le}
use Rattle.std.specs.Io.KnownBytes.{Appends, Consumes, Keeps as KeepsBytes, IsAtEnd}
use Rattle.std.proofs.KnownBytes.{Appends-nil, Appends-trans, Consumes-nil, Consumes-trans, Consumes-kept}
use Rattle.gate_outside.specs.Faults.{Rose}
use Rattle.gate_outside.specs.declared.fault.Failed.{Failed}
use Rattle.gate_outside.specs.Front.{AppendsFront}
use Rattle.gate_outside.specs.Moved.{Move, Moved, moved, MayFollow, Moves, MovesFront}
use Rattle.tape_run.specs.declared.tape.reader.TapeReader.{TapeReader}
use Rattle.tape_run.specs.declared.status.Status.{Status}
use Rattle.tape_run.specs.declared.status.Status.TheVariants.{Done, Usage, Refused, ReadFault, WriteFault, LinkFault, OutOfMemory, BadTape, Idle, Spent}
use Rattle.tape_run.specs.tape.Tape.{lines_of}
use Rattle.packet_show.specs.declared.tape.TheConstants.{TAPE_LIMIT}
use Rattle.tape_run.specs.tape.TapeCommand.{TapeCommand, begin, Reading, read_lines, read_tape, whole_text}
use Rattle.tape_run.specs.Printout.{Printout, tape_printout}
use Rattle.tape_run.specs.Causes.{HasCauses, OpensNoLink}
use Rattle.tape_run.specs.Run.{ReadInPart, WrittenInPart, WrittenWhole, LeavesTold, ComesToEnd}
use Rattle.tape_run.specs.Logs.{LeavesByLog}
use Rattle.tape_run.specs.Wants.{ReadWants, RunsOut}
use Rattle.tape_run.specs.tape.Kept.{SomeKeeps, ReaderRuns}
use Rattle.tape_run.specs.inner.tape.TapeReader.{Stage, Closes, end_text}
use Rattle.tape_run.proofs.lemmas.tape.Stages.{text_begins}
use Rattle.gate_outside.proofs.Moving.{moves-none, moves-append}
use Rattle.tape_run.proofs.lemmas.runs.Moving.{at_end}
use Rattle.tape_run.proofs.lemmas.runs.Unread.{leaves-none, write-memory}
use Rattle.tape_run.proofs.lemmas.tape.Wanting.{whole-read}
use Rattle.tape_run.proofs.lemmas.runs.Told.{remaining_told, at_end_told, leaves-told}

-- ---- in the middle

-- these reads were made, and these bytes were written; the tape and the sink tell the same, where they tell anything
pub record Goes {C T S K : Type 0} (command : TapeCommand T) (Keeps : C → T → Type 0) (read_gives : S → List ℕ → Result ℕ Failed → S → Type 0) (write_gives : K → List ℕ → Result ℕ Failed → K → Type 0) (remaining : S → Option (List ℕ)) (contents : K → Option (List ℕ))
    (tape_old tape : S) (out_old out : K) (p : TapeReader C) : Type 0 where
  pub reads : List Move
  pub written : List ℕ
  pub read : Moved read_gives reads tape_old tape
  pub writes : Moves write_gives written out_old out
  pub consumed : Consumes (remaining tape_old) (remaining tape) (moved reads)
  pub wrote : Appends (contents out_old) (contents out) written
  pub stage : Stage command Keeps p (moved reads) written

-- ---- the end

-- no fault, and no other command's end
abbrev pub is_quiet : Status → Bool
is_quiet Done = true
is_quiet Usage = false
is_quiet Refused = true
is_quiet ReadFault = false
is_quiet WriteFault = false
is_quiet (LinkFault side) = false
is_quiet OutOfMemory = true
is_quiet (BadTape number) = true
is_quiet Idle = false
is_quiet Spent = false

end_by : (bad refused : Bool) (number : ℕ) → is_quiet (cond bad (BadTape number) (cond refused Refused Done)) ≡ true
end_by true refused number = refl
end_by false true number = refl
end_by false false number = refl

-- nor is it for want of memory
remembers : (bad refused : Bool) (number : ℕ) → cond bad (BadTape number) (cond refused Refused Done) ≡ OutOfMemory → ⊥
remembers true refused number e = cc
remembers false true number e = cc
remembers false false number e = cc

pub false-true : {A : Type 0} → false ≡ true → A
false-true e = cc

done-bad : {A : Type 0} (n : ℕ) → Done ≡ BadTape n → A
done-bad n e = cc

refused-bad : {A : Type 0} (n : ℕ) → Refused ≡ BadTape n → A
refused-bad n e = cc

-- the tape has come to its end, or the status is that of a bad line
ends_by : (status : Status) (p : Printout) (tape text : List ℕ) (remaining : Option (List ℕ)) → is_quiet status ≡ true → WrittenWhole status p tape text
    → ((number : ℕ) × (status ≡ BadTape number)) ⊎ (remaining ≡ Some (p.rest tape)) → LeavesTold status p tape remaining text
ends_by Done p tape text remaining e written (inl b) = done-bad b.0 b.1
ends_by Done p tape text remaining e written (inr none) = (none, written)
ends_by Refused p tape text remaining e written (inl b) = refused-bad b.0 b.1
ends_by Refused p tape text remaining e written (inr none) = (none, written)
ends_by (BadTape n) p tape text remaining e written either = written
ends_by Usage p tape text remaining e written either = false-true e
ends_by ReadFault p tape text remaining e written either = false-true e
ends_by WriteFault p tape text remaining e written either = false-true e
ends_by (LinkFault side) p tape text remaining e written either = false-true e
ends_by OutOfMemory p tape text remaining e written either = record { back = []; text-is = written.text-is ∙ sym (append-nil text) }
ends_by Idle p tape text remaining e written either = false-true e
ends_by Spent p tape text remaining e written either = false-true e

pub comes-to : {A : Type 0} (status : Status) → A → ComesToEnd status A
comes-to Done a = a
comes-to Usage a = tt
comes-to Refused a = a
comes-to ReadFault a = tt
comes-to WriteFault a = tt
comes-to (LinkFault side) a = tt
comes-to OutOfMemory a = tt
comes-to (BadTape number) a = a
comes-to Idle a = tt
comes-to Spent a = tt

pub comes-too : {A B : Type 0} (status : Status) → (A → B) → ComesToEnd status A → ComesToEnd status B
comes-too Done f a = f a
comes-too Usage f a = tt
comes-too Refused f a = f a
comes-too ReadFault f a = tt
comes-too WriteFault f a = tt
comes-too (LinkFault side) f a = tt
comes-too OutOfMemory f a = tt
comes-too (BadTape number) f a = f a
comes-too Idle f a = tt
comes-too Spent f a = tt

closed : (piece rest : List ℕ) (status : Status) (remaining : Option (List ℕ)) → ((piece ≡ [] → ⊥) → (number : ℕ) × (status ≡ BadTape number)) → (piece ≡ [] → rest ≡ []) → remaining ≡ Some rest
    → ((number : ℕ) × (status ≡ BadTape number)) ⊎ (remaining ≡ Some [])
closed [] rest status remaining bad none e = inr (e ∙ ap (λ (l : List ℕ). Some l) (none refl))
closed (b ∷ bs) rest status remaining bad none e = inl (bad (λ (e : b ∷ bs ≡ []). cc))

-- ---- of a command, which keeps what Keeps says

pub closes-is_quiet : {C T : Type 0} (command : TapeCommand T) (Keeps : C → T → Type 0) {status : Status} {p : TapeReader C} {piece written : List ℕ} (read : List ℕ) → Closes command Keeps status p piece read written → is_quiet status ≡ true
closes-is_quiet {T = T} command Keeps {piece = piece} read c =
    let x = read_lines command (begin command) (lines_of ((read ++ piece) ++ [])) in
    ap is_quiet (sym (c.outcome [] (λ _. refl))) ∙ end_by x.bad (command.refused x.after.kept) (x.after.lines + 1)

pub closes-remembers : {C T : Type 0} (command : TapeCommand T) (Keeps : C → T → Type 0) {status : Status} {p : TapeReader C} {piece written : List ℕ} (read : List ℕ) → Closes command Keeps status p piece read written → status ≡ OutOfMemory → ⊥
closes-remembers {T = T} command Keeps {piece = piece} read c e =
    let x = read_lines command (begin command) (lines_of ((read ++ piece) ++ [])) in
    remembers x.bad (command.refused x.after.kept) (x.after.lines + 1) (c.outcome [] (λ _. refl) ∙ e)

module _ {C T : Type 0} {command : TapeCommand T} {Keeps : C → T → Type 0} where
  -- all text is written
  end-whole : {status : Status} {q : TapeReader C} {bytes written : List ℕ} (piece read : List ℕ) → Closes command Keeps status q piece read written → bytes ≡ q.text ++ end_text status → (later : List ℕ) → (piece ≡ [] → later ≡ [])
      → LeavesTold status (tape_printout command) ((read ++ piece) ++ later) (Some later) (written ++ bytes)
  end-whole {status = status} {bytes = bytes} {written = written} piece read c bytes-is later none =
      ends_by status (tape_printout command) ((read ++ piece) ++ later) (written ++ bytes) (Some later) (closes-is_quiet command Keeps read c) (record {
        text-is = c.text later none ∙ ap (λ (l : List ℕ). written ++ l) (sym bytes-is);
        status-is = sym (c.outcome later none);
      }) (closed piece later status (Some later) c.bad none refl)

  -- a front of it is
  last-part : {status : Status} {q : TapeReader C} {written : List ℕ} (piece read front back : List ℕ) → Closes command Keeps status q piece read written → q.text ++ end_text status ≡ front ++ back → (later : List ℕ) → (piece ≡ [] → later ≡ [])
      → WrittenInPart (tape_printout command) ((read ++ piece) ++ later) (written ++ front)
  last-part {written = written} piece read front back c parts later none = record {
    back = back;
    text-is = c.text later none ∙ ap (λ (l : List ℕ). written ++ l) parts ∙ sym (append_assoc written front back);
  }

-- ---- a run

read-memory : {A : Type 0} → ReadFault ≡ OutOfMemory → A
read-memory e = cc

module _ {C T S K : Type 0} {command : TapeCommand T} {Keeps : C → T → Type 0} {read_gives : S → List ℕ → Result ℕ Failed → S → Type 0} {write_gives : K → List ℕ → Result ℕ Failed → K → Type 0} {remaining : S → Option (List ℕ)} {contents : K → Option (List ℕ)} where
  pub goes-none : {tape : S} {out : K} {p : TapeReader C} → Stage command Keeps p [] [] → Goes command Keeps read_gives write_gives remaining contents tape tape out out p
  goes-none {tape = tape} {out = out} s = record { reads = []; written = []; read = refl; writes = moves-none write_gives out; consumed = Consumes-nil (remaining tape); wrote = Appends-nil (contents out); stage = s }

  -- all text is written
  pub goes-written : {tape_old tape : S} {out_old out new : K} {p : TapeReader C} {text none : List ℕ} → Goes command Keeps read_gives write_gives remaining contents tape_old tape out_old out p → text ≡ p.text → Appends (contents out) (contents new) text → Moves write_gives text out new → none ≡ []
      → Goes command Keeps read_gives write_gives remaining contents tape_old tape out_old new (record p { text = none })
  goes-written {out_old = out_old} {out = out} {new = new} {p = p} g is a m e = record {
    reads = g.reads;
    written = g.written ++ p.text;
    read = g.read;
    writes = moves-append write_gives g.written p.text out_old out new g.writes (subst (λ (l : List ℕ). Moves write_gives l out new) is m);
    consumed = g.consumed;
    wrote = Appends-trans (contents out_old) (contents out) (contents new) g.written p.text g.wrote (subst (Appends (contents out) (contents new)) is a);
    stage = record {
      whole = g.stage.whole;
      text = g.stage.text;
      at = g.stage.at;
      read-is = g.stage.read-is;
      whole_lines = g.stage.whole_lines;
      part_of_line = g.stage.part_of_line;
      bytes-is = g.stage.bytes-is;
      within = g.stage.within;
      text-is = ap (λ (l : List ℕ). (g.written ++ p.text) ++ l) e ∙ append-nil (g.written ++ p.text) ∙ g.stage.text-is;
      reads = g.stage.reads;
      has_read = g.stage.has_read;
    };
  }

  -- a piece more was read
  pub goes-read : {tape_old tape new : S} {out_old out : K} {p q : TapeReader C} (n : ℕ) (buf : List ℕ) (g : Goes command Keeps read_gives write_gives remaining contents tape_old tape out_old out p) → read_gives tape buf (Ok n) new → Consumes (remaining tape) (remaining new) (take n buf)
      → Stage command Keeps q (moved g.reads ++ take n buf) g.written → Goes command Keeps read_gives write_gives remaining contents tape_old new out_old out q
  goes-read {tape_old = tape_old} {tape = tape} {new = new} n buf g gives read s = record {
    reads = record { bytes = buf; answer = Ok n } ∷ g.reads;
    written = g.written;
    read = (tape, (g.read, gives));
    writes = g.writes;
    consumed = Consumes-trans (remaining tape_old) (remaining tape) (remaining new) (moved g.reads) (take n buf) g.consumed read;
    wrote = g.wrote;
    stage = s;
  }

  -- ---- ends in the middle

  -- memory runs out before anything was read
  pub runs-none : (tape : S) (out : K) → ReaderRuns command Keeps read_gives write_gives remaining contents OutOfMemory tape tape out out
  runs-none tape out = record { leaves = leaves-none read_gives write_gives remaining contents (tape_printout command) tape out; kept = record { by_log = tt; where_told = tt } }

  -- a front of the text is written
  in_part : {tape_old tape : S} {out_old out : K} {p : TapeReader C} (g : Goes command Keeps read_gives write_gives remaining contents tape_old tape out_old out p) (front back : List ℕ) → p.text ≡ front ++ back → (later : List ℕ) → WrittenInPart (tape_printout command) (moved g.reads ++ later) (g.written ++ front)
  in_part g front back parts later =
      let begins = text_begins command Keeps g.stage later in
      record {
        back = back ++ begins.0;
        text-is = begins.1 ∙ ap (λ (l : List ℕ). l ++ begins.0) (ap (λ (l : List ℕ). g.written ++ l) parts ∙ sym (append_assoc g.written front back)) ∙ append_assoc (g.written ++ front) back begins.0;
      }

  -- the write of the text fails
  pub runs-write : {tape_old tape : S} {out_old out new : K} {p : TapeReader C} {bytes : List ℕ} → Goes command Keeps read_gives write_gives remaining contents tape_old tape out_old out p → bytes ≡ p.text → AppendsFront (contents out) (contents new) bytes → MovesFront write_gives bytes out new → ReaderRuns command Keeps read_gives write_gives remaining contents WriteFault tape_old tape out_old new
  runs-write {tape_old = tape_old} {tape = tape} {out_old = out_old} {out = out} {new = new} g bytes-is f m = record {
    leaves = record {
      by_log = record {
        reads = g.reads;
        read = g.read;
        written = g.written ++ m.front;
        writes = moves-append write_gives g.written m.front out_old out new g.writes m.moves;
        leaves = λ later follows. in_part g m.front m.back (sym bytes-is ∙ m.parts) later;
        wants = λ e. write-memory e;
      };
      where_told = leaves-told WriteFault (tape_printout command) (remaining tape_old) (remaining tape) (contents out_old) (contents new) (moved g.reads) (g.written ++ f.front) g.consumed
          (Appends-trans (contents out_old) (contents out) (contents new) g.written f.front g.wrote f.appends) (λ later told. in_part g f.front f.back (sym bytes-is ∙ f.parts) later);
    };
    kept = record { by_log = tt; where_told = tt };
  }

  -- the text of whole lines is written
  read-part : {tape_old tape : S} {out_old out : K} {p : TapeReader C} (g : Goes command Keeps read_gives write_gives remaining contents tape_old tape out_old out p) → p.text ≡ [] → (later : List ℕ) → ReadInPart (tape_printout command) (moved g.reads ++ later) (Some later) g.written
  read-part {p = p} g none later =
      let s = g.stage in
      let written : g.written ≡ command.opening ++ s.text = sym (append-nil g.written) ∙ ap (λ (l : List ℕ). g.written ++ l) (sym none) ∙ s.text-is in
      record {
        whole = s.whole;
        part = p.pending;
        rest = later;
        tape-is = ap (λ (l : List ℕ). l ++ later) s.read-is;
        whole_lines = s.whole_lines;
        part_of_line = s.part_of_line;
        good = ap (λ (x : Reading T). if x.bad then None else Some (command.opening ++ x.text)) (whole-read command Keeps s) ∙ ap (λ (l : List ℕ). Some l) (sym written);
        within = subst (λ (n : ℕ). n + length p.pending ≤ TAPE_LIMIT) s.bytes-is s.within;
        remaining-is = refl;
      }

  -- what was read before, and nothing behind it
  part-alone : {tape_old tape : S} {out_old out : K} {p : TapeReader C} (g : Goes command Keeps read_gives write_gives remaining contents tape_old tape out_old out p) → p.text ≡ [] → (later : List ℕ) → ReadInPart (tape_printout command) ((moved g.reads ++ []) ++ later) (Some later) g.written
  part-alone g none later = subst (λ (l : List ℕ). ReadInPart (tape_printout command) (l ++ later) (Some later) g.written) (sym (append-nil (moved g.reads))) (read-part g none later)

  -- one read more was made, behind which nothing is written
  one-read : {status : Status} {tape_old tape new : S} {out_old out : K} {p : TapeReader C} (buf : List ℕ) (answer : Result ℕ Failed) (g : Goes command Keeps read_gives write_gives remaining contents tape_old tape out_old out p) → read_gives tape buf answer new
      → ((later : List ℕ) → MayFollow (record { bytes = buf; answer = answer } ∷ g.reads) later → LeavesTold status (tape_printout command) (moved (record { bytes = buf; answer = answer } ∷ g.reads) ++ later) (Some later) g.written)
      → (status ≡ OutOfMemory → RunsOut (tape_printout command) (record { bytes = buf; answer = answer } ∷ g.reads) g.written) → LeavesByLog read_gives write_gives status (tape_printout command) tape_old new out_old out
  one-read {tape = tape} buf answer g gives leaves wants = record {
    reads = record { bytes = buf; answer = answer } ∷ g.reads;
    read = (tape, (g.read, gives));
    written = g.written;
    writes = g.writes;
    leaves = leaves;
    wants = wants;
  }

  -- the read fails
  pub runs-read : {tape_old tape new : S} {out_old out : K} {p : TapeReader C} (buf : List ℕ) (failed : Failed) → Goes command Keeps read_gives write_gives remaining contents tape_old tape out_old out p → p.text ≡ [] → KeepsBytes (remaining tape) (remaining new) → read_gives tape buf (Err failed) new
      → ReaderRuns command Keeps read_gives write_gives remaining contents ReadFault tape_old new out_old out
  runs-read {tape_old = tape_old} {tape = tape} {new = new} {out_old = out_old} {out = out} buf failed g none kept gives = record {
    leaves = record {
      by_log = one-read buf (Err failed) g gives (λ later follows. part-alone g none later) (λ e. read-memory e);
      where_told = leaves-told ReadFault (tape_printout command) (remaining tape_old) (remaining new) (contents out_old) (contents out) (moved g.reads) g.written
          (Consumes-kept (remaining tape_old) (remaining tape) (remaining new) (moved g.reads) g.consumed kept) g.wrote (λ later told. read-part g none later);
    };
    kept = record { by_log = tt; where_told = tt };
  }

  -- memory runs out after a piece was read
  memory-part : {tape_old tape : S} {out_old out : K} {p : TapeReader C} (g : Goes command Keeps read_gives write_gives remaining contents tape_old tape out_old out p) (piece later : List ℕ) → WrittenInPart (tape_printout command) ((moved g.reads ++ piece) ++ later) g.written
  memory-part {p = p} g piece later =
      let begins = text_begins command Keeps g.stage (piece ++ later) in
      record {
        back = p.text ++ begins.0;
        text-is = ap (whole_text command) (append_assoc (moved g.reads) piece later) ∙ begins.1 ∙ append_assoc g.written p.text begins.0;
      }

  pub runs-memory : {tape_old tape new : S} {out_old out : K} {p : TapeReader C} (n : ℕ) (buf : List ℕ) (g : Goes command Keeps read_gives write_gives remaining contents tape_old tape out_old out p) → p.text ≡ [] → Consumes (remaining tape) (remaining new) (take n buf) → read_gives tape buf (Ok n) new
      → ReadWants (tape_printout command) (moved g.reads) (take n buf) → ReaderRuns command Keeps read_gives write_gives remaining contents OutOfMemory tape_old new out_old out
  runs-memory {tape_old = tape_old} {tape = tape} {new = new} {out_old = out_old} {out = out} n buf g none read gives wants = record {
    leaves = record {
      by_log = one-read buf (Ok n) g gives (λ later follows. memory-part g (take n buf) later)
          (λ e. (subst (λ (l : List ℕ). ReadInPart (tape_printout command) l (Some []) g.written) (append-nil (moved g.reads)) (read-part g none []), wants));
      where_told = leaves-told OutOfMemory (tape_printout command) (remaining tape_old) (remaining new) (contents out_old) (contents out) (moved g.reads ++ take n buf) g.written
          (Consumes-trans (remaining tape_old) (remaining tape) (remaining new) (moved g.reads) (take n buf) g.consumed read) g.wrote (λ later told. memory-part g (take n buf) later);
    };
    kept = record { by_log = tt; where_told = tt };
  }

  -- ---- the end

  -- all text is written, and the run ends; what the command then keeps
  pub runs-end : {tape_old tape new : S} {out_old out last : K} {p q : TapeReader C} {status : Status} {bytes : List ℕ} (n : ℕ) (buf : List ℕ) (g : Goes command Keeps read_gives write_gives remaining contents tape_old tape out_old out p) → n ≤ length buf → Consumes (remaining tape) (remaining new) (take n buf)
      → (take n buf ≡ [] → IsAtEnd (remaining new)) → read_gives tape buf (Ok n) new → Closes command Keeps status q (take n buf) (moved g.reads) g.written → bytes ≡ q.text ++ end_text status → Appends (contents out) (contents last) bytes → Moves write_gives bytes out last
      → ReaderRuns command Keeps read_gives write_gives remaining contents status tape_old new out_old last
  runs-end {tape_old = tape_old} {tape = tape} {new = new} {out_old = out_old} {out = out} {last = last} {status = status} {bytes = bytes} n buf g bound read end gives c bytes-is a m =
      let piece = take n buf in
      let consumed = Consumes-trans (remaining tape_old) (remaining tape) (remaining new) (moved g.reads) piece g.consumed read in
      let reads = record { bytes = buf; answer = Ok n } ∷ g.reads in
      record {
        leaves = record {
          by_log = record {
            reads = reads;
            read = (tape, (g.read, gives));
            written = g.written ++ bytes;
            writes = moves-append write_gives g.written bytes out_old out last g.writes m;
            leaves = λ later follows. end-whole piece (moved g.reads) c bytes-is later (at_end n buf g.reads later bound follows);
            wants = λ e. absurd (closes-remembers command Keeps (moved g.reads) c e);
          };
          where_told = leaves-told status (tape_printout command) (remaining tape_old) (remaining new) (contents out_old) (contents last) (moved g.reads ++ piece) (g.written ++ bytes) consumed
              (Appends-trans (contents out_old) (contents out) (contents last) g.written bytes g.wrote a) (λ later told. end-whole piece (moved g.reads) c bytes-is later (λ e. at_end_told (remaining new) later (end e) told));
        };
        kept = record {
          by_log = comes-to status (record { reads = reads; read = (tape, (g.read, gives)); each = λ later follows. c.kept later (at_end n buf g.reads later bound follows) });
          where_told = comes-to status (λ whole told.
              let t = remaining_told (remaining tape_old) (remaining new) (moved g.reads ++ piece) whole consumed told in
              subst (λ (l : List ℕ). SomeKeeps Keeps (read_tape command l).after.kept) (sym t.2) (c.kept t.0 (λ e. at_end_told (remaining new) t.0 (end e) t.1)));
        };
      }

  -- the last write fails
  pub runs-last : {tape_old tape new : S} {out_old out last : K} {p q : TapeReader C} {status : Status} {bytes : List ℕ} (n : ℕ) (buf : List ℕ) (g : Goes command Keeps read_gives write_gives remaining contents tape_old tape out_old out p) → n ≤ length buf → Consumes (remaining tape) (remaining new) (take n buf)
      → (take n buf ≡ [] → IsAtEnd (remaining new)) → read_gives tape buf (Ok n) new → Closes command Keeps status q (take n buf) (moved g.reads) g.written → bytes ≡ q.text ++ end_text status → AppendsFront (contents out) (contents last) bytes
      → MovesFront write_gives bytes out last → ReaderRuns command Keeps read_gives write_gives remaining contents WriteFault tape_old new out_old last
  runs-last {tape_old = tape_old} {tape = tape} {new = new} {out_old = out_old} {out = out} {last = last} n buf g bound read end gives c bytes-is f m =
      let piece = take n buf in
      record {
        leaves = record {
          by_log = record {
            reads = record { bytes = buf; answer = Ok n } ∷ g.reads;
            read = (tape, (g.read, gives));
            written = g.written ++ m.front;
            writes = moves-append write_gives g.written m.front out_old out last g.writes m.moves;
            leaves = λ later follows. last-part piece (moved g.reads) m.front m.back c (sym bytes-is ∙ m.parts) later (at_end n buf g.reads later bound follows);
            wants = λ e. write-memory e;
          };
          where_told = leaves-told WriteFault (tape_printout command) (remaining tape_old) (remaining new) (contents out_old) (contents last) (moved g.reads ++ piece) (g.written ++ f.front)
              (Consumes-trans (remaining tape_old) (remaining tape) (remaining new) (moved g.reads) piece g.consumed read) (Appends-trans (contents out_old) (contents out) (contents last) g.written f.front g.wrote f.appends)
              (λ later told. last-part piece (moved g.reads) f.front f.back c (sym bytes-is ∙ f.parts) later (λ e. at_end_told (remaining new) later (end e) told));
        };
        kept = record { by_log = tt; where_told = tt };
      }

-- ---- a read

-- a read gives nothing only at the end
pub read-end : (n : ℕ) (buf : List ℕ) (new : Option (List ℕ)) → n ≤ length buf → 0 < length buf → (n ≡ 0 → 0 < length buf → IsAtEnd new) → take n buf ≡ [] → IsAtEnd new
read-end n buf new bound room end e = end (sym (length-take-le n buf bound) ∙ ap length e) room

-- ---- causes

read-write : {A : Type 0} → ReadFault ≡ WriteFault → A
read-write e = cc

write-read : {A : Type 0} → WriteFault ≡ ReadFault → A
write-read e = cc

quiet-no_links : (status : Status) → is_quiet status ≡ true → OpensNoLink status
quiet-no_links Done quiet = tt
quiet-no_links Usage quiet = tt
quiet-no_links Refused quiet = tt
quiet-no_links ReadFault quiet = tt
quiet-no_links WriteFault quiet = tt
quiet-no_links (LinkFault side) quiet = false-true quiet
quiet-no_links OutOfMemory quiet = tt
quiet-no_links (BadTape number) quiet = tt
quiet-no_links Idle quiet = false-true quiet
quiet-no_links Spent quiet = false-true quiet

-- a run over a tape never ends so
pub quiet-not_usage : (status : Status) → is_quiet status ≡ true → status ≡ Usage → ⊥
quiet-not_usage status quiet e = false-true (sym (ap is_quiet e) ∙ quiet)

pub causes-none : (status : Status) (a b x y : ℕ) → is_quiet status ≡ true → b ≡ a → y ≡ x → HasCauses status a b x y
causes-none status a b x y quiet tape out = record {
  read_fault = λ e. false-true (sym (ap is_quiet e) ∙ quiet);
  write_fault = λ e. false-true (sym (ap is_quiet e) ∙ quiet);
  reads_stand = λ ne. tape;
  writes_stand = λ ne. out;
  no_links = quiet-no_links status quiet;
}

pub causes-read : (a b x y : ℕ) → Rose a b → y ≡ x → HasCauses ReadFault a b x y
causes-read a b x y rose out = record {
  read_fault = λ e. rose;
  write_fault = λ e. read-write e;
  reads_stand = λ ne. absurd (ne refl);
  writes_stand = λ ne. out;
  no_links = tt;
}

pub causes-write : (a b x y : ℕ) → b ≡ a → Rose x y → HasCauses WriteFault a b x y
causes-write a b x y tape rose = record {
  read_fault = λ e. write-read e;
  write_fault = λ e. rose;
  reads_stand = λ ne. tape;
  writes_stand = λ ne. absurd (ne refl);
  no_links = tt;
}
