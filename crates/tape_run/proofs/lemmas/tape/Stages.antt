-- A reader takes its tape piece by piece, and however the tape goes on, its text begins with what was told.
use Rattle.std.proofs.Common.{◌≡◌, ℕ, ◌+◌, ◌-◌, ◌<◌, ◌≤◌, Bool, true, false, cond, List, [], ◌∷◌, ◌++◌, length, take, drop, nat_eq, nat_lt, position, option_map, Option, Some, None, refl, sym, ap, subst, ◌∙◌, append_assoc, arith}
use Rattle.std.proofs.lemmas.List.{append-nil, length-append, length-drop, take-append-drop, take_rest}
use Rattle.std.proofs.lemmas.Bool.{lt-ltb}
use Rattle.std.proofs.lemmas.Option.{none-some, same_Some}
use Rattle.std.proofs.Math.Seq.{take-add}
use Rattle.tape_run.specs.declared.tape.reader.TapeReader.{TapeReader}
use Rattle.tape_run.specs.declared.status.Status.{Status}
use Rattle.tape_run.specs.declared.status.Status.TheVariants.{Done, Refused, BadTape}
use Rattle.tape_run.specs.tape.Tape.{lines_of, content}
use Rattle.tape_run.specs.Text.{bad_line}
use Rattle.packet_show.specs.declared.tape.TheConstants.{TAPE_LIMIT}
use Rattle.tape_run.specs.tape.TapeCommand.{TapeCommand, Progress, begin, one_further, next_line, Reading, on_line, read_lines, read_tape, last_text, whole_text, tape_status}
use Rattle.tape_run.specs.Run.{EndsALine, HasNoLF}
use Rattle.tape_run.specs.tape.Kept.{SomeKeeps}
use Rattle.tape_run.specs.inner.tape.TapeReader.{ReadsLine, end_text, with_text, Stage, Spoilt, Took, Finished, Closes, Stepped, AllRead, TookLast, Spoils, TookLine, KeepsPart}
use Rattle.tape_run.proofs.lemmas.tape.Lines.{HasNoLF-append, EndsALine-append, EndsALine-line, lines_of-line, lines_of-last, first-part, line_end-some, line_end-none}

-- the tape, cut behind its whole lines
cut : (whole pending read piece later : List ℕ) → read ≡ whole ++ pending → (read ++ piece) ++ later ≡ whole ++ ((pending ++ piece) ++ later)
cut whole pending read piece later e =
    append_assoc read piece later ∙ ap (λ (l : List ℕ). l ++ (piece ++ later)) e ∙ append_assoc whole pending (piece ++ later)
    ∙ ap (λ (l : List ℕ). whole ++ l) (sym (append_assoc pending piece later))

pub whole_line : (line front later : List ℕ) → line ≡ front ++ 10 ∷ [] → HasNoLF front → lines_of (line ++ later) ≡ line ∷ lines_of later
whole_line line front later e p =
    ap (λ (l : List ℕ). lines_of (l ++ later)) e ∙ ap lines_of (append_assoc front (10 ∷ []) later) ∙ lines_of-line front later p ∙ ap (λ (l : List ℕ). l ∷ lines_of later) (sym e)

with_text-twice : {S : Type 0} (s t : List ℕ) (x : Reading S) → with_text s (with_text t x) ≡ with_text (s ++ t) x
with_text-twice s t x = ap (λ (l : List ℕ). record x { text = l }) (sym (append_assoc s t x.text))

-- how a reading ends
abbrev status_of : {S : Type 0} → TapeCommand S → Reading S → Status
status_of command x = cond x.bad (BadTape (x.after.lines + 1)) (cond (command.refused x.after.kept) Refused Done)

abbrev bad_play : {S : Type 0} → Progress S → Reading S
bad_play s = record { text = []; after = s; bad = true }

-- what is written behind the text of good lines
ends_text : (written old new told text back : List ℕ) → written ++ old ≡ told ++ text → new ≡ old ++ back → (told ++ (text ++ [])) ++ back ≡ written ++ new
ends_text written old new told text back is more =
    ap (λ (l : List ℕ). (told ++ l) ++ back) (append-nil text) ∙ ap (λ (l : List ℕ). l ++ back) (sym is) ∙ append_assoc written old back ∙ ap (λ (l : List ℕ). written ++ l) (sym more)

-- the line of a bad line, behind the text
spoils-text : {S : Type 0} (status : Status) (s : Progress S) (old new : List ℕ) → Spoils status s old new → new ++ end_text status ≡ old ++ bad_line (s.lines + 1)
spoils-text status s old new h = ap (λ (l : List ℕ). l ++ end_text status) h.text-is ∙ ap (λ (x : Status). old ++ end_text x) h.status-is

-- where no line is bad, nothing comes behind the text
no_end : (refused : Bool) → end_text (cond refused Refused Done) ≡ []
no_end true = refl
no_end false = refl

-- the bytes of a good line are counted
further-bytes : {S : Type 0} (s : Progress S) (line : List ℕ) (o : Option (List ℕ × S)) (x : List ℕ × Progress S) → option_map (one_further s line) o ≡ Some x → x.1.bytes ≡ s.bytes + length line
further-bytes s line None x e = absurd (none-some x e)
further-bytes {S = S} s line (Some y) x e = ap (λ (z : List ℕ × Progress S). z.1.bytes) (sym (same_Some _ _ e))

pub step_within : (piece : List ℕ) (from len : ℕ) → from ≤ length piece → Some len ≡ position (λ b. nat_eq b 10) (take (length piece - from) (drop from piece)) → from + len + 1 ≤ length piece
step_within piece from len within e =
    let at = line_end-some (drop from piece) len (sym (e ∙ ap (λ (l : List ℕ). position (λ b. nat_eq b 10) l) (take_rest piece from))) in
    let below : len < length (drop from piece) = at.0 in
    omega (arith, length-drop from piece)

-- how many bytes the tape may still have
abbrev pub room_of : {C : Type 0} → TapeReader C → ℕ
room_of p = p.lines.room - length p.pending

-- ---- of a command, which keeps what Keeps says

module _ {C S : Type 0} (command : TapeCommand S) (Keeps : C → S → Type 0) where
  -- ---- the tape's lines

  -- the text of the lines that come after those that were read
  plays-next : {p : TapeReader C} {read written : List ℕ} (s : Stage command Keeps p read written) (piece later line : List ℕ) (others : List (List ℕ)) (o : Option (List ℕ × Progress S))
      → lines_of ((p.pending ++ piece) ++ later) ≡ line ∷ others → next_line command s.at line ≡ o
      → read_lines command (begin command) (lines_of ((read ++ piece) ++ later)) ≡ with_text s.text (on_line s.at (λ z. read_lines command z others) o)
  plays-next {p = p} {read = read} s piece later line others o begins e =
      ap (λ (l : List ℕ). read_lines command (begin command) (lines_of l)) (cut s.whole p.pending read piece later s.read-is) ∙ s.reads ((p.pending ++ piece) ++ later)
      ∙ ap (λ (ls : List (List ℕ)). with_text s.text (read_lines command s.at ls)) begins ∙ ap (λ (x : Option (List ℕ × Progress S)). with_text s.text (on_line s.at (λ z. read_lines command z others) x)) e

  -- ---- a line

  spoilt-by : {old : TapeReader C} {read written : List ℕ} (new : TapeReader C) (status : Status) (piece : List ℕ) (s : Stage command Keeps old read written) (line : List ℕ → List ℕ) (others : List ℕ → List (List ℕ))
      → ((later : List ℕ) → lines_of ((old.pending ++ piece) ++ later) ≡ line later ∷ others later) → ((later : List ℕ) → next_line command s.at (line later) ≡ None)
      → Spoils status s.at old.text new.text → Spoilt command Keeps status new (read ++ piece) written
  spoilt-by {old = old} {read = read} {written = written} new status piece s line others begins bad h =
      let plays : (later : List ℕ) → read_lines command (begin command) (lines_of ((read ++ piece) ++ later)) ≡ with_text s.text (bad_play s.at) = λ later. plays-next s piece later (line later) (others later) None (begins later) (bad later) in
      record {
        number = s.at.lines + 1;
        status-is = h.status-is;
        text = λ later. ap (λ (x : Reading S). command.opening ++ x.text ++ last_text command x) (plays later) ∙ ends_text written old.text (new.text ++ end_text status) command.opening s.text (bad_line (s.at.lines + 1)) s.text-is (spoils-text status s.at old.text new.text h);
        outcome = λ later. ap (status_of command) (plays later) ∙ sym h.status-is;
        kept = λ later. subst (λ (x : Reading S). SomeKeeps Keeps x.after.kept) (sym (plays later)) (old.lines.command, s.has_read.keeps);
      }

  line-bytes : (past : Bool) (s : Progress S) (line : List ℕ) (x : List ℕ × Progress S) → cond past None (option_map (one_further s line) (command.line s.kept (content line))) ≡ Some x
      → x.1.bytes ≡ s.bytes + length line
  line-bytes true s line x e = absurd (none-some x e)
  line-bytes false s line x e = further-bytes s line (command.line s.kept (content line)) x e

  replay_line-bytes : (s : Progress S) (line : List ℕ) (x : List ℕ × Progress S) → next_line command s line ≡ Some x → x.1.bytes ≡ s.bytes + length line
  replay_line-bytes s line x e = line-bytes (nat_lt TAPE_LIMIT (s.bytes + length line)) s line x e

  stage-good : {old : TapeReader C} {read written : List ℕ} (new : TapeReader C) (piece front : List ℕ) (s : Stage command Keeps old read written) (o : Option (List ℕ × Progress S)) → old.pending ++ piece ≡ front ++ 10 ∷ []
      → HasNoLF front → next_line command s.at (old.pending ++ piece) ≡ o → ReadsLine Keeps o new.lines old.text new.text → new.pending ≡ [] → Stage command Keeps new (read ++ piece) written
  stage-good new piece front s None line part e h cleared = absurd h
  stage-good {old = old} {read = read} {written = written} new piece front s (Some x) line part e h cleared = record {
    whole = s.whole ++ (old.pending ++ piece);
    text = s.text ++ x.0;
    at = x.1;
    read-is = ap (λ (l : List ℕ). l ++ piece) s.read-is ∙ append_assoc s.whole old.pending piece ∙ sym (append-nil (s.whole ++ (old.pending ++ piece)))
        ∙ ap (λ (l : List ℕ). (s.whole ++ (old.pending ++ piece)) ++ l) (sym cleared);
    whole_lines = subst (λ (l : List ℕ). EndsALine (s.whole ++ l)) (sym line) (EndsALine-append s.whole front s.whole_lines (EndsALine-line front));
    part_of_line = subst HasNoLF (sym cleared) tt;
    bytes-is = replay_line-bytes s.at (old.pending ++ piece) x e ∙ omega (arith, s.bytes-is, length-append s.whole (old.pending ++ piece));
    within = omega (arith, h.1.bytes, ap (λ (l : List ℕ). length l) cleared);
    text-is = ap (λ (l : List ℕ). written ++ l) h.0 ∙ sym (append_assoc written old.text x.0) ∙ ap (λ (l : List ℕ). l ++ x.0) s.text-is ∙ append_assoc command.opening s.text x.0;
    reads = λ later. ap (λ (l : List ℕ). read_lines command (begin command) (lines_of l)) (append_assoc s.whole (old.pending ++ piece) later) ∙ s.reads ((old.pending ++ piece) ++ later)
        ∙ ap (λ (ls : List (List ℕ)). with_text s.text (read_lines command s.at ls)) (whole_line (old.pending ++ piece) front later line part)
        ∙ ap (λ (y : Option (List ℕ × Progress S)). with_text s.text (on_line s.at (λ z. read_lines command z (lines_of later)) y)) e ∙ with_text-twice s.text x.0 (read_lines command x.1 (lines_of later));
    has_read = h.1;
  }

  -- the line is whole
  pub took-line : {old : TapeReader C} {read written : List ℕ} (new : TapeReader C) (status : Option Status) (piece front : List ℕ) (s : Stage command Keeps old read written) → piece ≡ front ++ 10 ∷ [] → HasNoLF front
      → TookLine command Keeps status s.at (old.pending ++ piece) old new → Took command Keeps status new (read ++ piece) written
  took-line {old = old} new None piece front s is part h =
      stage-good new piece (old.pending ++ front) s _ (ap (λ (l : List ℕ). old.pending ++ l) is ∙ sym (append_assoc old.pending front (10 ∷ [])))
      (HasNoLF-append old.pending front s.part_of_line part) refl h.0 h.1
  took-line {old = old} new (Some status) piece front s is part h =
      spoilt-by new status piece s (λ later. old.pending ++ piece) (λ later. lines_of later)
      (λ later. whole_line (old.pending ++ piece) (old.pending ++ front) later (ap (λ (l : List ℕ). old.pending ++ l) is ∙ sym (append_assoc old.pending front (10 ∷ [])))
      (HasNoLF-append old.pending front s.part_of_line part)) (λ later. h.0) h.1

  -- ---- a part of a line

  past_limit : (s : Progress S) (line more : List ℕ) → TAPE_LIMIT < s.bytes + length line → next_line command s (line ++ more) ≡ None
  past_limit s line more past =
      let over : nat_lt TAPE_LIMIT (s.bytes + length (line ++ more)) ≡ true = lt-ltb TAPE_LIMIT (s.bytes + length (line ++ more)) (omega (arith, length-append line more)) in
      ap (λ (t : Bool). cond t None (option_map (one_further s (line ++ more)) (command.line s.kept (content (line ++ more))))) over

  kept-spoilt : {old : TapeReader C} {read written : List ℕ} (new : TapeReader C) (status : Status) (piece : List ℕ) (s : Stage command Keeps old read written) (part : List ℕ) → old.pending ++ piece ≡ part → HasNoLF part
      → TAPE_LIMIT < s.at.bytes + length part → Spoils status s.at old.text new.text → Spoilt command Keeps status new (read ++ piece) written
  kept-spoilt {old = old} new status piece s [] is none past h = let room_of : s.at.bytes + old.lines.room ≡ TAPE_LIMIT = s.has_read.bytes in absurd (omega arith)
  kept-spoilt new status piece s (b ∷ bs) is none past h =
      spoilt-by new status piece s (λ later. (b ∷ bs) ++ (first-part b bs later none).more) (λ later. (first-part b bs later none).others)
      (λ later. ap (λ (l : List ℕ). lines_of (l ++ later)) is ∙ (first-part b bs later none).is) (λ later. past_limit s.at (b ∷ bs) (first-part b bs later none).more past) h

  pub took-kept : {old : TapeReader C} {read written : List ℕ} (new : TapeReader C) (status : Option Status) (piece : List ℕ) (s : Stage command Keeps old read written) → HasNoLF piece
      → KeepsPart status s.at (old.pending ++ piece) old new → Took command Keeps status new (read ++ piece) written
  took-kept {old = old} {read = read} {written = written} new None piece s part h = subst (λ (p : TapeReader C). Stage command Keeps p (read ++ piece) written) (sym h.0) (record {
    whole = s.whole;
    text = s.text;
    at = s.at;
    read-is = ap (λ (l : List ℕ). l ++ piece) s.read-is ∙ append_assoc s.whole old.pending piece;
    whole_lines = s.whole_lines;
    part_of_line = HasNoLF-append old.pending piece s.part_of_line part;
    bytes-is = s.bytes-is;
    within = h.1;
    text-is = s.text-is;
    reads = s.reads;
    has_read = s.has_read;
  })
  took-kept {old = old} new (Some status) piece s part h = kept-spoilt new status piece s (old.pending ++ piece) refl (HasNoLF-append old.pending piece s.part_of_line part) h.0 h.1

  -- what is spoilt stays so
  pub took-more : (p : TapeReader C) (status : Status) (read written piece : List ℕ) (n : ℕ) → Spoilt command Keeps status p (read ++ take n piece) written → Spoilt command Keeps status p (read ++ piece) written
  took-more p status read written piece n s =
      let more : (later : List ℕ) → (read ++ piece) ++ later ≡ (read ++ take n piece) ++ (drop n piece ++ later) =
      λ later. ap (λ (l : List ℕ). (read ++ l) ++ later) (sym (take-append-drop n piece)) ∙ ap (λ (l : List ℕ). l ++ later) (sym (append_assoc read (take n piece) (drop n piece)))
      ∙ append_assoc (read ++ take n piece) (drop n piece) later in
      record {
        number = s.number;
        status-is = s.status-is;
        text = λ later. ap (whole_text command) (more later) ∙ s.text (drop n piece ++ later);
        outcome = λ later. ap (tape_status command) (more later) ∙ s.outcome (drop n piece ++ later);
        kept = λ later. subst (λ (l : List ℕ). SomeKeeps Keeps (read_tape command l).after.kept) (sym (more later)) (s.kept (drop n piece ++ later));
      }

  -- ---- the end

  pub last-none : {old : TapeReader C} {read written : List ℕ} → Stage command Keeps old read written → old.pending ≡ [] → AllRead command Keeps old read written
  last-none {old = old} {read = read} s none = record {
    text = s.text;
    at = s.at;
    text-is = s.text-is;
    reads = ap (λ (l : List ℕ). read_lines command (begin command) (lines_of l)) (s.read-is ∙ ap (λ (l : List ℕ). s.whole ++ l) none) ∙ s.reads [] ∙ ap (λ (l : List ℕ). record { text = l; after = s.at; bad = false }) (append-nil s.text);
    has_read = s.has_read;
  }

  -- the last line has no LF
  pub plays-last : {p : TapeReader C} {read written : List ℕ} (s : Stage command Keeps p read written) (o : Option (List ℕ × Progress S)) (line : List ℕ) → p.pending ≡ line → (line ≡ [] → ⊥) → next_line command s.at line ≡ o
      → read_lines command (begin command) (lines_of read) ≡ with_text s.text (on_line s.at (λ z. read_lines command z []) o)
  plays-last s o [] is some e = absurd (some refl)
  plays-last {p = p} {read = read} s o (b ∷ bs) is some e =
      ap (λ (l : List ℕ). read_lines command (begin command) (lines_of l)) (s.read-is ∙ ap (λ (l : List ℕ). s.whole ++ l) is) ∙ s.reads (b ∷ bs)
      ∙ ap (λ (ls : List (List ℕ)). with_text s.text (read_lines command s.at ls)) (lines_of-last b bs (subst HasNoLF is s.part_of_line))
      ∙ ap (λ (x : Option (List ℕ × Progress S)). with_text s.text (on_line s.at (λ z. read_lines command z []) x)) e

  last-good : {old : TapeReader C} {read written : List ℕ} (new : TapeReader C) (s : Stage command Keeps old read written) (o : Option (List ℕ × Progress S)) → (old.pending ≡ [] → ⊥) → next_line command s.at old.pending ≡ o
      → ReadsLine Keeps o new.lines old.text new.text → AllRead command Keeps new read written
  last-good new s None some e h = absurd h
  last-good {old = old} {read = read} {written = written} new s (Some x) some e h = record {
    text = s.text ++ x.0;
    at = x.1;
    text-is = ap (λ (l : List ℕ). written ++ l) h.0 ∙ sym (append_assoc written old.text x.0) ∙ ap (λ (l : List ℕ). l ++ x.0) s.text-is ∙ append_assoc command.opening s.text x.0;
    reads = plays-last s (Some x) old.pending refl some e ∙ ap (λ (l : List ℕ). record { text = s.text ++ l; after = x.1; bad = false }) (append-nil x.0);
    has_read = h.1;
  }

  pub took-last : {old : TapeReader C} {read written : List ℕ} (new : TapeReader C) (status : Option Status) (s : Stage command Keeps old read written) → (old.pending ≡ [] → ⊥)
      → TookLine command Keeps status s.at (old.pending ++ []) old new → TookLast command Keeps status new read written
  took-last {old = old} new None s some h =
      let now = subst (λ (l : List ℕ). TookLine command Keeps None s.at l old new) (append-nil old.pending) h in last-good new s _ some refl now.0
  took-last {old = old} {written = written} new (Some status) s some h =
      let now = subst (λ (l : List ℕ). TookLine command Keeps (Some status) s.at l old new) (append-nil old.pending) h in
      let plays = plays-last s None old.pending refl some now.0 in
      record {
        text = ap (λ (x : Reading S). command.opening ++ x.text ++ last_text command x) plays ∙ ends_text written old.text (new.text ++ end_text status) command.opening s.text (bad_line (s.at.lines + 1)) s.text-is (spoils-text status s.at old.text new.text now.1);
        outcome = ap (status_of command) plays ∙ sym now.1.status-is;
        kept = subst (λ (x : Reading S). SomeKeeps Keeps x.after.kept) (sym plays) (old.lines.command, s.has_read.keeps);
      }

  -- the last text is put behind
  pub finished-by : {old : TapeReader C} {tape written : List ℕ} (new : TapeReader C) (refused : Bool) (all : AllRead command Keeps old tape written) → new.text ≡ old.text ++ command.closing all.at.kept
      → command.refused all.at.kept ≡ refused → Finished command Keeps (cond refused Refused Done) new tape written
  finished-by {old = old} {written = written} new refused all more is = record {
    text = ap (λ (x : Reading S). command.opening ++ x.text ++ last_text command x) all.reads ∙ ap (λ (l : List ℕ). l ++ command.closing all.at.kept) (sym all.text-is)
        ∙ append_assoc written old.text (command.closing all.at.kept)
        ∙ ap (λ (l : List ℕ). written ++ l) (sym more ∙ sym (append-nil new.text) ∙ ap (λ (l : List ℕ). new.text ++ l) (sym (no_end refused)));
    outcome = ap (status_of command) all.reads ∙ ap (λ (b : Bool). cond b Refused Done) is;
    kept = subst (λ (x : Reading S). SomeKeeps Keeps x.after.kept) (sym all.reads) (old.lines.command, all.has_read.keeps);
  }

  -- ---- a front of the text

  -- however the tape goes on, its text begins with what was told
  pub text_begins : {p : TapeReader C} {read written : List ℕ} → Stage command Keeps p read written → (later : List ℕ) → (back : List ℕ) × (whole_text command (read ++ later) ≡ (written ++ p.text) ++ back)
  text_begins {p = p} {read = read} {written = written} s later =
      let y = read_lines command s.at (lines_of (p.pending ++ later)) in
      let plays : read_lines command (begin command) (lines_of (read ++ later)) ≡ with_text s.text y =
      ap (λ (l : List ℕ). read_lines command (begin command) (lines_of (l ++ later))) s.read-is ∙ ap (λ (l : List ℕ). read_lines command (begin command) (lines_of l)) (append_assoc s.whole p.pending later) ∙ s.reads (p.pending ++ later) in
      let back = y.text ++ last_text command (with_text s.text y) in (
        back,
        ap (λ (x : Reading S). command.opening ++ x.text ++ last_text command x) plays ∙ ap (λ (l : List ℕ). l ++ last_text command (with_text s.text y)) (sym (append_assoc command.opening s.text y.text))
            ∙ append_assoc (command.opening ++ s.text) y.text (last_text command (with_text s.text y)) ∙ ap (λ (l : List ℕ). l ++ back) (sym s.text-is),
      )

  -- ---- a piece

  -- the next line of a piece
  pub took-step : {old : TapeReader C} {written : List ℕ} (read : List ℕ) (new : TapeReader C) (status : Option Status) (piece : List ℕ) (from len : ℕ) (s : Stage command Keeps old (read ++ take from piece) written)
      → Some len ≡ position (λ b. nat_eq b 10) (take (length piece - from) (drop from piece))
      → TookLine command Keeps status s.at (old.pending ++ take (from + len + 1 - from) (drop from piece)) old new → Took command Keeps status new (read ++ take (from + len + 1) piece) written
  took-step {old = old} {written = written} read new status piece from len s e h =
      let at = line_end-some (drop from piece) len (sym (e ∙ ap (λ (l : List ℕ). position (λ b. nat_eq b 10) l) (take_rest piece from))) in
      let more : from + len + 1 - from ≡ len + 1 = omega arith in
      let read-is : (read ++ take from piece) ++ take (len + 1) (drop from piece) ≡ read ++ take (from + len + 1) piece =
      append_assoc read (take from piece) (take (len + 1) (drop from piece)) ∙ ap (λ (l : List ℕ). read ++ l) (sym (take-add from (len + 1) piece) ∙ ap (λ (n : ℕ). take n piece) (omega arith)) in
      subst (λ (l : List ℕ). Took command Keeps status new l written) read-is
      (took-line new status (take (len + 1) (drop from piece)) (take len (drop from piece)) s at.2 at.1
      (subst (λ (n : ℕ). TookLine command Keeps status s.at (old.pending ++ take n (drop from piece)) old new) more h))

  -- what comes after the last LF of a piece
  pub took-rest : {old : TapeReader C} {written : List ℕ} (read : List ℕ) (new : TapeReader C) (status : Option Status) (piece : List ℕ) (from : ℕ) (s : Stage command Keeps old (read ++ take from piece) written)
      → None ≡ position (λ b. nat_eq b 10) (take (length piece - from) (drop from piece))
      → KeepsPart status s.at (old.pending ++ take (length piece - from) (drop from piece)) old new → Took command Keeps status new (read ++ piece) written
  took-rest {old = old} {written = written} read new status piece from s e h =
      let none = line_end-none (drop from piece) (sym (e ∙ ap (λ (l : List ℕ). position (λ b. nat_eq b 10) l) (take_rest piece from))) in
      subst (λ (l : List ℕ). Took command Keeps status new l written) (append_assoc read (take from piece) (drop from piece) ∙ ap (λ (l : List ℕ). read ++ l) (take-append-drop from piece))
      (took-kept new status (drop from piece) s none (subst (λ (l : List ℕ). KeepsPart status s.at (old.pending ++ l) old new) (take_rest piece from) h))

  -- ---- what may still come

  pub room-is : {p : TapeReader C} {read written : List ℕ} → Stage command Keeps p read written → room_of p + length read ≡ TAPE_LIMIT
  room-is {p = p} s = let used : s.at.bytes + p.lines.room ≡ TAPE_LIMIT = s.has_read.bytes in omega (arith, s.bytes-is, s.within, ap (λ (l : List ℕ). length l) s.read-is, length-append s.whole p.pending)

  -- a piece takes of it
  pub room-falls : {p q : TapeReader C} {read written told : List ℕ} (piece : List ℕ) → Stage command Keeps p read written → Stage command Keeps q (read ++ piece) told → (piece ≡ [] → ⊥) → room_of q < room_of p
  room-falls [] s t some = absurd (some refl)
  room-falls {p = p} {q = q} {read = read} (b ∷ bs) s t some = omega (arith, room-is s, room-is t, length-append read (b ∷ bs))

  -- ---- a step

  pub closes-end : (status : Status) (p : TapeReader C) (piece read written : List ℕ) → piece ≡ [] → Finished command Keeps status p read written → Closes command Keeps status p piece read written
  closes-end status p piece read written e f =
      let whole : (later : List ℕ) → later ≡ [] → (read ++ piece) ++ later ≡ read =
      λ later none. ap (λ (l : List ℕ). (read ++ l) ++ later) e ∙ ap (λ (l : List ℕ). (read ++ []) ++ l) none ∙ append-nil (read ++ []) ∙ append-nil read in
      record {
        text = λ later none. ap (whole_text command) (whole later (none e)) ∙ f.text;
        outcome = λ later none. ap (tape_status command) (whole later (none e)) ∙ f.outcome;
        kept = λ later none. subst (λ (l : List ℕ). SomeKeeps Keeps (read_tape command l).after.kept) (sym (whole later (none e))) f.kept;
        bad = λ some. absurd (some e);
      }

  pub stepped-take : (status : Option Status) (p : TapeReader C) (piece read written : List ℕ) → (piece ≡ [] → ⊥) → Took command Keeps status p (read ++ piece) written → Stepped command Keeps status p piece read written
  stepped-take None p piece read written some s = (some, s)
  stepped-take (Some status) p piece read written some s = record {
    text = λ later none. s.text later;
    outcome = λ later none. s.outcome later;
    kept = λ later none. s.kept later;
    bad = λ some. (s.number, s.status-is);
  }
