-- What memory is wanted for in a piece, from where its reader stands.
use Rattle.std.proofs.Common.{◌≡◌, ◌⊎◌, inl, inr, ℕ, ◌+◌, ◌-◌, ◌<◌, ◌≤◌, Bool, true, false, if◌then◌else◌, List, [], ◌∷◌, ◌++◌, length, take, drop, nat_eq, position, Option, Some, None, is_some, Result, Ok, Err, refl, sym, ap, subst, ◌∙◌, append_assoc, arith}
use Rattle.std.specs.Option.{IsSome}
use Rattle.std.specs.Result.{OnErr}
use Rattle.std.proofs.lemmas.List.{append-nil, length-append, take-append-drop, take_rest}
use Rattle.std.proofs.Math.Seq.{take-add}
use Rattle.tape_run.specs.declared.tape.reader.TapeReader.{TapeReader}
use Rattle.tape_run.specs.Printout.{tape_printout}
use Rattle.tape_run.specs.tape.Tape.{lines_of, content}
use Rattle.packet_show.specs.declared.tape.TheConstants.{TAPE_LIMIT}
use Rattle.tape_run.specs.tape.TapeCommand.{TapeCommand, Progress, begin, next_line, Reading, on_line, read_lines, read_tape, front_text}
use Rattle.tape_run.specs.Run.{EndsALine, HasNoLF}
use Rattle.tape_run.specs.Wants.{IsJoined, LineWants, PieceWants, ReadWants}
use Rattle.tape_run.specs.inner.tape.TapeReader.{with_text, Stage, AllRead, EndWants}
use Rattle.tape_run.proofs.lemmas.tape.Lines.{HasNoLF-append, EndsALine-append, EndsALine-line, line_end-some, line_end-none}
use Rattle.tape_run.proofs.lemmas.tape.Stages.{whole_line, plays-last}

-- the lines of a piece behind which its next line ends
pub lines-more : (piece : List ℕ) (from len : ℕ) → EndsALine (take from piece) → Some len ≡ position (λ b. nat_eq b 10) (take (length piece - from) (drop from piece)) → EndsALine (take (from + len + 1) piece)
lines-more piece from len ends e =
    let at = line_end-some (drop from piece) len (sym (e ∙ ap (λ (l : List ℕ). position (λ b. nat_eq b 10) l) (take_rest piece from))) in
    subst EndsALine (ap (λ (l : List ℕ). take from piece ++ l) (sym at.2) ∙ sym (take-add from (len + 1) piece) ∙ ap (λ (n : ℕ). take n piece) (omega arith))
    (EndsALine-append (take from piece) (take len (drop from piece)) ends (EndsALine-line (take len (drop from piece))))

-- what holds anyway, holds of an error
pub on_err-of : {T E P : Type 0} (r : Result T E) → P → OnErr r P
on_err-of (Ok x) p = tt
on_err-of (Err e) p = p

-- the text of good lines
good-front : {S : Type 0} (opening : List ℕ) (x : Reading S) → x.bad ≡ false → IsSome (if x.bad then None else Some (opening ++ x.text))
good-front opening x good = ap (λ (b : Bool). is_some (if b then None else Some (opening ++ x.text))) good

module _ {C S : Type 0} (command : TapeCommand S) (Keeps : C → S → Type 0) where
  -- ---- which lines are good

  pub whole-read : {p : TapeReader C} {read written : List ℕ} (s : Stage command Keeps p read written) → read_tape command s.whole ≡ record { text = s.text; after = s.at; bad = false }
  whole-read s = ap (λ (l : List ℕ). read_lines command (begin command) (lines_of l)) (sym (append-nil s.whole)) ∙ s.reads [] ∙ ap (λ (l : List ℕ). record { text = l; after = s.at; bad = false }) (append-nil s.text)

  whole-good : {p : TapeReader C} {read written : List ℕ} (s : Stage command Keeps p read written) → IsSome (front_text command s.whole)
  whole-good s = good-front command.opening (read_tape command s.whole) (ap (λ (x : Reading S). x.bad) (whole-read s))

  -- with the next one, where that is
  next-good : {p : TapeReader C} {read written : List ℕ} (s : Stage command Keeps p read written) (line front : List ℕ) (o : Option (List ℕ × Progress S)) → line ≡ front ++ 10 ∷ [] → HasNoLF front → next_line command s.at line ≡ o → (o ≡ None → ⊥)
      → (read_tape command (s.whole ++ line)).bad ≡ false
  next-good s line front None is part e some = absurd (some refl)
  next-good s line front (Some x) is part e some =
      ap (λ (y : Reading S). y.bad) (s.reads line ∙ ap (λ (ls : List (List ℕ)). with_text s.text (read_lines command s.at ls)) (ap lines_of (sym (append-nil line)) ∙ whole_line line front [] is part)
      ∙ ap (λ (y : Option (List ℕ × Progress S)). with_text s.text (on_line s.at (λ z. read_lines command z []) y)) e)

  -- with the last one, which has no LF
  last-good : {p : TapeReader C} {read written : List ℕ} (s : Stage command Keeps p read written) (o : Option (List ℕ × Progress S)) → (p.pending ≡ [] → ⊥) → next_line command s.at p.pending ≡ o → (o ≡ None → ⊥) → (read_tape command read).bad ≡ false
  last-good s None some e good = absurd (good refl)
  last-good {p = p} s (Some x) some e good = ap (λ (y : Reading S). y.bad) (plays-last command Keeps s (Some x) p.pending refl some e)

  -- ---- the tape's end

  no-parts : {A : Type 0} (pending : List ℕ) → IsJoined pending [] → A
  no-parts pending joined = absurd (omega (arith, joined.1))

  pub last-wanted : {old : TapeReader C} {read written : List ℕ} (s : Stage command Keeps old read written) → (old.pending ≡ [] → ⊥) → EndWants command s.at old.pending [] → (read_tape command read).bad ≡ false
  last-wanted {old = old} {read = read} s some w = go w.wants
    where
      go : IsJoined old.pending [] ⊎ ((command.says (content (old.pending ++ [])) ≡ true) × (next_line command s.at (old.pending ++ []) ≡ None → ⊥)) → (read_tape command read).bad ≡ false
      go (inl joined) = no-parts old.pending joined
      go (inr good) = last-good s (next_line command s.at old.pending) some refl (λ none. good.1 (ap (next_line command s.at) (append-nil old.pending) ∙ none))

  pub all-good : {p : TapeReader C} {tape written : List ℕ} → AllRead command Keeps p tape written → (read_tape command tape).bad ≡ false
  all-good all = ap (λ (x : Reading S). x.bad) all.reads

  pub end-wanted : (read piece : List ℕ) → piece ≡ [] → (read_tape command read).bad ≡ false → ReadWants (tape_printout command) read piece
  end-wanted read piece none good = inl (none, good-front command.opening (read_tape command read) good)

  -- ---- a line that ends in the piece

  line-wants : {old : TapeReader C} {read written : List ℕ} (s : Stage command Keeps old read written) (last front : List ℕ) → last ≡ front ++ 10 ∷ [] → HasNoLF front
      → IsJoined old.pending last ⊎ ((command.says (content (old.pending ++ last)) ≡ true) × (next_line command s.at (old.pending ++ last) ≡ None → ⊥)) → LineWants (tape_printout command) s.whole old.pending last
  line-wants s last front is part (inl joined) = inl joined
  line-wants {old = old} s last front is part (inr good) = inr (
    good.0,
    good-front command.opening (read_tape command (s.whole ++ (old.pending ++ last)))
        (next-good s (old.pending ++ last) (old.pending ++ front) (next_line command s.at (old.pending ++ last)) (ap (λ (l : List ℕ). old.pending ++ l) is ∙ sym (append_assoc old.pending front (10 ∷ []))) (HasNoLF-append old.pending front s.part_of_line part) refl good.1),
  )

  pub line-wanted : {old : TapeReader C} {written : List ℕ} (read piece : List ℕ) (from len : ℕ) (s : Stage command Keeps old (read ++ take from piece) written) → EndsALine (take from piece)
      → Some len ≡ position (λ b. nat_eq b 10) (take (length piece - from) (drop from piece)) → EndWants command s.at old.pending (take (from + len + 1 - from) (drop from piece)) → PieceWants (tape_printout command) read piece
  line-wanted {old = old} read piece from len s ends e wants =
      let at = line_end-some (drop from piece) len (sym (e ∙ ap (λ (l : List ℕ). position (λ b. nat_eq b 10) l) (take_rest piece from))) in
      let more : from + len + 1 - from ≡ len + 1 = omega arith in
      let w = subst (λ (n : ℕ). EndWants command s.at old.pending (take n (drop from piece))) more wants in
      let front = take len (drop from piece) in
      record {
        lines = take from piece;
        last = take (len + 1) (drop from piece);
        rest = drop (len + 1) (drop from piece);
        whole = s.whole;
        pending = old.pending;
        piece-is = sym (append_assoc (take from piece) (take (len + 1) (drop from piece)) (drop (len + 1) (drop from piece)) ∙ ap (λ (l : List ℕ). take from piece ++ l) (take-append-drop (len + 1) (drop from piece)) ∙ take-append-drop from piece);
        own_lines = ends;
        read-is = s.read-is;
        whole_lines = s.whole_lines;
        part_of_line = s.part_of_line;
        good = whole-good s;
        some = omega (arith, ap (λ (l : List ℕ). length l) at.2, length-append front (10 ∷ []));
        within = subst (λ (n : ℕ). n + length (old.pending ++ take (len + 1) (drop from piece)) ≤ TAPE_LIMIT) s.bytes-is w.within;
        wants = inr (subst EndsALine (sym at.2) (EndsALine-line front), line-wants s (take (len + 1) (drop from piece)) front at.2 at.1 w.wants);
      }

  -- ---- what comes after the last LF of a piece is kept

  pub part-wanted : {old : TapeReader C} {written : List ℕ} (read piece : List ℕ) (from : ℕ) (s : Stage command Keeps old (read ++ take from piece) written) → EndsALine (take from piece)
      → None ≡ position (λ b. nat_eq b 10) (take (length piece - from) (drop from piece)) → 0 < length (take (length piece - from) (drop from piece))
      → length (old.pending ++ take (length piece - from) (drop from piece)) ≤ old.lines.room → PieceWants (tape_printout command) read piece
  part-wanted {old = old} read piece from s ends e some room =
      let none = line_end-none (drop from piece) (sym (e ∙ ap (λ (l : List ℕ). position (λ b. nat_eq b 10) l) (take_rest piece from))) in
      let room : length (old.pending ++ drop from piece) ≤ old.lines.room = subst (λ (l : List ℕ). length (old.pending ++ l) ≤ old.lines.room) (take_rest piece from) room in
      record {
        lines = take from piece;
        last = drop from piece;
        rest = [];
        whole = s.whole;
        pending = old.pending;
        piece-is = sym (append-nil (take from piece ++ drop from piece) ∙ take-append-drop from piece);
        own_lines = ends;
        read-is = s.read-is;
        whole_lines = s.whole_lines;
        part_of_line = s.part_of_line;
        good = whole-good s;
        some = subst (λ (l : List ℕ). 0 < length l) (take_rest piece from) some;
        within = omega (arith, s.bytes-is, s.has_read.bytes, room);
        wants = inl (none, refl);
      }
