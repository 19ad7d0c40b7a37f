-- How a command reads whole lines of a tape, and how it goes on behind them.
use Rattle.std.proofs.Common.{◌≡◌, ℕ, ◌+◌, ◌≤◌, Bool, cond, List, [], ◌∷◌, ◌++◌, length, Option, Some, None, refl, sym, ap, ◌∙◌, append_assoc, arith}
use Rattle.std.proofs.lemmas.Bool.{le-ltb}
use Rattle.std.proofs.lemmas.List.{length-append}
use Rattle.std.specs.Prelude.{option_map}
use Rattle.tape_run.specs.tape.Tape.{lines_of, content}
use Rattle.tape_run.specs.Run.{HasNoLF}
use Rattle.packet_show.specs.declared.tape.TheConstants.{TAPE_LIMIT as tape_limit}
use Rattle.tape_run.specs.tape.TapeCommand.{TapeCommand, Progress, one_further, next_line, Reading, on_line, read_lines}
use Rattle.tape_run.proofs.lemmas.tape.Lines.{lines_of-line}
use Rattle.tape_laws.proofs.Spelled.{content-line}

-- text before that of a reading
abbrev pub with_text : {S : Type 0} → List ℕ → Reading S → Reading S
with_text text x = record x { text = text ++ x.text }

-- these lines have this text, and what comes behind them is read from there on
pub record Reads {S : Type 0} (command : TapeCommand S) (from : Progress S) (lines text : List ℕ) (to : Progress S) : Type 0 where
  pub goes_on : (later : List ℕ) → read_lines command from (lines_of (lines ++ later)) ≡ with_text text (read_lines command to (lines_of later))
  pub bytes-are : to.bytes ≡ from.bytes + length lines

pub reads-none : {S : Type 0} (command : TapeCommand S) (from : Progress S) → Reads command from [] [] from
reads-none command from = record { goes_on = λ later. refl; bytes-are = omega arith }

pub reads-both : {S : Type 0} (command : TapeCommand S) (from mid to : Progress S) (xs ys text more : List ℕ) → Reads command from xs text mid → Reads command mid ys more to → Reads command from (xs ++ ys) (text ++ more) to
reads-both {S = S} command from mid to xs ys text more p q = record {
  goes_on = λ later.
      let end = read_lines command to (lines_of later) in
      ap (λ (l : List ℕ). read_lines command from (lines_of l)) (append_assoc xs ys later) ∙ p.goes_on (ys ++ later) ∙ ap (λ (x : Reading S). with_text text x) (q.goes_on later)
      ∙ together end;
  bytes-are = omega (arith, p.bytes-are, q.bytes-are, length-append xs ys);
}
  where
    together : (x : Reading S) → with_text text (with_text more x) ≡ with_text (text ++ more) x
    together x = ap (λ (l : List ℕ). record { text = l; after = x.after; bad = x.bad }) (sym (append_assoc text more x.text))

-- a line that is good
pub reads-line : {S : Type 0} (command : TapeCommand S) (from : Progress S) (line : List ℕ) (x : List ℕ × S) → HasNoLF line → command.line from.kept line ≡ Some x → from.bytes + length (line ++ 10 ∷ []) ≤ tape_limit
    → Reads command from (line ++ 10 ∷ []) x.0 (one_further from (line ++ 10 ∷ []) x).1
reads-line {S = S} command from line x whole says room = record { goes_on = go; bytes-are = refl }
  where
    next : next_line command from (line ++ 10 ∷ []) ≡ Some (one_further from (line ++ 10 ∷ []) x)
    next =
        ap (λ (t : Bool). cond t None (option_map (one_further from (line ++ 10 ∷ [])) (command.line from.kept (content (line ++ 10 ∷ []))))) (le-ltb tape_limit (from.bytes + length (line ++ 10 ∷ [])) room)
        ∙ ap (λ (l : List ℕ). option_map (one_further from (line ++ 10 ∷ [])) (command.line from.kept l)) (content-line line)
        ∙ ap (λ (o : Option (List ℕ × S)). option_map (one_further from (line ++ 10 ∷ [])) o) says

    go : (later : List ℕ) → read_lines command from (lines_of ((line ++ 10 ∷ []) ++ later)) ≡ with_text x.0 (read_lines command (one_further from (line ++ 10 ∷ []) x).1 (lines_of later))
    go later =
        ap (λ (l : List ℕ). read_lines command from (lines_of l)) (append_assoc line (10 ∷ []) later)
        ∙ ap (λ (l : List (List ℕ)). read_lines command from l) (lines_of-line line later whole)
        ∙ ap (λ (o : Option (List ℕ × Progress S)). on_line from (λ (q : Progress S). read_lines command q (lines_of later)) o) next
