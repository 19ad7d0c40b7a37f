-- A made tape read by a model: its lines are all good, and what is kept are the steps that they say.
use Rattle.std.proofs.Common.{◌≡◌, ℕ, ◌+◌, ◌-◌, ◌≤◌, Bool, true, false, cond, ◌&&◌, List, [], ◌∷◌, ◌++◌, length, get_or, take, nat_eq, nat_lt, option_map, Option, Some, None, refl, ap, ◌∙◌, append_assoc, arith}
use Rattle.std.specs.List.{list_any, cons_option}
use Rattle.std.proofs.lemmas.Bool.{le-ltb, or_parts}
use Rattle.std.proofs.lemmas.List.{length-append}
use Rattle.std.proofs.Math.Seq.{take-append_seam, get_or-append_seam}
use Rattle.packet_show.specs.declared.tape.ModelLine.{ModelLine}
use Rattle.packet_show.specs.Tape.{model_line}
use Rattle.model_device.specs.Meaning.{Meaning}
use Rattle.direct_run.specs.Steps.{PastStep}
use Rattle.made_tape.specs.Lines.{words_of, line_of, tape_text}
use Rattle.made_tape.specs.Again.{IsReadAgain, AreReadAgain, TapeAgain}
use Rattle.tape_run.specs.tape.Tape.{lines_of, content}
use Rattle.tape_run.specs.Run.{HasNoLF}
use Rattle.tape_run.specs.model.Model.{on_step, step_said, model}
use Rattle.packet_show.specs.declared.tape.TheConstants.{TAPE_LIMIT}
use Rattle.tape_run.specs.tape.TapeCommand.{Progress, begin, one_further, next_line, Reading, on_line, read_lines, read_tape, last_text}
use Rattle.tape_run.specs.Text.{bad_line}
use Rattle.usbgate_tapes.specs.inner.model.Loaded.{steps_after}
use Rattle.tape_run.proofs.lemmas.tape.Lines.{lines_of-line}

-- ---- a line

no-lf : (text : List ℕ) → list_any (λ b. nat_eq b 10) text ≡ false → HasNoLF text
no-lf [] e = tt
no-lf (b ∷ bs) e =
    let parts = or_parts (nat_eq b 10) (list_any (λ b. nat_eq b 10) bs) e in
    (λ same. let lf : nat_eq b 10 ≡ true = ap (λ (n : ℕ). nat_eq n 10) same in let other : nat_eq b 10 ≡ false = parts.0 in cc, no-lf bs parts.1)

content-line : (text : List ℕ) → content (text ++ 10 ∷ []) ≡ text
content-line text =
    let long : length (text ++ 10 ∷ []) ≡ length text + 1 = omega (arith, length-append text (10 ∷ [])) in
    let short : length (text ++ 10 ∷ []) - 1 ≡ length text = omega (arith, long) in
    let some : nat_lt 0 (length (text ++ 10 ∷ [])) ≡ true = ap (nat_lt 0) long ∙ positive (length text) in
    let last : nat_eq (get_or (text ++ 10 ∷ []) (length (text ++ 10 ∷ []) - 1) 0) 10 ≡ true =
    ap (λ (n : ℕ). nat_eq (get_or (text ++ 10 ∷ []) n 0) 10) short ∙ ap (λ (b : ℕ). nat_eq b 10) (get_or-append_seam text 10 [] 0) in
    ap (λ (t : Bool). cond (t && nat_eq (get_or (text ++ 10 ∷ []) (length (text ++ 10 ∷ []) - 1) 0) 10) (take (length (text ++ 10 ∷ []) - 1) (text ++ 10 ∷ [])) (text ++ 10 ∷ [])) some
    ∙ ap (λ (t : Bool). cond t (take (length (text ++ 10 ∷ []) - 1) (text ++ 10 ∷ [])) (text ++ 10 ∷ [])) last
    ∙ ap (λ (n : ℕ). take n (text ++ 10 ∷ [])) short ∙ take-append_seam text (10 ∷ [])
  where
    positive : (n : ℕ) → nat_lt 0 (n + 1) ≡ true
    positive n = grind arith

first-line : (said : ModelLine) (later : List ℕ) → IsReadAgain said → lines_of (line_of said ++ later) ≡ line_of said ∷ lines_of later
first-line said later again = ap lines_of (append_assoc (words_of said) (10 ∷ []) later) ∙ lines_of-line (words_of said) later (no-lf (words_of said) again.one_line)

-- ---- of a device

module _ {S : Type 0} (m : Meaning S) (s : S) where
  abbrev on_said : List PastStep → Option ModelLine → Option (List ℕ × List PastStep)
  on_said steps said = option_map (λ (x : ModelLine). on_step m s steps (step_said x)) said

  -- a line that is read again adds what it says
  said-line : (steps : List PastStep) (said : ModelLine) → IsReadAgain said → on_said steps (model_line (content (line_of said))) ≡ Some (on_step m s steps (step_said said))
  said-line steps said again =
      ap (λ (text : List ℕ). on_said steps (model_line text)) (content-line (words_of said)) ∙ ap (on_said steps) again.says

  kept-step : (steps : List PastStep) (x : Option PastStep) → (on_step m s steps x).1 ≡ cons_option x steps
  kept-step steps None = refl
  kept-step steps (Some x) = refl

  -- the progress behind such a line
  abbrev further : Progress (List PastStep) → ModelLine → Progress (List PastStep)
  further p said = (one_further p (line_of said) (on_step m s p.kept (step_said said))).1

  good-line : (p : Progress (List PastStep)) (said : ModelLine) → IsReadAgain said → p.bytes + length (line_of said) ≤ TAPE_LIMIT
      → next_line (model m s) p (line_of said) ≡ Some (one_further p (line_of said) (on_step m s p.kept (step_said said)))
  good-line p said again within =
      ap (λ (t : Bool). cond t None (option_map (one_further p (line_of said)) (on_said p.kept (model_line (content (line_of said)))))) (le-ltb TAPE_LIMIT (p.bytes + length (line_of said)) within)
      ∙ ap (option_map (one_further p (line_of said))) (said-line p.kept said again)

  -- no line is bad, and these steps are kept
  record IsRead (x : Reading (List PastStep)) (steps : List PastStep) : Type 0 where
    good : x.bad ≡ false
    kept : x.after.kept ≡ steps

  lines-read : (lines : List ModelLine) (p : Progress (List PastStep)) → AreReadAgain lines → p.bytes + length (tape_text lines) ≤ TAPE_LIMIT
      → IsRead (read_lines (model m s) p (lines_of (tape_text lines))) (steps_after lines p.kept)
  lines-read [] p again within = record { good = refl; kept = refl }
  lines-read (said ∷ lines) p again within =
      let q = further p said in
      let long = length-append (line_of said) (tape_text lines) in
      let others = lines-read lines q again.1 (omega (arith, long)) in
      let is : read_lines (model m s) p (lines_of (tape_text (said ∷ lines))) ≡ on_line p (λ z. read_lines (model m s) z (lines_of (tape_text lines))) (Some (one_further p (line_of said) (on_step m s p.kept (step_said said)))) =
      ap (read_lines (model m s) p) (first-line said (tape_text lines) again.0)
      ∙ ap (on_line p (λ z. read_lines (model m s) z (lines_of (tape_text lines)))) (good-line p said again.0 (omega (arith, long))) in
      record {
        good = ap (λ (x : Reading (List PastStep)). x.bad) is ∙ others.good;
        kept = ap (λ (x : Reading (List PastStep)). x.after.kept) is ∙ others.kept ∙ ap (steps_after lines) (kept-step p.kept (step_said said));
      }

  -- so these steps are kept of such a tape
  tape-read : (lines : List ModelLine) → TapeAgain lines → IsRead (read_tape (model m s) (tape_text lines)) (steps_after lines [])
  tape-read lines again = lines-read lines (begin (model m s)) again.each (omega (arith, again.short))

  pub kept-made : (lines : List ModelLine) → TapeAgain lines → (read_tape (model m s) (tape_text lines)).after.kept ≡ steps_after lines []
  kept-made lines again = (tape-read lines again).kept

  -- and the last text is that of these steps
  pub last-made : (lines : List ModelLine) → TapeAgain lines → last_text (model m s) (read_tape (model m s) (tape_text lines)) ≡ (model m s).closing (steps_after lines [])
  last-made lines again =
      last-good (read_tape (model m s) (tape_text lines)) _ (tape-read lines again)
    where
      last-good : (x : Reading (List PastStep)) (steps : List PastStep) → IsRead x steps → last_text (model m s) x ≡ (model m s).closing steps
      last-good x steps is =
          ap (λ (t : Bool). cond t (bad_line (x.after.lines + 1)) ((model m s).closing x.after.kept)) is.good ∙ ap (model m s).closing is.kept
