-- The steps of a made tape, done one after another, and then counted.
use Rattle.std.proofs.Common.{◌≡◌, ℕ, List, [], ◌∷◌, ◌++◌, Option, Some, None, sym, ap, ◌∙◌}
use Rattle.std.specs.List.{cons_option}
use Rattle.gate_history.specs.write.All.{counts_of}
use Rattle.gate_history.specs.step.History.{history}
use Rattle.gate_history.specs.declared.note.Counts.{Counts}
use Rattle.packet_show.specs.declared.tape.ModelLine.{ModelLine}
use Rattle.model_device.specs.Device.{State, first_state, meaning_of}
use Rattle.model_device.specs.Loopback.{loopback}
use Rattle.model_device.specs.Meaning.{Meaning}
use Rattle.direct_run.specs.declared.told.Told.{Told}
use Rattle.direct_system.specs.Kept.{SystemKept}
use Rattle.direct_system.specs.Stands.{SystemStands}
use Rattle.direct_run.specs.Steps.{PastStep}
use Rattle.direct_run.specs.World.{first_id, course}
use Rattle.made_tape.specs.Again.{TapeAgain}
use Rattle.made_tape.specs.Rounds.{made_lines}
use Rattle.tape_run.specs.model.Made.{loaded}
use Rattle.tape_run.specs.model.Model.{step_said}
use Rattle.tape_run.specs.Text.{counts_line}
use Rattle.usbgate_tapes.specs.inner.model.Loaded.{steps_after}
use Rattle.usbgate_tapes.specs.inner.model.Model.{TakesSaid}
use Rattle.usbgate_tapes.proofs.lemmas.model.Loaded.{last-made}

-- the system stands for steps, behind which the lines that are left say the others
abbrev pub Doing : {S : Type 0} → Meaning S → S → SystemKept S → List ModelLine → List ModelLine → Type 0
Doing m s k left lines = (past : List PastStep) × SystemStands m s k past × (steps_after left past ≡ steps_after lines [])

taken : {S : Type 0} (m : Meaning S) (s : S) (new : SystemKept S) (past : List PastStep) (x : Option PastStep) (told : Option Told) → TakesSaid m s new past x told → SystemStands m s new (cons_option x past)
taken m s new past None None stands = stands
taken m s new past None (Some told) never = absurd never
taken m s new past (Some x) None never = absurd never
taken m s new past (Some x) (Some told) takes = takes.stands

pub one-more : {S : Type 0} (m : Meaning S) (s : S) (old new : SystemKept S) (left rest lines : List ModelLine) (said : ModelLine) (told : Option Told) → left ≡ said ∷ rest
    → ((first : S) (past : List PastStep) → SystemStands m first old past → TakesSaid m first new past (step_said said) told) → Doing m s old left lines → Doing m s new rest lines
one-more m s old new left rest lines said told next takes d =
    (cons_option (step_said said) d.0, taken m s new d.0 (step_said said) told (takes s d.0 d.1), ap (λ (ls : List ModelLine). steps_after ls d.0) (sym next) ∙ d.2)

pub counts-loaded : (count : ℕ) (gadget : State (List ℕ)) (k : SystemKept (State (List ℕ))) (counts : Counts) (old text : List ℕ) → gadget ≡ first_state loopback → TapeAgain (made_lines count)
    → SystemStands (meaning_of loopback) gadget k (steps_after (made_lines count) [])
    → ((first : State (List ℕ)) (steps : List PastStep) → SystemStands (meaning_of loopback) first k steps → counts ≡ counts_of first_id (history first_id (course (meaning_of loopback) first steps).events))
    → old ≡ [] → text ≡ old ++ counts_line counts → text ≡ loaded count
counts-loaded count gadget k counts old text plugged again stands counted none is =
    is ∙ ap (λ (l : List ℕ). l ++ counts_line counts) none ∙ ap counts_line (counted gadget (steps_after (made_lines count) []) stands)
    ∙ ap (λ (g : State (List ℕ)). counts_line (counts_of first_id (history first_id (course (meaning_of loopback) g (steps_after (made_lines count) [])).events))) plugged
    ∙ sym (last-made (meaning_of loopback) (first_state loopback) (made_lines count) again)
