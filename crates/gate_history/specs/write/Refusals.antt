-- The refusals among notes.
use Rattle.std.specs.Prelude.{List, [], ◌∷◌}
use Rattle.usb_base.specs.declared.refusal.Refusal.{Refusal}
use Rattle.gate_history.specs.declared.note.Note.{Note}
use Rattle.gate_history.specs.declared.note.Note.TheVariants as note

abbrev pub refusal_in : Note → List Refusal
refusal_in (note.Refused refusal) = refusal ∷ []
refusal_in _ = []
