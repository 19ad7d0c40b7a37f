use Rattle.std.proofs.Common.{◌≡◌, ◌++◌, drop}
use Rattle.std.specs.List.{flat_map}
use Rattle.tape_run.specs.Text.{note_line}
use Rattle.tape_run.proofs.text.push_notes.Given as goal

abbrev pub invariant-loop-note : goal.invariant-loop-note
invariant-loop-note l = l.text ++ flat_map note_line (drop l.note-index l.notes) ≡ l.initial.text ++ flat_map note_line l.notes
