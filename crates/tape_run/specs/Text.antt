-- The text that commands over tapes print: for each event or step the bytes sent to each side, then the refusals; at
-- the end the counts. A step's items come first.
use Rattle.std.specs.Prelude.{ℕ, List, [], ◌∷◌, ◌++◌, codes}
use Rattle.std.specs.List.{flat_map}
use Rattle.std.specs.Fmt.{decimal}
use Rattle.usb_base.specs.Refusal.{refusal_line}
use Rattle.gate_history.specs.declared.note.Note.{Note}
use Rattle.gate_history.specs.declared.note.Note.TheVariants as note
use Rattle.gate_history.specs.declared.note.Counts.{Counts}
use Rattle.gate_history.specs.step.Events.{PastEvent}
use Rattle.gate_history.specs.step.History.{history}
use Rattle.gate_history.specs.write.Notes.{notes_of}
use Rattle.gate_history.specs.write.All.{all_of}
use Rattle.gate_history.specs.write.Bytes.{out_client, out_host}
use Rattle.direct_run.specs.declared.told.Told.{Told}
use Rattle.direct_run.specs.Lines.{item_line}
use Rattle.packet_show.specs.Line.{LF, letter}
use Rattle.session_tape.specs.Lines.{lettered}
use Rattle.usb_base.specs.Lists.{gained}

-- a letter with the bytes, and LF; nothing where there are no bytes
abbrev pub bytes_line : ℕ → List ℕ → List ℕ
bytes_line letter [] = []
bytes_line letter (b ∷ bs) = lettered letter (b ∷ bs) ++ LF ∷ []

-- a refusal is told, and no other note
abbrev pub note_line : Note → List ℕ
note_line (note.Refused refusal) = refusal_line refusal
note_line _ = []

-- what an event sends, and tells
abbrev pub sent_text : List ℕ → List ℕ → List Note → List ℕ
sent_text client host notes = bytes_line (letter (codes "C")) client ++ bytes_line (letter (codes "H")) host ++ flat_map note_line notes

abbrev pub event_text : ℕ → List PastEvent → PastEvent → List ℕ
event_text first events e =
    sent_text (gained (λ es. out_client first (history first es)) events e) (gained (λ es. out_host first (history first es)) events e) (gained (λ es. all_of notes_of first (history first es)) events e)

-- the bytes of the making come first
abbrev pub opening_text : ℕ → List ℕ
opening_text first = bytes_line (letter (codes "H")) (out_host first [])

-- what a step of a gateway and a modelled device tells; behind `D` are the bytes that the device's host sends
abbrev pub told_text : Told → List ℕ
told_text told =
    flat_map item_line told.items ++ bytes_line (letter (codes "C")) told.to_client ++ bytes_line (letter (codes "H")) told.to_host
    ++ bytes_line (letter (codes "D")) told.from_host ++ flat_map refusal_line told.refusals

abbrev pub counts_line : Counts → List ℕ
counts_line c =
    codes "answered " ++ decimal c.answered ++ codes " unlinked " ++ decimal c.unlinked ++ codes " left " ++ decimal c.left ++ codes " dropped " ++ decimal c.dropped ++ LF ∷ []

abbrev pub bad_line : ℕ → List ℕ
bad_line number = codes "bad tape " ++ decimal number ++ LF ∷ []
