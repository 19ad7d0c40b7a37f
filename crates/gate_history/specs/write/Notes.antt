-- What an item tells, and what is counted of it, by what the past says.
use Rattle.std.specs.Prelude.{◌&&◌, not, Bool, true, false, if◌then◌else◌, List, [], ◌∷◌, ◌++◌, map, filter, Option, Some}
use Rattle.std.specs.Option.{option_to_list}
use Rattle.usb_base.specs.declared.refusal.Refusal.{Refusal}
use Rattle.gate_history.specs.declared.note.Note.{Note}
use Rattle.gate_history.specs.declared.note.Note.TheVariants as note
use Rattle.gate_history.specs.step.Marks.{Submission, Effect, Imports, Unlinks, Arrives, Mark}
use Rattle.gate_history.specs.state.Sides.{refused_at, leaves, is_loss}
use Rattle.gate_history.specs.client.Submits.{opened}
use Rattle.gate_history.specs.client.Ends.{End, ByClient, ByAnswer, ByPackets, ends}
use Rattle.gate_history.specs.state.State.{State}
use Rattle.gate_history.specs.write.Output.{present}

-- ---- notes

abbrev pub when : Bool → Note → List Note
when b n = if b then n ∷ [] else []

abbrev pub came_notes : Effect → List Note
came_notes (Imports reply) = note.Imported ∷ []
came_notes (Unlinks by target) = note.UnlinkAsked by target ∷ []
came_notes (Arrives ep fill) = note.Arrived ep ∷ []
came_notes _ = []

abbrev pub submit_notes : Effect → List Note
submit_notes e = map (λ s. note.Submitted s.request.seqnum s.id) (opened e)

-- by its answer, or by packets of its stream
abbrev pub is_by_answer : Option End → Bool
is_by_answer (Some (ByAnswer outcome)) = true
is_by_answer (Some (ByPackets given)) = true
is_by_answer _ = false

abbrev pub answer_notes : State → Effect → List Note
answer_notes st e = map (λ p. note.Answered p.submit.request.seqnum) (filter (λ p. is_by_answer (ends e p.submit)) (present st e))

abbrev pub refusal_notes : Option Refusal → List Note
refusal_notes refusal = map note.Refused (option_to_list refusal)

-- an import stands until the device is lost; a client that was refused is gone before its end
abbrev pub notes_of : State → Mark → List Note
notes_of st m =
    came_notes m.what ++ submit_notes m.what ++ answer_notes st m.what
    ++ when (is_loss m.what && st.sides.imported && not st.sides.lost) note.DeviceGone
    ++ when (leaves m.what && not st.sides.client_over) note.ClientGone
    ++ refusal_notes (refused_at m.what)

-- ---- counted

abbrev pub is_by_client : Option End → Bool
is_by_client (Some ByClient) = true
is_by_client _ = false

-- the submits that end with their client
abbrev pub dropped : State → Mark → List Submission
dropped st m = map (λ p. p.submit) (filter (λ p. is_by_client (ends m.what p.submit)) (present st m.what))
