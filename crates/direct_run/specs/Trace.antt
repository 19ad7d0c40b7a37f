-- What a step sends on each wire and tells, and all that steps tell.
use Rattle.std.specs.Prelude.{ℕ, List, [], ◌∷◌, ◌++◌, take}
use Rattle.std.specs.List.{flat_map}
use Rattle.packet_stream.specs.Outputs.{outputs}
use Rattle.gate_history.specs.write.All.{all_of}
use Rattle.gate_history.specs.write.Bytes.{client_bytes_of, host_bytes_of}
use Rattle.gate_history.specs.step.Events.{PastEvent, ClientPiece, ClientEnd as ClientEnds, HostPiece}
use Rattle.gate_history.specs.step.History.{brought, history}
use Rattle.gate_history.specs.step.Machine.{step, given}
use Rattle.gate_history.specs.step.Marks.{Mark}
use Rattle.gate_history.specs.write.Notes.{notes_of}
use Rattle.gate_history.specs.state.State.{State, state_of}
use Rattle.model_device.specs.Meaning.{Meaning}
use Rattle.redir_host.specs.step.Acts.{Act, Piece, Perform as Performs, Offer as Offers, Unplug as Unplugs}
use Rattle.redir_host.specs.device.Offering.{told_offered}
use Rattle.redir_host.specs.write.Output.{host_of, act_bytes, act_notes}
use Rattle.redir_host.specs.device.Performing.{told_performed}
use Rattle.direct_run.specs.declared.item.Item.{Item}
use Rattle.direct_run.specs.declared.submitted.Submitted.{Submitted}
use Rattle.direct_run.specs.declared.told.Told.{Told}
use Rattle.gate_history.specs.write.Refusals.{refusal_in}
use Rattle.direct_run.specs.Noted.{item_of, item_of_host, named, performed_item, offered_item}
use Rattle.direct_run.specs.Steps.{PastStep, Client, ClientEnd, ToHost, ToGate, Perform, Offer, Unplug}
use Rattle.direct_run.specs.World.{Course, first_id, nothing_yet, sent_to_host, sent_to_gate, wire_to_host, wire_to_gate, course}

-- all submits that were accepted
abbrev pub submits_of : List PastEvent → List Submitted
submits_of events = flat_map named (all_of notes_of first_id (history first_id events))

-- ---- of a step

-- nothing is sent, nor told
abbrev pub untold : Told
untold = record { to_client = []; to_host = []; from_host = []; items = []; refusals = [] }

-- what an event has the gateway give, behind these events
abbrev pub given_of : {A : Type 0} → (State → Mark → List A) → List PastEvent → PastEvent → List A
given_of gives events e = outputs step (given gives) (state_of first_id (history first_id events)) (brought events e)

abbrev pub told_of_event : List PastEvent → PastEvent → Told
told_of_event events e = record untold {
  to_client = given_of client_bytes_of events e;
  to_host = given_of host_bytes_of events e;
  items = flat_map item_of (given_of notes_of events e);
  refusals = flat_map refusal_in (given_of notes_of events e);
}

-- the items of an act, by the submits that were accepted
abbrev pub act_items : {S : Type 0} → Meaning S → S → List Act → List Submitted → Act → List Item
act_items m s acts submits (Piece b) = flat_map (item_of_host submits) (act_notes m s acts (Piece b))
act_items m s acts submits (Performs ep) = performed_item submits ep (told_performed m (host_of m s acts) ep)
act_items m s acts submits (Offers ep) = offered_item ep (told_offered m (host_of m s acts) ep)
act_items m s acts submits Unplugs = []

abbrev pub told_of : {S : Type 0} → Meaning S → S → Course → Act → Told
told_of m s c a = record untold { from_host = act_bytes m s c.acts a; items = act_items m s c.acts (submits_of c.events) a }

abbrev pub told_by : {S : Type 0} → Meaning S → S → Course → PastStep → Told
told_by m s c (Client b) = told_of_event c.events (ClientPiece b)
told_by m s c ClientEnd = told_of_event c.events ClientEnds
told_by m s c (ToHost n) = told_of m s c (Piece (take n (wire_to_host c)))
told_by m s c (ToGate n) = told_of_event c.events (HostPiece (take n (wire_to_gate m s c)))
told_by m s c (Perform ep) = told_of m s c (Performs ep)
told_by m s c (Offer ep) = told_of m s c (Offers ep)
told_by m s c Unplug = told_of m s c Unplugs

-- ---- of all steps

-- the making tells the hellos of both
abbrev pub told_first : {S : Type 0} → Meaning S → S → Told
told_first m s = record untold { to_host = sent_to_host nothing_yet; from_host = sent_to_gate m s nothing_yet }

-- all items of these steps, in the order in which they were told
abbrev pub trace : {S : Type 0} → Meaning S → S → List PastStep → List Item
trace m s [] = []
trace m s (x ∷ steps) = trace m s steps ++ (told_by m s (course m s steps) x).items

-- what these steps put on a wire, the earliest first
abbrev pub all_told : {S : Type 0} → (Told → List ℕ) → Meaning S → S → List PastStep → List ℕ
all_told wire m s [] = []
all_told wire m s (x ∷ steps) = all_told wire m s steps ++ wire (told_by m s (course m s steps) x)
