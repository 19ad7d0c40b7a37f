-- The gateway in a page: what it sends to each side and tells, whatever comes, and however it is cut. An event is a
-- piece of a side's stream, or its end (Events.antt); lists of events have the latest first. Their history
-- (History.antt) is what came, in the order in which packets became whole: each packet, each wrong place and each end,
-- as what it means behind those before it (Past.antt, Meaning.antt). All that is sent, told and counted is what each
-- mark of the history gives, one after another (All.antt): packets to the clients and to the host (Output.antt), and
-- notes (Notes.antt). One event more appends to each list what the longer history has there behind the shorter one's.
use Rattle.std.specs.Prelude.{ℕ, List, ◌≡◌, ◌++◌, ◌∷◌}
use Rattle.gate_history.specs.declared.note.Note.{Note}
use Rattle.gate_history.specs.declared.note.Counts.{Counts}
use Rattle.gate_history.specs.step.Events.{PastEvent}
use Rattle.gate_history.specs.step.History.{history}
use Rattle.gate_history.specs.write.Notes.{notes_of}
use Rattle.gate_history.specs.write.All.{all_of, counts_of}
use Rattle.gate_history.specs.write.Bytes.{out_client, out_host}

-- ---- of all events, where the ids of packets to the host begin with the first one

-- to the clients, one after another
abbrev pub client_output : ℕ → List PastEvent → List ℕ
client_output first events = out_client first (history first events)

-- to the host, the hello first
abbrev pub host_output : ℕ → List PastEvent → List ℕ
host_output first events = out_host first (history first events)

-- the notes, in the order in which they are told
abbrev pub notes : ℕ → List PastEvent → List Note
notes first events = all_of notes_of first (history first events)

-- how many submits were answered, taken back and dropped, and how many are live
abbrev pub counts : ℕ → List PastEvent → Counts
counts first events = counts_of first (history first events)

-- ---- of one event more

-- the one list has gained what the other has
pub record Gains {A : Type 0} (old new before after : List A) : Type 0 where
  pub more : List A
  pub new-is : new ≡ old ++ more
  pub after-is : after ≡ before ++ more

-- behind these events it has appended what it sends to the client's list and to the host's list, and told these notes
pub record EventSends (first : ℕ) (events : List PastEvent) (event : PastEvent) (client_old client_new host_old host_new : List ℕ) (told : List Note) : Type 0 where
  pub client : Gains client_old client_new (client_output first events) (client_output first (event ∷ events))
  pub host : Gains host_old host_new (host_output first events) (host_output first (event ∷ events))
  pub notes-are : notes first (event ∷ events) ≡ notes first events ++ told
