-- What a recording is read as, and what its replay prints, beside what was written to the links.
use Rattle.std.specs.Prelude.{◌≡◌, ◌⊎◌, ℕ, false, List, [], ◌∷◌, ◌++◌, length, Option, Some}
use Rattle.usb_base.specs.Writes.{Begins}
use Rattle.session_tape.specs.Lines.{first_comment}
use Rattle.gate_history.specs.step.Events.{PastEvent}
use Rattle.gate_history.specs.step.History.{history}
use Rattle.gate_history.specs.write.All.{counts_of}
use Rattle.bridge_run.specs.declared.course.serve_end.ServeEnd.{ServeEnd}
use Rattle.bridge_run.specs.events.Events.{PastLinkEvent}
use Rattle.bridge_run.specs.course.Course.{Course, Next, Making}
use Rattle.bridge_run.specs.course.Calls.{Goes, Stops, call, course_of}
use Rattle.bridge_run.specs.course.Outside.{Outside}
use Rattle.bridge_serve.specs.served.Gate.{gate_events}
use Rattle.bridge_serve.specs.served.GateStops.{gate_runs_out}
use Rattle.bridge_run.specs.events.Prescribed.{gained}
use Rattle.bridge_run.specs.events.RanOut.{RanOutWithin}
use Rattle.bridge_run.specs.written.Recorded.{event_line, lines_of}
use Rattle.bridge_run.specs.course.Serves.{Reaches}
use Rattle.tape_run.specs.declared.status.Status.{Status}
use Rattle.tape_run.specs.declared.status.Status.TheVariants.{Done, Usage, Refused, ReadFault, WriteFault, LinkFault, OutOfMemory, BadTape, Idle, Spent}
use Rattle.tape_run.specs.Text.{opening_text, counts_line}
use Rattle.tape_run.specs.tape.Tape.{lines_of as tape_lines}
use Rattle.tape_run.specs.tape.TapeCommand.{Progress, Reading, read_lines, read_tape, last_text, whole_text}
use Rattle.tape_run.specs.tape.EventCommand.{over_events}
use Rattle.tape_run.specs.Replay.{replay}
use Rattle.usbgate_commands.specs.words.Serving.{ServeSettings}
use Rattle.usbgate_commands.specs.links.Serves.{setting_of}
use Rattle.bridge_run.specs.written.Ups.{to_clients}
use Rattle.tape_laws.specs.Ups.{to_host}
use Rattle.tape_laws.specs.Recordings.{recorded, served, all_replayed}

-- what `replay` reads of a tape, and what it prints for it
abbrev pub read_of : ServeSettings → List ℕ → Reading (List PastEvent)
read_of asked tape = read_tape (over_events (replay asked.first_id)) tape

abbrev pub text_of : ServeSettings → List ℕ → List ℕ
text_of asked tape = whole_text (over_events (replay asked.first_id)) tape

-- The run has ended by itself. The tape has the lines of all events that it took, and is read as these. Its replay
-- prints what each of them sends, and the links were written just that, where they were up.
pub record Plays (asked : ServeSettings) (c : Course) (new : Outside) (held : List ℕ) : Type 0 where
  pub end : ServeEnd
  pub course : Course
  pub reaches : Reaches (setting_of asked) (Goes Making c) (Stops end course)
  pub held-is : held ≡ first_comment asked.first_id ++ recorded (served asked) course.events
  pub good : (read_of asked held).bad ≡ false
  pub events-are : (read_of asked held).after.kept ≡ gate_events course.events
  pub prints : text_of asked held ≡ opening_text asked.first_id ++ all_replayed asked course.events ++ counts_line (counts_of asked.first_id (history asked.first_id (gate_events course.events)))
  pub client : new.client.written ≡ Some (to_clients (served asked) course.events)
  pub host : new.host.written ≡ Some (to_host (served asked) course.events)

-- a front of these bytes was written
pub record WroteFront (known : Option (List ℕ)) (all : List ℕ) : Type 0 where
  pub front : List ℕ
  pub lost : List ℕ
  pub known-is : known ≡ Some front
  pub all-is : all ≡ front ++ lost

-- ---- a run that was cut short

-- memory may have run out in the latest event, and the comments of its refusals are missing
pub record LacksComments (asked : ServeSettings) (e : PastLinkEvent) (events : List PastLinkEvent) (lines : List ℕ) : Type 0 where
  pub lines-are : lines ≡ recorded (served asked) events ++ event_line e
  pub client : List ℕ
  pub host : List ℕ
  pub ran_out : RanOutWithin (gate_runs_out asked.first_id) (served asked) events e client host

-- the lines of these events
abbrev pub AreLines : ServeSettings → List PastLinkEvent → List ℕ → Type 0
AreLines asked [] lines = lines ≡ []
AreLines asked (e ∷ events) lines = (lines ≡ recorded (served asked) (e ∷ events)) ⊎ LacksComments asked e events lines

-- more events were taken, and of the lines of the next one this is a front, and not the whole
pub record IsCutIn (asked : ServeSettings) (events taken : List PastLinkEvent) (more : List ℕ) : Type 0 where
  pub event : PastLinkEvent
  pub after : List PastLinkEvent
  pub taken-are : taken ≡ after ++ (event ∷ events)
  pub missing : ℕ
  pub lost : List ℕ
  pub lines-are : lines_of event (gained (served asked).refusals events event) ≡ more ++ (missing ∷ lost)

-- all that were taken have their lines, or these alone, and a front of the next one's
abbrev pub EndsTape : ServeSettings → List PastLinkEvent → List PastLinkEvent → List ℕ → Type 0
EndsTape asked events taken more = ((taken ≡ events) × (more ≡ [])) ⊎ IsCutIn asked events taken more

-- what `replay` prints for what stands behind lines that it has read
abbrev pub rest_text : ServeSettings → Progress (List PastEvent) → List ℕ → List ℕ
rest_text asked behind more =
    let command = over_events (replay asked.first_id) in let x = read_lines command behind (tape_lines more) in x.text ++ last_text command x

-- The run was cut short, by a fault or for want of memory, within a call. The tape has the lines of the first of the
-- events that were taken, by that call, too, and behind them less than the lines of the next one. Its replay prints
-- what these first events send, and then what it makes of the rest; and of no other event was anything written to the
-- links.
pub record PlaysInPart (asked : ServeSettings) (c : Course) (new : Outside) (held : List ℕ) : Type 0 where
  pub next : Next
  pub course : Course
  pub reaches : Reaches (setting_of asked) (Goes Making c) (Goes next course)
  pub events : List PastLinkEvent
  pub lines : List ℕ
  pub more : List ℕ
  pub are_lines : AreLines asked events lines
  pub held-is : held ≡ first_comment asked.first_id ++ lines ++ more
  pub ends : EndsTape asked events (course_of (call (setting_of asked) next course)).events more
  pub behind : Progress (List PastEvent)
  pub kept-is : behind.kept ≡ gate_events events
  pub bytes-are : behind.bytes ≡ length (first_comment asked.first_id ++ lines)
  pub prints : text_of asked held ≡ opening_text asked.first_id ++ all_replayed asked events ++ rest_text asked behind more
  pub client : WroteFront new.client.written (to_clients (served asked) events)
  pub host : WroteFront new.host.written (to_host (served asked) events)

-- nothing was written to a link
pub record IsUnserved (new : Outside) : Type 0 where
  pub client : new.client.written ≡ Some []
  pub host : new.host.written ≡ Some []

-- nothing was served, since no file was made, and the recording has what it had before
pub record IsAsBefore (before : Option (List ℕ)) (new : Outside) (held : List ℕ) : Type 0 where
  pub unserved : IsUnserved new
  pub before-is : before ≡ Some held

-- Nothing was served, since the first line couldn't be written, of which the tape has a front. It is read as no event,
-- and its replay prints what a replay of nothing does: the hello and the counts.
pub record PlaysNothing (asked : ServeSettings) (new : Outside) (held : List ℕ) : Type 0 where
  pub unserved : IsUnserved new
  pub front : Begins held (first_comment asked.first_id)
  pub good : (read_of asked held).bad ≡ false
  pub none : (read_of asked held).after.kept ≡ []
  pub prints : text_of asked held ≡ opening_text asked.first_id ++ counts_line (counts_of asked.first_id (history asked.first_id []))

-- what a tape that told so much before has then, and what its replay prints
abbrev pub Replays : Status → ServeSettings → Course → Option (List ℕ) → Outside → List ℕ → Type 0
Replays Done asked c before new held = Plays asked c new held
Replays Refused asked c before new held = Plays asked c new held
Replays Idle asked c before new held = Plays asked c new held
Replays Spent asked c before new held = Plays asked c new held
Replays Usage asked c before new held = IsAsBefore before new held
Replays WriteFault asked c before new held = IsAsBefore before new held ⊎ (PlaysNothing asked new held ⊎ PlaysInPart asked c new held)
Replays (LinkFault side) asked c before new held = PlaysInPart asked c new held
Replays OutOfMemory asked c before new held = IsAsBefore before new held ⊎ PlaysInPart asked c new held
Replays ReadFault asked c before new held = ⊥
Replays (BadTape number) asked c before new held = ⊥
