-- What events, the latest first, record, and have a replay print.
use Rattle.std.specs.Prelude.{ℕ, List, [], ◌∷◌, ◌++◌}
use Rattle.bridge_run.specs.events.Events.{PastLinkEvent}
use Rattle.bridge_run.specs.events.Prescribed.{Prescribed, gained}
use Rattle.bridge_run.specs.written.Recorded.{lines_of}
use Rattle.bridge_serve.specs.served.Gate.{gate_sends, gate_notes}
use Rattle.tape_run.specs.Text.{sent_text}
use Rattle.usbgate_commands.specs.words.Serving.{ServeSettings}

-- the lines of each event, behind the first line of a recording
abbrev pub recorded : Prescribed → List PastLinkEvent → List ℕ
recorded p [] = []
recorded p (e ∷ events) = recorded p events ++ lines_of e (gained p.refusals events e)

-- what is served
abbrev pub served : ServeSettings → Prescribed
served asked = gate_sends asked.after_loss asked.first_id

-- what a replay prints for an event: a line with what it sends to clients, one with what it sends to the host, and its
-- refusals
abbrev pub replayed : ServeSettings → List PastLinkEvent → PastLinkEvent → List ℕ
replayed asked events e =
    sent_text (gained (served asked).to_client events e) (gained (served asked).to_host events e) (gained (gate_notes asked.first_id) events e)

abbrev pub all_replayed : ServeSettings → List PastLinkEvent → List ℕ
all_replayed asked [] = []
all_replayed asked (e ∷ events) = all_replayed asked events ++ replayed asked events e
