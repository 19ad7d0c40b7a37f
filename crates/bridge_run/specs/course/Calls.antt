-- How serving goes on over doors that tell their turns: what each call of the doors gives, and what comes of that.
use Rattle.std.specs.Prelude.{ℕ, zero, suc, ◌-◌, ◌==◌, ◌&&◌, ◌||◌, not, Bool, true, false, if◌then◌else◌, List, [], ◌∷◌, ◌++◌}
use Rattle.std.specs.List.{flat_map}
use Rattle.usb_base.specs.declared.side.Side.{Side}
use Rattle.usb_base.specs.declared.side.Side.TheVariants.{Client, Host}
use Rattle.usb_base.specs.Refusal.{refusal_line}
use Rattle.gate_outside.specs.declared.turn.Turn.{Turn}
use Rattle.gate_outside.specs.declared.turn.Polled.{Polled}
use Rattle.gate_outside.specs.declared.turn.Polled.TheVariants.{Took, NotYet, Ended, Failed}
use Rattle.gate_outside.specs.Turns.{pending, answer, given, after}
use Rattle.bridge_run.specs.events.Events.{PastLinkEvent, ClientComes, ClientQuiet, SidePiece, SideEnd}
use Rattle.bridge_run.specs.written.Recorded.{lines_of, sends_any, is_last, is_full, written_if, waiting_if}
use Rattle.bridge_run.specs.declared.course.polling.TheConstants.{POLL_LIMIT}
use Rattle.bridge_run.specs.declared.course.serve_end.ServeEnd.{ServeEnd}
use Rattle.bridge_run.specs.declared.course.serve_end.ServeEnd.TheVariants as end
use Rattle.bridge_run.specs.events.Prescribed.{Prescribed, gained, refuses, drops, first_of}
use Rattle.bridge_run.specs.course.Course.{Setting, Course, Next, Making, AtDoor, AtClient, AtHost, AtEnd, Takes}

-- it goes on, or has come to an end
pub data Outcome : Type 0 where
  Goes : Next → Course → Outcome
  Stops : ServeEnd → Course → Outcome

-- ---- an event

-- its lines don't wait where it sends anything, and where no more may come
abbrev pub sends_now : Prescribed → PastLinkEvent → Course → Bool
sends_now p e c = sends_any (gained p.to_client c.events e) (gained p.to_host c.events e) (gained p.refusals c.events e) (p.lets_go (e ∷ c.events)) || is_last c

-- the lines that wait, and behind them its own
abbrev pub lines_with : Prescribed → PastLinkEvent → Course → List ℕ
lines_with p e c = c.waiting ++ lines_of e (gained p.refusals c.events e)

-- they are written to the tape
abbrev pub is_due : Prescribed → PastLinkEvent → Course → Bool
is_due p e c = sends_now p e c || is_full (lines_with p e c)

-- its lines are put behind those that wait, and all of them are written to the tape where they are due. Then what it
-- sends is written to each side whose link is up. Then a side that it refuses has its link closed, and a client that it
-- lets go. What that client had still to send is lost.
abbrev pub put : Prescribed → PastLinkEvent → Course → Course
put p e c = let refused = gained p.refusals c.events e in record c {
  events = e ∷ c.events;
  client_up = c.client_up && not (drops p c.events e);
  host_up = c.host_up && not (refuses Host refused);
  client = if drops p c.events e then [] else c.client;
  to_client = if c.client_up then c.to_client ++ gained p.to_client c.events e else c.to_client;
  to_host = if c.host_up then c.to_host ++ gained p.to_host c.events e else c.to_host;
  told = c.told ++ flat_map refusal_line refused;
  recorded = c.recorded ++ written_if (is_due p e c) (lines_with p e c);
  waiting = waiting_if (is_due p e c) (lines_with p e c);
}

-- no client is there and the host is gone, or all bytes are taken that may be
abbrev pub settle : Setting → Next → Course → Outcome
settle s next c =
    if not c.client_up && not c.host_up then Stops (end.Ended (first_of (s.served.refusals c.events))) c
    else if c.left == 0 then Stops end.Spent c
    else Goes next c

-- a client that was refused, or let go, has its end next
abbrev pub ends_next : PastLinkEvent → Bool → Bool
ends_next (SideEnd Client) dropped = false
ends_next e dropped = dropped

abbrev pub take_event : Setting → PastLinkEvent → Next → Course → Outcome
take_event s e next c =
    if ends_next e (drops s.served c.events e) then Goes (Takes (SideEnd Client) next) (put s.served e c)
    else settle s next (put s.served e c)

-- ---- a round

-- the next client comes, where one is still to come
abbrev pub come : List (List Turn) → Course → Outcome
come [] c = Goes AtClient c
come (turns ∷ clients) c = Goes (Takes ClientComes AtClient) (record c { client_up = true; client = turns; clients = clients; busy = true; left = c.left - 1 })

-- the turns after a poll
abbrev pub turned : Side → Course → Course
turned Client c = record c { client = after POLL_LIMIT (pending c.client) }
turned Host c = record c { host = after POLL_LIMIT (pending c.host) }

abbrev pub down : Side → Course → Course
down Client c = record c { client_up = false }
down Host c = record c { host_up = false }

-- a client that has nothing is an event, too
abbrev pub quiet : Side → Next → Next
quiet Client next = Takes ClientQuiet next
quiet Host next = next

-- what comes of a poll's answer
abbrev pub heard : Side → Next → Polled → List ℕ → Course → Outcome
heard side next (Took n) bytes c = Goes (Takes (SidePiece side bytes) next) (record c { busy = true; left = c.left - n })
heard side next NotYet bytes c = Goes (quiet side next) c
heard side next Ended bytes c = Goes (Takes (SideEnd side) next) (record (down side c) { busy = true })
heard side next Failed bytes c = Stops (end.LinkFault side) c

abbrev pub poll : Side → List Turn → Next → Course → Outcome
poll side turns next c = heard side next (answer POLL_LIMIT (pending turns)) (given POLL_LIMIT (pending turns)) (turned side c)

-- what waits is written to the tape
abbrev pub gathered : Course → Course
gathered c = record c { recorded = c.recorded ++ c.waiting; waiting = [] }

-- a round that brought nothing is one fewer that may follow, and leaves nothing waiting
abbrev pub rest : Setting → Course → Outcome
rest s c =
    if c.busy then Goes AtDoor (record c { busy = false; waits = s.idle })
    else if c.waits - 1 == 0 then Stops end.Idle (record (gathered c) { waits = c.waits - 1 })
    else Goes AtDoor (record (gathered c) { waits = c.waits - 1 })

-- ---- one call after another

abbrev pub make : Prescribed → Course → Course
make p c = record c { host_up = true; to_host = c.to_host ++ p.to_host [] }

abbrev pub call : Setting → Next → Course → Outcome
call s Making c = Goes AtDoor (make s.served c)
call s AtDoor c = if c.client_up then Goes AtClient c else come c.clients c
call s AtClient c = if c.client_up then poll Client c.client AtHost c else Goes AtHost c
call s AtHost c = if c.host_up then poll Host c.host AtEnd c else Goes AtEnd c
call s AtEnd c = rest s c
call s (Takes e next) c = take_event s e next c

abbrev pub and_then : Outcome → (Next → Course → Outcome) → Outcome
and_then (Goes next c) f = f next c
and_then (Stops e c) f = Stops e c

-- what comes after so many calls
abbrev pub calls : Setting → ℕ → Outcome → Outcome
calls s zero o = o
calls s (suc n) o = and_then (calls s n o) (call s)

-- the course in which it goes on or has ended
abbrev pub course_of : Outcome → Course
course_of (Goes next c) = c
course_of (Stops e c) = c
