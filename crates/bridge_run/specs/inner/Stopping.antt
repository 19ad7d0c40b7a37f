-- How a session stops for want of memory, by the log of the doors' calls.
use Rattle.std.specs.Prelude.{◌≡◌, ◌++◌, ◌∷◌, [], ℕ, if◌then◌else◌, List, Some, is_some}
use Rattle.usb_base.specs.Writes.{Begins}
use Rattle.usb_base.specs.declared.side.Side.{Side}
use Rattle.usb_base.specs.declared.side.Side.TheVariants.{Client, Host}
use Rattle.gate_outside.specs.Calls.{Call, Called, went}
use Rattle.bridge_run.specs.events.Events.{PastLinkEvent}
use Rattle.bridge_run.specs.declared.course.serve_end.ServeEnd.{ServeEnd}
use Rattle.bridge_run.specs.declared.course.serve_end.ServeEnd.TheVariants.{LinkFault, WriteFault, Memory}
use Rattle.bridge_run.specs.declared.course.rounds.Rounds.{Rounds}
use Rattle.bridge_run.specs.events.Prescribed.{Prescribed}
use Rattle.bridge_run.specs.course.Course.{Course}
use Rattle.bridge_run.specs.written.Ups.{client_at, client_behind, host_at, host_since, to_clients, sent_to_host, told_of}
use Rattle.bridge_run.specs.log.Asks.{last_fault}
use Rattle.bridge_run.specs.events.RanOut.{RanOut}
use Rattle.bridge_run.specs.log.Log.{Terms, events_of, events_before, IsWritten, IsWrittenInPart, Settled, JustCame}

-- what is kept of the links is the course's
pub record AreUp (k : Rounds) (c : Course) : Type 0 where
  pub client : k.client_up ≡ c.client_up
  pub host : k.host_up ≡ c.host_up

-- the latest event is still to be sent for
pub record IsStopping {D : Type 0} (gives : D → Call → D → Type 0) (terms : Terms) (p : Prescribed) (e : PastLinkEvent) (events : List PastLinkEvent) (k : Rounds) (begun now : D) : Type 0 where
  pub calls : List Call
  pub called : Called gives calls begun now
  pub settled : Settled terms p calls
  pub events-are : events_of calls ≡ e ∷ events
  pub just_came : JustCame calls
  pub written : IsWritten terms p events calls
  pub told_before : Begins (told_of p (events_before calls)) (told_of p events)
  pub client_up : k.client_up ≡ client_at e (client_behind p events)
  pub host_up : k.host_up ≡ host_at e (host_since (is_some terms.host) p events)

-- what it had sent is written
pub record HasStopped {D : Type 0} (gives : D → Call → D → Type 0) (runs_out : List PastLinkEvent → PastLinkEvent → List ℕ → List ℕ → Type 0) (terms : Terms) (p : Prescribed) (e : PastLinkEvent) (events : List PastLinkEvent) (begun now : D) : Type 0 where
  pub calls : List Call
  pub called : Called gives calls begun now
  pub settled : Settled terms p calls
  pub events-are : events_of calls ≡ e ∷ events
  pub just_came : JustCame calls
  pub to_client : List ℕ
  pub to_host : List ℕ
  pub ran_out : RanOut runs_out terms.taped p events e to_client to_host
  pub client : went Client calls ≡ to_clients p events ++ (if client_at e (client_behind p events) then to_client else [])
  pub host : went Host calls ≡ sent_to_host (is_some terms.host) p events ++ (if host_at e (host_since (is_some terms.host) p events) then to_host else [])

-- a fault came first
pub record StopFailed {D : Type 0} (gives : D → Call → D → Type 0) (terms : Terms) (p : Prescribed) (e : PastLinkEvent) (events : List PastLinkEvent) (begun now : D) : Type 0 where
  pub calls : List Call
  pub called : Called gives calls begun now
  pub settled : Settled terms p calls
  pub events-are : events_of calls ≡ e ∷ events
  pub just_came : JustCame calls
  pub written : IsWrittenInPart terms p (e ∷ events) calls
  pub told_before : Begins (told_of p (events_before calls)) (told_of p events)

-- which was that of a link
pub record StopCut {D : Type 0} (side : Side) (gives : D → Call → D → Type 0) (terms : Terms) (p : Prescribed) (e : PastLinkEvent) (events : List PastLinkEvent) (begun now : D) : Type 0 where
  pub part : StopFailed gives terms p e events begun now
  pub failed : last_fault part.calls ≡ Some side

abbrev pub StopLogs : {D : Type 0} → ServeEnd → (D → Call → D → Type 0) → (List PastLinkEvent → PastLinkEvent → List ℕ → List ℕ → Type 0) → Terms → Prescribed → PastLinkEvent → List PastLinkEvent → D → D → Type 0
StopLogs Memory gives runs_out terms p e events begun now = HasStopped gives runs_out terms p e events begun now
StopLogs WriteFault gives runs_out terms p e events begun now = StopFailed gives terms p e events begun now
StopLogs (LinkFault side) gives runs_out terms p e events begun now = StopCut side gives terms p e events begun now
StopLogs _ gives runs_out terms p e events begun now = ⊥
