-- How far a session has come by the log of the doors' calls.
use Rattle.std.specs.Prelude.{◌≡◌, ◌⊎◌, ◌≤◌, ◌<◌, ◌+◌, ◌-◌, ◌++◌, ◌∷◌, [], ℕ, not, Bool, true, false, List, Some, is_some, Result, Ok, Err}
use Rattle.usb_base.specs.Writes.{Begins}
use Rattle.usb_base.specs.declared.side.Side.{Side}
use Rattle.usb_base.specs.declared.side.Side.TheVariants.{Client, Host}
use Rattle.gate_outside.specs.Calls.{Call, Close, Called, went}
use Rattle.gate_outside.specs.Link.{other}
use Rattle.bridge_run.specs.events.Events.{PastLinkEvent, ClientQuiet, SideEnd}
use Rattle.bridge_run.specs.declared.course.serve_end.ServeEnd.{ServeEnd}
use Rattle.bridge_run.specs.declared.course.serve_end.ServeEnd.TheVariants.{LinkFault}
use Rattle.bridge_run.specs.declared.course.rounds.Rounds.{Rounds}
use Rattle.bridge_run.specs.events.Prescribed.{Prescribed, first_of}
use Rattle.bridge_run.specs.course.Course.{Next, AtDoor, AtClient, AtHost}
use Rattle.bridge_run.specs.course.Calls.{ends_next}
use Rattle.bridge_run.specs.written.Recorded.{written_if}
use Rattle.bridge_run.specs.written.Ups.{client_at, client_behind, host_at, host_since, told_of, up_by}
use Rattle.bridge_run.specs.log.Asks.{Ask, asks_of, taken, has_just_come, quiet_rounds, is_behind_host, last_fault}
use Rattle.bridge_run.specs.log.Log.{Terms, events_of, events_before, IsWritten, IsWrittenInPart, is_up, GoesOn, is_over, Settled, JustCame, Logged}
use Rattle.bridge_run.specs.inner.Keeping.{one_if, is_over as none_up}

-- what is served stands for the events that came, and all is written that they send
pub record IsAt {D : Type 0} (gives : D → Call → D → Type 0) (stands : List PastLinkEvent → Type 0) (tells : List ℕ → Type 0) (terms : Terms) (p : Prescribed) (asks : List Ask) (k : Rounds) (begun now : D) : Type 0 where
  pub calls : List Call
  pub called : Called gives calls begun now
  pub settled : Settled terms p calls
  pub asks-are : asks_of calls ≡ asks
  pub stands_for : stands (events_of calls)
  pub written : IsWritten terms p (events_of calls) calls
  pub told : tells (told_of p (events_of calls))
  pub told_before : Begins (told_of p (events_before calls)) (told_of p (events_of calls))
  pub left : k.left ≡ terms.budget - taken asks
  pub client_up : k.client_up ≡ client_behind p (events_of calls)
  pub host_up : k.host_up ≡ host_since (is_some terms.host) p (events_of calls)
  pub links : (of : Side) → up_by of calls ≡ is_up of terms p (events_of calls)
  pub refused : k.refused ≡ first_of (p.refusals (events_of calls))

-- as an event is taken behind these the side's link is up
abbrev pub up_at : Side → Terms → Prescribed → PastLinkEvent → List PastLinkEvent → Bool
up_at Client terms p e events = client_at e (client_behind p events)
up_at Host terms p e events = host_at e (host_since (is_some terms.host) p events)

-- the latest event is still to be taken
pub record IsTaking {D : Type 0} (gives : D → Call → D → Type 0) (stands : List PastLinkEvent → Type 0) (tells : List ℕ → Type 0) (terms : Terms) (p : Prescribed) (asks : List Ask) (e : PastLinkEvent) (k : Rounds) (begun now : D) : Type 0 where
  pub calls : List Call
  pub called : Called gives calls begun now
  pub settled : Settled terms p calls
  pub asks-are : asks_of calls ≡ asks
  pub events : List PastLinkEvent
  pub events-are : events_of calls ≡ e ∷ events
  pub just_came : JustCame calls
  pub stands_for : stands events
  pub written : IsWritten terms p events calls
  pub told : tells (told_of p events)
  pub told_before : Begins (told_of p (events_before calls)) (told_of p events)
  pub left : k.left ≡ terms.budget - taken asks
  pub client_up : k.client_up ≡ client_at e (client_behind p events)
  pub host_up : k.host_up ≡ host_at e (host_since (is_some terms.host) p events)
  pub links : (of : Side) → up_by of calls ≡ up_at of terms p e events
  pub refused : k.refused ≡ first_of (p.refusals events)

-- the latest event was taken
pub record HasTaken {D : Type 0} (gives : D → Call → D → Type 0) (stands : List PastLinkEvent → Type 0) (tells : List ℕ → Type 0) (terms : Terms) (p : Prescribed) (asks : List Ask) (k : Rounds) (begun now : D) : Type 0 where
  pub at : IsAt gives stands tells terms p asks k begun now
  pub just_came : JustCame at.calls
  pub over : is_over terms p (events_of at.calls) ≡ none_up k

-- the end of a client is still to be taken, or nothing is
abbrev pub IsBehind : {D : Type 0} → Bool → (D → Call → D → Type 0) → (List PastLinkEvent → Type 0) → (List ℕ → Type 0) → Terms → Prescribed → List Ask → Rounds → D → D → Type 0
IsBehind true gives stands tells terms p asks k begun now = IsTaking gives stands tells terms p asks (SideEnd Client) k begun now
IsBehind false gives stands tells terms p asks k begun now = HasTaken gives stands tells terms p asks k begun now

abbrev pub PutLogs : {D : Type 0} → Result Bool ServeEnd → (D → Call → D → Type 0) → (List PastLinkEvent → Type 0) → (List PastLinkEvent → PastLinkEvent → List ℕ → List ℕ → Type 0) → (List ℕ → Type 0) → Terms → Prescribed → List Ask → PastLinkEvent → Rounds → D → D → Type 0
PutLogs (Ok dropped) gives stands runs_out tells terms p asks e k begun now = IsBehind (ends_next e dropped) gives stands tells terms p asks k begun now
PutLogs (Err x) gives stands runs_out tells terms p asks e k begun now = Logged x gives runs_out tells terms p begun now

-- nothing is still to be taken, and more may come
pub record IsOn {D : Type 0} (gives : D → Call → D → Type 0) (stands : List PastLinkEvent → Type 0) (tells : List ℕ → Type 0) (terms : Terms) (p : Prescribed) (asks : List Ask) (k : Rounds) (begun now : D) : Type 0 where
  pub at : IsAt gives stands tells terms p asks k begun now
  pub goes_on : GoesOn terms p at.calls

abbrev pub HappenLogs : {T D : Type 0} → Result T ServeEnd → (D → Call → D → Type 0) → (List PastLinkEvent → Type 0) → (List PastLinkEvent → PastLinkEvent → List ℕ → List ℕ → Type 0) → (List ℕ → Type 0) → Terms → Prescribed → List Ask → Rounds → D → D → Type 0
HappenLogs (Ok _) gives stands runs_out tells terms p asks k begun now = IsOn gives stands tells terms p asks k begun now
HappenLogs (Err e) gives stands runs_out tells terms p asks k begun now = Logged e gives runs_out tells terms p begun now

-- a side had nothing
abbrev pub IsResting : {D : Type 0} → Side → (D → Call → D → Type 0) → (List PastLinkEvent → Type 0) → (List ℕ → Type 0) → Terms → Prescribed → List Ask → Rounds → D → D → Type 0
IsResting Client gives stands tells terms p asks k begun now = IsTaking gives stands tells terms p asks ClientQuiet k begun now
IsResting Host gives stands tells terms p asks k begun now = IsOn gives stands tells terms p asks k begun now

-- ---- a round

-- rounds may bring nothing
pub record IsPatient (terms : Terms) (k : Rounds) : Type 0 where
  pub idle : k.idle ≡ terms.idle
  pub some : 0 < terms.idle
  pub waits : 0 < k.waits
  pub within : k.waits ≤ terms.idle

-- whether the client's side was asked in this round, and whether the client that is there has just come
pub record HasWaited (asked just_come : Bool) (terms : Terms) (k : Rounds) (asks : List Ask) : Type 0 where
  pub came : k.client_up ≡ true → has_just_come asks ≡ just_come
  pub busy : k.busy ≡ true → quiet_rounds asks ≡ 0
  pub quiet : k.busy ≡ false → k.waits + quiet_rounds asks ≡ terms.idle + one_if asked

-- by what the round does next
abbrev pub Waits : Next → Terms → Rounds → List Ask → Type 0
Waits AtDoor terms k asks = (k.busy ≡ false) × HasWaited false false terms k asks
Waits AtClient terms k asks = HasWaited (not k.client_up) k.busy terms k asks
Waits next terms k asks = HasWaited true false terms k asks

-- whom it asked last, by whether a client is there
abbrev pub DoorTurn : Bool → Rounds → List Ask → Type 0
DoorTurn true k asks = (has_just_come asks ≡ true) ⊎ (k.host_up ≡ true → is_behind_host asks ≡ true)
DoorTurn false k asks = is_behind_host asks ≡ false

abbrev pub HasTurn : Next → Rounds → List Ask → Type 0
HasTurn AtClient k asks = DoorTurn k.client_up k asks
HasTurn AtHost k asks = is_behind_host asks ≡ false
HasTurn next k asks = k.host_up ≡ true → is_behind_host asks ≡ true

pub record IsAsking {D : Type 0} (next : Next) (gives : D → Call → D → Type 0) (stands : List PastLinkEvent → Type 0) (tells : List ℕ → Type 0) (terms : Terms) (p : Prescribed) (k : Rounds) (begun now : D) : Type 0 where
  pub asks : List Ask
  pub on : IsOn gives stands tells terms p asks k begun now
  pub patient : IsPatient terms k
  pub waited : Waits next terms k asks
  pub turn : HasTurn next k asks

abbrev pub Logs : {T D : Type 0} → Result T ServeEnd → Next → (D → Call → D → Type 0) → (List PastLinkEvent → Type 0) → (List PastLinkEvent → PastLinkEvent → List ℕ → List ℕ → Type 0) → (List ℕ → Type 0) → Terms → Prescribed → Rounds → D → D → Type 0
Logs (Ok _) next gives stands runs_out tells terms p k begun now = IsAsking next gives stands tells terms p k begun now
Logs (Err e) next gives stands runs_out tells terms p k begun now = Logged e gives runs_out tells terms p begun now

-- ---- a link

-- these bytes were written to a side's link behind these calls
pub record WroteMore {D : Type 0} (gives : D → Call → D → Type 0) (side : Side) (bytes : List ℕ) (calls : List Call) (begun now : D) : Type 0 where
  pub behind : List Call
  pub called : Called gives behind begun now
  pub settled : (terms : Terms) (p : Prescribed) → Settled terms p calls → Settled terms p behind
  pub asks-are : asks_of behind ≡ asks_of calls
  pub events-are : events_of behind ≡ events_of calls
  pub before-are : events_before behind ≡ events_before calls
  pub just_came : JustCame calls → JustCame behind
  pub links : (of : Side) → up_by of behind ≡ up_by of calls
  pub side-is : went side behind ≡ went side calls ++ bytes
  pub other-is : went (other side) behind ≡ went (other side) calls

-- a front of the bytes was written to a link that is up, and then a call failed
pub record FailedBehind {D : Type 0} (gives : D → Call → D → Type 0) (side : Side) (up : Bool) (bytes : List ℕ) (calls : List Call) (begun now : D) : Type 0 where
  pub front : List ℕ
  pub back : List ℕ
  pub is_up : up ≡ true
  pub parts : bytes ≡ front ++ back
  pub wrote : WroteMore gives side front calls begun now
  pub failed : last_fault wrote.behind ≡ Some side

-- all of the bytes, if the link is up, or a front of them
abbrev pub LogsAll : {T D : Type 0} → Result T ServeEnd → (D → Call → D → Type 0) → Side → Bool → List ℕ → List Call → D → D → Type 0
LogsAll (Ok _) gives side up bytes calls begun now = WroteMore gives side (written_if up bytes) calls begun now
LogsAll (Err _) gives side up bytes calls begun now = FailedBehind gives side up bytes calls begun now

abbrev pub closing : Bool → Side → List Call → List Call
closing true side calls = Close side ∷ calls
closing false side calls = calls

-- ---- the opening

-- the host was dialled, and has its hello, and no event has come
pub record HasOpened {D : Type 0} (gives : D → Call → D → Type 0) (terms : Terms) (p : Prescribed) (begun now : D) : Type 0 where
  pub calls : List Call
  pub called : Called gives calls begun now
  pub settled : Settled terms p calls
  pub asked : asks_of calls ≡ []
  pub none : events_of calls ≡ []
  pub none_before : events_before calls ≡ []
  pub links : (of : Side) → up_by of calls ≡ is_up of terms p []
  pub written : IsWritten terms p [] calls

-- a call failed before that
pub record OpenFailed {D : Type 0} (side : Side) (gives : D → Call → D → Type 0) (terms : Terms) (p : Prescribed) (begun now : D) : Type 0 where
  pub calls : List Call
  pub called : Called gives calls begun now
  pub settled : Settled terms p calls
  pub none : events_of calls ≡ []
  pub none_before : events_before calls ≡ []
  pub written : IsWrittenInPart terms p [] calls
  pub failed : last_fault calls ≡ Some side

abbrev pub OpenLogs : {T D : Type 0} → Result T ServeEnd → (D → Call → D → Type 0) → Terms → Prescribed → D → D → Type 0
OpenLogs (Ok _) gives terms p begun now = HasOpened gives terms p begun now
OpenLogs (Err (LinkFault side)) gives terms p begun now = OpenFailed side gives terms p begun now
OpenLogs (Err _) gives terms p begun now = ⊥
