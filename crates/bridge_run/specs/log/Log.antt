-- What serving has done, by the log of the doors' calls: which events came, that what was written is what they send,
-- and why it ended. It holds over any doors and any sink, since it speaks of nothing but what their calls answered.
use Rattle.std.specs.Prelude.{◌≡◌, ◌⊎◌, ◌<◌, ◌≤◌, ℕ, ◌&&◌, not, Bool, true, false, if◌then◌else◌, List, [], ◌∷◌, ◌++◌, take, Option, Some, None, is_some, IsSomeAnd, Result, Ok}
use Rattle.std.specs.List.{cons_option}
use Rattle.usb_base.specs.Writes.{Begins}
use Rattle.usb_base.specs.declared.side.Side.{Side}
use Rattle.usb_base.specs.declared.side.Side.TheVariants.{Client, Host}
use Rattle.gate_outside.specs.declared.fault.Failed.{Failed as Fault}
use Rattle.gate_outside.specs.declared.turn.Polled.TheVariants.{Took, NotYet, Ended}
use Rattle.gate_outside.specs.Calls.{Call, Dial, Listen, Accept, Poll, Write, Close, Called, went}
use Rattle.gate_outside.specs.Moved.{Moves}
use Rattle.bridge_run.specs.events.Events.{PastLinkEvent, ClientComes, ClientQuiet, SidePiece, SideEnd}
use Rattle.bridge_run.specs.declared.course.serve_end.ServeEnd.{ServeEnd}
use Rattle.bridge_run.specs.declared.course.serve_end.ServeEnd.TheVariants as end
use Rattle.bridge_run.specs.events.Prescribed.{Prescribed, first_of}
use Rattle.bridge_run.specs.course.Calls.{ends_next}
use Rattle.bridge_run.specs.written.Ups.{client_at, host_at, client_behind, host_since, to_clients, sent_to_host, told_of, up_by}
use Rattle.bridge_run.specs.events.RanOut.{RanOut}
use Rattle.bridge_run.specs.log.Asks.{asks_of, taken, has_just_come, quiet_rounds, is_behind_host, last_fault}

-- ---- which events came, the latest first

-- the event that a call's answer is: a client that has nothing is one, too
abbrev pub event_in : Call → Option PastLinkEvent
event_in (Accept (Ok true)) = Some ClientComes
event_in (Poll side (Took n) buf) = Some (SidePiece side (take n buf))
event_in (Poll side Ended buf) = Some (SideEnd side)
event_in (Poll Client NotYet buf) = Some ClientQuiet
event_in call = None

-- a client whose link is closed has its end next, where that isn't what closed it
abbrev pub behind_call : Call → List PastLinkEvent → List PastLinkEvent
behind_call (Close Client) (e ∷ events) = if ends_next e true then SideEnd Client ∷ e ∷ events else e ∷ events
behind_call call events = cons_option (event_in call) events

abbrev pub events_of : List Call → List PastLinkEvent
events_of [] = []
events_of (call ∷ calls) = behind_call call (events_of calls)

-- those before the latest question
abbrev pub events_before : List Call → List PastLinkEvent
events_before [] = []
events_before (Accept answer ∷ calls) = events_of calls
events_before (Poll side polled buf ∷ calls) = events_of calls
events_before (call ∷ calls) = events_before calls

-- ---- what was asked of it

-- the address of the host, where one is dialled, and that of the door; whether there is a tape, on which the events are
-- recorded; and how long it goes on: after how many rounds in a row that bring nothing it ends, and how many bytes may
-- come, where each client counts as one
pub record Terms : Type 0 where
  pub host : Option (List ℕ)
  pub door : List ℕ
  pub taped : Bool
  pub idle : ℕ
  pub budget : ℕ

-- nothing but the dialling of the host, where there is one
abbrev pub IsDialled : Option (List ℕ) → List Call → Type 0
IsDialled None calls = calls ≡ []
IsDialled (Some host) calls = calls ≡ Dial host (Ok tt) ∷ []

-- ---- what was written

-- all that these events send, to each side as far as its link was up, and no more
pub record IsWritten (terms : Terms) (p : Prescribed) (events : List PastLinkEvent) (calls : List Call) : Type 0 where
  pub client : went Client calls ≡ to_clients p events
  pub host : went Host calls ≡ sent_to_host (is_some terms.host) p events

-- to each side a front of that
pub record IsWrittenInPart (terms : Terms) (p : Prescribed) (events : List PastLinkEvent) (calls : List Call) : Type 0 where
  pub client : Begins (went Client calls) (to_clients p events)
  pub host : Begins (went Host calls) (sent_to_host (is_some terms.host) p events)

-- ---- what may come

-- behind these events the side's link is up
abbrev pub is_up : Side → Terms → Prescribed → List PastLinkEvent → Bool
is_up Client terms p events = client_behind p events
is_up Host terms p events = host_since (is_some terms.host) p events

-- somebody has come, and no link is up any more
abbrev pub is_over : Terms → Prescribed → List PastLinkEvent → Bool
is_over terms p [] = false
is_over terms p (e ∷ events) = not (client_behind p (e ∷ events)) && not (host_since (is_some terms.host) p (e ∷ events))

-- more may come
pub record GoesOn (terms : Terms) (p : Prescribed) (calls : List Call) : Type 0 where
  pub links : is_over terms p (events_of calls) ≡ false
  pub left : taken (asks_of calls) < terms.budget

-- each round begins with the client's side, and as many that bring nothing may follow one another
abbrev pub MayBegin : Side → Terms → List Call → Type 0
MayBegin Client terms calls = quiet_rounds (asks_of calls) < terms.idle
MayBegin Host terms calls = Unit {0}

-- more may come from this side, all is written that is sent for what came before, and each link is closed that is to
-- be, and no other
pub record MayAsk (side : Side) (terms : Terms) (p : Prescribed) (calls : List Call) : Type 0 where
  pub written : IsWritten terms p (events_of calls) calls
  pub goes_on : GoesOn terms p calls
  pub round : MayBegin side terms calls
  pub links : (of : Side) → up_by of calls ≡ is_up of terms p (events_of calls)

-- behind the one before it: the host was polled in that, where its link is up
abbrev pub BeginsRound : Terms → Prescribed → List Call → Type 0
BeginsRound terms p calls = host_since (is_some terms.host) p (events_of calls) ≡ true → is_behind_host (asks_of calls) ≡ true

-- a round polls the client first that is there, or has just come, unless its link was closed at once, and then the host
abbrev pub IsTurnOf : Side → Terms → Prescribed → List Call → Type 0
IsTurnOf Client terms p calls = (has_just_come (asks_of calls) ≡ true) ⊎ BeginsRound terms p calls
IsTurnOf Host terms p calls = (is_behind_host (asks_of calls) ≡ false) × (has_just_come (asks_of calls) ≡ true → is_up Client terms p (events_of calls) ≡ false)

-- The host is dialled first, and once, and then the door is made, once. Nobody is asked for anything before all is
-- written, nor once it is to end, and both sides are asked in turn: for a client where none is there, and a side whose
-- link is up. A link is closed only behind an event that takes it down.
abbrev pub AsksSettled : Terms → Prescribed → Call → List Call → Type 0
AsksSettled terms p (Dial addr answer) calls = IsSomeAnd terms.host (λ host. addr ≡ host) × (calls ≡ [])
AsksSettled terms p (Listen addr answer) calls = (addr ≡ terms.door) × IsDialled terms.host calls
AsksSettled terms p (Accept answer) calls = MayAsk Client terms p calls × BeginsRound terms p calls × (is_up Client terms p (events_of calls) ≡ false)
AsksSettled terms p (Poll side polled buf) calls = MayAsk side terms p calls × IsTurnOf side terms p calls × (is_up side terms p (events_of calls) ≡ true)
AsksSettled terms p (Close side) calls = is_up side terms p (events_of calls) ≡ false
AsksSettled terms p call calls = Unit {0}

abbrev pub Settled : Terms → Prescribed → List Call → Type 0
Settled terms p [] = Unit {0}
Settled terms p (call ∷ calls) = Settled terms p calls × AsksSettled terms p call calls

-- ---- at the end

-- these bytes were written to a sink, by its log, and no others
abbrev pub Told : {K : Type 0} → (K → List ℕ → Result ℕ Fault → K → Type 0) → K → K → List ℕ → Type 0
Told write_gives old new bytes = Moves write_gives bytes old new

-- all that these events send, and a line for each side that they refuse
pub record Wrote (tells : List ℕ → Type 0) (terms : Terms) (p : Prescribed) (events : List PastLinkEvent) (calls : List Call) : Type 0 where
  pub links : IsWritten terms p events calls
  pub told : tells (told_of p events)

-- a front of the second bytes, and no less than the first
abbrev pub InPart : (List ℕ → Type 0) → List ℕ → List ℕ → Type 0
InPart tells least most = (front : List ℕ) × (Begins least front × Begins front most × tells front)

-- a call failed: what the last answer brings, and its lines, may be written in part, and those before it are told
pub record WroteInPart (tells : List ℕ → Type 0) (terms : Terms) (p : Prescribed) (events : List PastLinkEvent) (calls : List Call) : Type 0 where
  pub links : IsWrittenInPart terms p events calls
  pub told : InPart tells (told_of p (events_before calls)) (told_of p events)

-- all that the events before the latest send, and of that what it had sent before memory ran out, to each side whose
-- link was up; and no line for it
pub record WroteSent (runs_out : List PastLinkEvent → PastLinkEvent → List ℕ → List ℕ → Type 0) (tells : List ℕ → Type 0) (terms : Terms) (p : Prescribed) (e : PastLinkEvent) (events : List PastLinkEvent) (calls : List Call) : Type 0 where
  pub to_client : List ℕ
  pub to_host : List ℕ
  pub ran_out : RanOut runs_out terms.taped p events e to_client to_host
  pub client : went Client calls ≡ to_clients p events ++ (if client_at e (client_behind p events) then to_client else [])
  pub host : went Host calls ≡ sent_to_host (is_some terms.host) p events ++ (if host_at e (host_since (is_some terms.host) p events) then to_host else [])
  pub told : tells (told_of p events)

-- where memory ran out, that was before all, or as the latest event was taken
abbrev pub HasWritten : ServeEnd → (List PastLinkEvent → PastLinkEvent → List ℕ → List ℕ → Type 0) → (List ℕ → Type 0) → Terms → Prescribed → List PastLinkEvent → List Call → Type 0
HasWritten (end.LinkFault side) runs_out tells terms p events calls = WroteInPart tells terms p events calls
HasWritten end.WriteFault runs_out tells terms p events calls = WroteInPart tells terms p events calls
HasWritten end.Memory runs_out tells terms p [] calls = (calls ≡ []) × tells []
HasWritten end.Memory runs_out tells terms p (e ∷ events) calls = WroteSent runs_out tells terms p e events calls
HasWritten e runs_out tells terms p events calls = Wrote tells terms p events calls

-- behind the answer that made the latest event, or the closing of a client's link, nothing was called but writes, and
-- the closing of the host's link
abbrev pub JustCame : List Call → Type 0
JustCame [] = ⊥
JustCame (Write side bytes answer ∷ calls) = JustCame calls
JustCame (Close Host ∷ calls) = JustCame calls
JustCame (Close Client ∷ calls) = Unit {0}
JustCame (call ∷ calls) = IsSomeAnd (event_in call) (λ e. Unit {0})

-- a round is over that brought nothing, all is written to the links, and the lines that wait are due on the tape
pub record IsAtRest (terms : Terms) (p : Prescribed) (calls : List Call) : Type 0 where
  pub written : IsWritten terms p (events_of calls) calls
  pub goes_on : GoesOn terms p calls
  pub begins : BeginsRound terms p calls
  pub quiet : 0 < quiet_rounds (asks_of calls)
  pub is_taped : terms.taped ≡ true

-- Why it ended. No link is up any more, and this is the first refusal; so many rounds in a row have brought nothing, no
-- more and no fewer, in each of which both sides were asked; as much has come as may; or the last call failed, which
-- was of this side. A sink or a tape fails, and memory runs out, behind the event that something is written for, or
-- that is taken; a tape fails too where lines are due behind a quiet round, and memory runs out before all, too.
abbrev pub HasEnded : ServeEnd → Terms → Prescribed → List Call → Type 0
HasEnded (end.Ended refused) terms p calls = (is_over terms p (events_of calls) ≡ true) × (refused ≡ first_of (p.refusals (events_of calls)))
HasEnded end.Idle terms p calls = GoesOn terms p calls × (quiet_rounds (asks_of calls) ≡ terms.idle) × BeginsRound terms p calls
HasEnded end.Spent terms p calls = (is_over terms p (events_of calls) ≡ false) × (terms.budget ≤ taken (asks_of calls))
HasEnded (end.LinkFault side) terms p calls = last_fault calls ≡ Some side
HasEnded end.WriteFault terms p calls = JustCame calls ⊎ IsAtRest terms p calls
HasEnded end.Memory terms p [] = Unit {0}
HasEnded end.Memory terms p calls = JustCame calls

-- the calls that were made, one after the other, what they wrote and what the sink was told, and why it ended
pub record Logged {D : Type 0} (e : ServeEnd) (gives : D → Call → D → Type 0) (runs_out : List PastLinkEvent → PastLinkEvent → List ℕ → List ℕ → Type 0) (tells : List ℕ → Type 0) (terms : Terms) (p : Prescribed) (old new : D) : Type 0 where
  pub calls : List Call
  pub called : Called gives calls old new
  pub settled : Settled terms p calls
  pub written : HasWritten e runs_out tells terms p (events_of calls) calls
  pub ended : HasEnded e terms p calls
