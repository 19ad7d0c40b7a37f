-- What is known of the doors, and what they tell.
use Rattle.std.specs.Prelude.{◌≡◌, ◌⊎◌, ◌≤◌, ◌+◌, ℕ, ◌||◌, not, Bool, true, false, if◌then◌else◌, List, [], ◌∷◌, ◌++◌, Option, Some, IfSome}
use Rattle.usb_base.specs.Number.{capped}
use Rattle.usb_base.specs.declared.side.Side.{Side}
use Rattle.usb_base.specs.declared.side.Side.TheVariants.{Client, Host}
use Rattle.usb_base.specs.Lists.{is_empty}
use Rattle.gate_outside.specs.declared.turn.Turn.{Turn}
use Rattle.gate_outside.specs.Faults.{Rose}
use Rattle.gate_outside.specs.Link.{Link, Door}
use Rattle.session_tape.specs.Tapes.{Counts, OneFault}
use Rattle.bridge_run.specs.declared.course.serve_end.ServeEnd.{ServeEnd}
use Rattle.bridge_run.specs.declared.course.serve_end.ServeEnd.TheVariants.{Ended, LinkFault, WriteFault, Idle}
use Rattle.bridge_run.specs.events.Events.{PastLinkEvent}
use Rattle.bridge_run.specs.written.Recorded.{event_line}
use Rattle.bridge_run.specs.course.Course.{Course}

pub record Outside : Type 0 where
  pub client : Link
  pub host : Link
  pub door : Door

abbrev pub outside : (Side → Link) → Door → Outside
outside links door = record { client = links Client; host = links Host; door = door }

-- the bytes of the sink, which takes the lines of refusals, as serving began and now, and those of the tape, each where
-- they are told; and the lines that wait to be written to the tape
pub record Written : Type 0 where
  pub begun : Option (List ℕ)
  pub told : Option (List ℕ)
  pub tape : Option (List ℕ)
  pub waiting : List ℕ

abbrev pub gathering : Option (List ℕ) → Option (List ℕ) → Option (List ℕ) → List ℕ → Written
gathering begun told tape waiting = record { begun = begun; told = told; tape = tape; waiting = waiting }

-- none wait
abbrev pub written : Option (List ℕ) → Option (List ℕ) → Option (List ℕ) → Written
written begun told tape = gathering begun told tape []

-- ---- causes, by the counts of faults

-- those of the sink and of the tape
pub record Faults : Type 0 where
  pub sink : ℕ
  pub tape : Counts

abbrev pub faults : ℕ → Counts → Faults
faults sink tape = record { sink = sink; tape = tape }

-- one of them has one fault more, and the other stands
abbrev pub OneRose : Faults → Faults → Type 0
OneRose old new = (Rose old.sink new.sink × (new.tape ≡ old.tape)) ⊎ ((new.sink ≡ old.sink) × OneFault old.tape new.tape)

-- those of both sides, of the sink and of the tape stand
pub record NoFault (old new : Outside) (sink_old sink_new : Faults) : Type 0 where
  pub client : new.client.faults ≡ old.client.faults
  pub host : new.host.faults ≡ old.host.faults
  pub sink : sink_new ≡ sink_old

pub record ClientFault (old new : Outside) (sink_old sink_new : Faults) : Type 0 where
  pub client : Rose old.client.faults new.client.faults
  pub host : new.host.faults ≡ old.host.faults
  pub sink : sink_new ≡ sink_old

pub record HostFault (old new : Outside) (sink_old sink_new : Faults) : Type 0 where
  pub client : new.client.faults ≡ old.client.faults
  pub host : Rose old.host.faults new.host.faults
  pub sink : sink_new ≡ sink_old

pub record SinkFault (old new : Outside) (sink_old sink_new : Faults) : Type 0 where
  pub client : new.client.faults ≡ old.client.faults
  pub host : new.host.faults ≡ old.host.faults
  pub sink : OneRose sink_old sink_new

-- each end has its cause: a fault comes with one more in its count, and no other count rises
abbrev pub HasCause : ServeEnd → Outside → Outside → Faults → Faults → Type 0
HasCause (LinkFault Client) old new sink_old sink_new = ClientFault old new sink_old sink_new
HasCause (LinkFault Host) old new sink_old sink_new = HostFault old new sink_old sink_new
HasCause WriteFault old new sink_old sink_new = SinkFault old new sink_old sink_new
HasCause e old new sink_old sink_new = NoFault old new sink_old sink_new

-- ---- causes, by links and idle answers

-- a count rose by so much at least, or has come to its greatest number
abbrev pub RoseBy : ℕ → ℕ → ℕ → Type 0
RoseBy n old new = capped (old + n) ≤ new

-- no link is up
pub record IsDown (w : Outside) : Type 0 where
  pub client : w.client.up ≡ false
  pub host : w.host.up ≡ false

-- `Idle` comes once each side that is asked in every round was idle in so many
abbrev pub HasReason : ServeEnd → ℕ → Outside → Outside → Type 0
HasReason (Ended refused) idle old new = IsDown new
HasReason Idle idle old new = RoseBy idle old.client.idle new.client.idle × (new.host.up ≡ true → RoseBy idle old.host.idle new.host.idle)
HasReason e idle old new = Unit {0}

-- ---- what is told

-- a link tells that it is up or not, the turns still to come, and what was written
pub record Shows (link : Link) (up : Bool) (turns : List Turn) (written : List ℕ) : Type 0 where
  pub up-is : link.up ≡ up
  pub turns-is : link.turns ≡ Some turns
  pub written-is : link.written ≡ Some written

-- a sink that told its bytes as serving began tells these now; of one that told none, nothing is known
abbrev pub IsTold : Written → List ℕ → Type 0
IsTold out bytes = IfSome out.begun (λ first. out.told ≡ Some bytes)

-- a tape that tells its bytes has those of the course, and its lines wait
abbrev pub IsTaped : Written → Course → Type 0
IsTaped out c = IfSome out.tape (λ held. (held ≡ c.recorded) × (out.waiting ≡ c.waiting))

-- the doors tell that this is their course, and so do the sink and the tape, each where it tells its bytes
pub record Tells (w : Outside) (out : Written) (c : Course) : Type 0 where
  pub client : Shows w.client c.client_up c.client c.to_client
  pub host : Shows w.host c.host_up c.host c.to_host
  pub clients : w.door.to_come ≡ Some c.clients
  pub told : IsTold out c.told
  pub tape : IsTaped out c

-- at least the first bytes are written, and at most the last
pub record IsBetween (least : List ℕ) (known : Option (List ℕ)) (most : List ℕ) : Type 0 where
  pub more : List ℕ
  pub lost : List ℕ
  pub known-is : known ≡ Some (least ++ more)
  pub most-is : most ≡ least ++ more ++ lost

-- it is as before a call or as behind it
abbrev pub IsOneOf : {X : Type 0} → X → Option X → X → Type 0
IsOneOf before known behind = (known ≡ Some before) ⊎ (known ≡ Some behind)

-- of what a call records a front is there, and nothing that it writes
pub record IsRecordedInPart (w : Outside) (before behind : Course) (held : List ℕ) : Type 0 where
  pub more : List ℕ
  pub lost : List ℕ
  pub held-is : held ≡ before.recorded ++ more
  pub all-is : behind.recorded ≡ before.recorded ++ more ++ lost
  pub to_client : w.client.written ≡ Some before.to_client
  pub to_host : w.host.written ≡ Some before.to_host

-- Memory may have run out in the event that the call takes, by when it had sent some bytes, so many to each side. The
-- lines that waited are there, and that of the event, without those of its refusals. Of what it had sent a front is
-- written to each side whose link is up.
pub record IsRecordedUntold (ran_out : List PastLinkEvent → PastLinkEvent → List ℕ → List ℕ → Type 0) (w : Outside) (before behind : Course) (held : List ℕ) : Type 0 where
  pub event : PastLinkEvent
  pub takes : behind.events ≡ event ∷ before.events
  pub sent_client : List ℕ
  pub sent_host : List ℕ
  pub stopped : ran_out before.events event sent_client sent_host
  pub some : (not (is_empty sent_client) || not (is_empty sent_host)) ≡ true
  pub held-is : held ≡ before.recorded ++ (before.waiting ++ event_line event)
  pub lost : List ℕ
  pub all-is : behind.recorded ≡ held ++ lost
  pub to_client : IsBetween before.to_client w.client.written (if before.client_up then before.to_client ++ sent_client else before.to_client)
  pub to_host : IsBetween before.to_host w.host.written (if before.host_up then before.to_host ++ sent_host else before.to_host)

-- what a tape has of a call that was cut: all its lines, or fewer, and then none of its refusals is told
abbrev pub HasLines : (List PastLinkEvent → PastLinkEvent → List ℕ → List ℕ → Type 0) → Outside → Written → Course → Course → List ℕ → Type 0
HasLines ran_out w out before behind held = (held ≡ behind.recorded) ⊎ (IsTold out before.told × (IsRecordedInPart w before behind held ⊎ IsRecordedUntold ran_out w before behind held))

-- a call that the first course makes and that leads to the second was cut: what it writes is written in part, and not
-- before the line of its event is recorded; by where memory may run out within an event
pub record Cut (ran_out : List PastLinkEvent → PastLinkEvent → List ℕ → List ℕ → Type 0) (w : Outside) (out : Written) (before behind : Course) : Type 0 where
  pub client : IsOneOf before.client w.client.turns behind.client
  pub host : IsOneOf before.host w.host.turns behind.host
  pub clients : IsOneOf before.clients w.door.to_come behind.clients
  pub to_client : IsBetween before.to_client w.client.written behind.to_client
  pub to_host : IsBetween before.to_host w.host.written behind.to_host
  pub told : IfSome out.begun (λ first. IsBetween before.told out.told behind.told)
  pub tape : IfSome out.tape (λ held. HasLines ran_out w out before behind held)
