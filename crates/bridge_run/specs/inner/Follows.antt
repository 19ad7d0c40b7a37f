-- When a session has come as far as a course, and what it makes of one event.
use Rattle.std.specs.Prelude.{◌≡◌, ◌++◌, ◌∷◌, ℕ, Bool, true, false, List, Result, Ok, Err}
use Rattle.std.specs.List.{flat_map}
use Rattle.usb_base.specs.Refusal.{refusal_line}
use Rattle.bridge_run.specs.events.Events.{PastLinkEvent}
use Rattle.usb_base.specs.declared.side.Side.{Side}
use Rattle.usb_base.specs.declared.side.Side.TheVariants.{Client, Host}
use Rattle.bridge_run.specs.declared.course.serve_end.ServeEnd.{ServeEnd}
use Rattle.bridge_run.specs.declared.course.serve_end.ServeEnd.TheVariants.{LinkFault, WriteFault, Memory}
use Rattle.bridge_run.specs.declared.course.rounds.Rounds.{Rounds}
use Rattle.bridge_run.specs.declared.events.sent.Sent.{Sent}
use Rattle.bridge_run.specs.events.Prescribed.{Prescribed, gained, drops, first_of}
use Rattle.bridge_run.specs.course.Course.{Setting, Course, Next, AtClient, AtHost, AtEnd}
use Rattle.bridge_run.specs.course.Calls.{Outcome, Goes, put, make}
use Rattle.bridge_run.specs.course.Outside.{Outside, Written, Faults, NoFault, HasCause, Tells, Cut}
use Rattle.bridge_run.specs.events.RanOut.{Never}
use Rattle.bridge_run.specs.course.Serves.{Reaches, MayRunOut, Leaves}

-- what an event sends, and the lines that tell its refusals
pub record Prepared (p : Prescribed) (events : List PastLinkEvent) (e : PastLinkEvent) (sent : Sent) (lines : List ℕ) : Type 0 where
  pub client : sent.to_client ≡ gained p.to_client events e
  pub host : sent.to_host ≡ gained p.to_host events e
  pub refusals : sent.refusals ≡ gained p.refusals events e
  pub grows : p.refusals (e ∷ events) ≡ p.refusals events ++ gained p.refusals events e
  pub lets_go : sent.lets_go ≡ p.lets_go (e ∷ events)
  pub lines-is : lines ≡ flat_map refusal_line sent.refusals

-- what is served stands for the course's events, the rest is kept, and the outside tells it
pub record IsServing (stands : List PastLinkEvent → Type 0) (p : Prescribed) (k : Rounds) (w : Outside) (out : Written) (c : Course) : Type 0 where
  pub stands_for : stands c.events
  pub tells : Tells w out c
  pub client_up : k.client_up ≡ c.client_up
  pub host_up : k.host_up ≡ c.host_up
  pub busy : k.busy ≡ c.busy
  pub waits : k.waits ≡ c.waits
  pub left : k.left ≡ c.left
  pub refused : k.refused ≡ first_of (p.refusals c.events)

-- ---- causes

abbrev pub HasFaults : {T : Type 0} → Result T ServeEnd → Outside → Outside → Faults → Faults → Type 0
HasFaults (Ok _) old new sink_old sink_new = NoFault old new sink_old sink_new
HasFaults (Err e) old new sink_old sink_new = HasCause e old new sink_old sink_new

-- it isn't the course that has come to its end
abbrev pub IsCutEnd : ServeEnd → Type 0
IsCutEnd (LinkFault side) = Unit {0}
IsCutEnd WriteFault = Unit {0}
IsCutEnd Memory = Unit {0}
IsCutEnd _ = ⊥

-- ---- one event

abbrev pub Puts : Result Bool ServeEnd → (List PastLinkEvent → Type 0) → (List PastLinkEvent → PastLinkEvent → List ℕ → List ℕ → Type 0) → Prescribed → PastLinkEvent → Rounds → Outside → Written → Course → Type 0
Puts (Ok dropped) stands runs_out p e k w out c = IsServing stands p k w out (put p e c) × (dropped ≡ drops p c.events e)
Puts (Err end) stands runs_out p e k w out c = Cut (MayRunOut end runs_out p) w out c (put p e c)

-- ---- some calls

abbrev pub setting : Prescribed → Rounds → Setting
setting p k = record { served = p; idle = k.idle }

pub record Comes (stands : List PastLinkEvent → Type 0) (s : Setting) (k : Rounds) (w : Outside) (out : Written) (from : Outcome) (next : Next) : Type 0 where
  pub course : Course
  pub reaches : Reaches s from (Goes next course)
  pub follows : IsServing stands s.served k w out course

abbrev pub RunsOn : {T : Type 0} → Result T ServeEnd → (List PastLinkEvent → Type 0) → (List PastLinkEvent → PastLinkEvent → List ℕ → List ℕ → Type 0) → Setting → Rounds → Outside → Written → Outcome → Next → Type 0
RunsOn (Ok _) stands runs_out s k w out from next = Comes stands s k w out from next
RunsOn (Err e) stands runs_out s k w out from next = Leaves e runs_out s from w out

-- where a side is polled, and what comes behind that
abbrev pub polls : Side → Next
polls Client = AtClient
polls Host = AtHost

abbrev pub behind : Side → Next
behind Client = AtHost
behind Host = AtEnd

-- ---- the opening

pub record IsOpen (w : Outside) : Type 0 where
  pub client : w.client.up ≡ false
  pub host : w.host.up ≡ true
  pub door : w.door.made ≡ true

-- no event is taken yet
abbrev pub Opens : {T : Type 0} → Result T ServeEnd → Prescribed → Outside → Written → Course → Type 0
Opens (Ok _) p w out c = Tells w out (make p c)
Opens (Err e) p w out c = Cut Never w out c (make p c)
