-- What serving leaves, by how it ended, over doors that tell, and a sink and a tape that may. What is served says where
-- memory may run out within an event.
use Rattle.std.specs.Prelude.{◌≡◌, ℕ, false, List, []}
use Rattle.bridge_run.specs.declared.course.serve_end.ServeEnd.{ServeEnd}
use Rattle.bridge_run.specs.declared.course.serve_end.ServeEnd.TheVariants.{LinkFault, WriteFault, Memory}
use Rattle.bridge_run.specs.events.Events.{PastLinkEvent}
use Rattle.bridge_run.specs.events.Prescribed.{Prescribed}
use Rattle.bridge_run.specs.events.RanOut.{RanOutWithin, Never}
use Rattle.bridge_run.specs.course.Course.{Setting, Course, Next}
use Rattle.bridge_run.specs.course.Calls.{Outcome, Goes, Stops, call, calls, course_of}
use Rattle.bridge_run.specs.course.Outside.{Outside, Written, Tells, Cut}

-- so many calls lead from an outcome to another
pub record Reaches (s : Setting) (from to : Outcome) : Type 0 where
  pub count : ℕ
  pub is : calls s count from ≡ to

-- the calls come to this end, and have read and written what the doors tell
pub record EndsSo (s : Setting) (from : Outcome) (e : ServeEnd) (w : Outside) (out : Written) : Type 0 where
  pub course : Course
  pub reaches : Reaches s from (Stops e course)
  pub tells : Tells w out course

-- memory may have run out within the event where a link failed, too, as what was sent by then was written, but not
-- where the sink or the tape failed
abbrev pub MayRunOut : ServeEnd → (List PastLinkEvent → PastLinkEvent → List ℕ → List ℕ → Type 0) → Prescribed → List PastLinkEvent → PastLinkEvent → List ℕ → List ℕ → Type 0
MayRunOut WriteFault runs_out p = Never
MayRunOut e runs_out p = RanOutWithin runs_out p

-- they have come to a call that was cut
pub record CutShort (e : ServeEnd) (runs_out : List PastLinkEvent → PastLinkEvent → List ℕ → List ℕ → Type 0) (s : Setting) (from : Outcome) (w : Outside) (out : Written) : Type 0 where
  pub next : Next
  pub course : Course
  pub reaches : Reaches s from (Goes next course)
  pub cut : Cut (MayRunOut e runs_out s.served) w out course (course_of (call s next course))

abbrev pub Leaves : ServeEnd → (List PastLinkEvent → PastLinkEvent → List ℕ → List ℕ → Type 0) → Setting → Outcome → Outside → Written → Type 0
Leaves (LinkFault side) runs_out s from w out = CutShort (LinkFault side) runs_out s from w out
Leaves WriteFault runs_out s from w out = CutShort WriteFault runs_out s from w out
Leaves Memory runs_out s from w out = CutShort Memory runs_out s from w out
Leaves e runs_out s from w out = EndsSo s from e w out

-- at an end that is no fault no line waits to be written to the tape
abbrev pub NoneWaits : ServeEnd → Course → Type 0
NoneWaits (LinkFault side) c = Unit {0}
NoneWaits WriteFault c = Unit {0}
NoneWaits Memory c = Unit {0}
NoneWaits e c = c.waiting ≡ []

-- nothing has happened yet
pub record NothingYet (idle budget : ℕ) (c : Course) : Type 0 where
  pub events : c.events ≡ []
  pub client_down : c.client_up ≡ false
  pub host_down : c.host_up ≡ false
  pub busy : c.busy ≡ false
  pub none_waits : c.waiting ≡ []
  pub waits : c.waits ≡ idle
  pub left : c.left ≡ budget

-- what is served was just made: it stands for no event, and refuses nobody
pub record IsJustMade (stands : List PastLinkEvent → Type 0) (p : Prescribed) : Type 0 where
  pub stands_for : stands []
  pub refuses_none : p.refusals [] ≡ []
