-- What a run of `serve` or `host` leaves, and how it ends.
use Rattle.std.specs.Prelude.{◌≡◌, ◌⊎◌, ℕ, List, Option, Some, None, IfSome}
use Rattle.bridge_run.specs.declared.course.serve_end.ServeEnd.{ServeEnd}
use Rattle.bridge_run.specs.declared.course.serve_end.ServeEnd.TheVariants as end
use Rattle.bridge_run.specs.course.Course.{Setting, Course, Next, Making}
use Rattle.bridge_run.specs.course.Calls.{Goes}
use Rattle.bridge_serve.specs.served.Gate.{gate_sends}
use Rattle.bridge_serve.specs.served.GateStops.{gate_runs_out}
use Rattle.bridge_run.specs.events.Events.{PastLinkEvent}
use Rattle.bridge_serve.specs.served.Lent.{lent_sends}
use Rattle.bridge_serve.specs.served.LentStops.{LentStops}
use Rattle.usb_base.specs.declared.side.Side.{Side}
use Rattle.gate_outside.specs.Link.{Link, Door}
use Rattle.session_tape.specs.Tapes.{Counts, counts}
use Rattle.session_tape.specs.Lines.{first_comment}
use Rattle.bridge_run.specs.course.Outside.{Outside, Written, Faults, outside, written, faults, Tells, HasCause, HasReason}
use Rattle.bridge_run.specs.events.Prescribed.{Prescribed}
use Rattle.bridge_run.specs.course.Serves.{NothingYet, Leaves}
use Rattle.tape_run.specs.declared.model.device.Device.{Device}
use Rattle.tape_run.specs.model.Device.{as_plugged}
use Rattle.tape_run.specs.declared.status.Status.{Status}
use Rattle.tape_run.specs.declared.status.Status.TheVariants.{Done, Refused, WriteFault, LinkFault, OutOfMemory, Idle, Spent}
use Rattle.usbgate_commands.specs.declared.links.serve.TheConstants.{BUDGET}
use Rattle.usbgate_commands.specs.words.Serving.{ServeSettings}
use Rattle.usbgate_commands.specs.words.Lending.{AskedLent}
use Rattle.usbgate_commands.specs.links.Recording.{IsUnmade, IsUnbegun}

-- the gateway between sockets
abbrev pub setting_of : ServeSettings → Setting
setting_of asked = record { served = gate_sends asked.after_loss asked.first_id; idle = asked.idle }

-- a modelled device, which begins as it was plugged in
abbrev pub device_sends : Device → Prescribed
device_sends device = as_plugged (λ S m s. lent_sends m s) device

-- where memory runs out in it
abbrev pub device_runs_out : Device → List PastLinkEvent → PastLinkEvent → List ℕ → List ℕ → Type 0
device_runs_out device = as_plugged (λ S m s. LentStops m s) device

abbrev pub setting_lent : AskedLent → Setting
setting_lent asked = record { served = device_sends asked.device; idle = asked.idle }

abbrev pub ended_as : ServeEnd → Status
ended_as (end.Ended None) = Done
ended_as (end.Ended (Some refusal)) = Refused
ended_as (end.LinkFault side) = LinkFault side
ended_as end.WriteFault = WriteFault
ended_as end.Idle = Idle
ended_as end.Spent = Spent
ended_as end.Memory = OutOfMemory

-- ---- what is known before a run and behind it

-- of both links and the door; of the faults of the sink and of the recording; and of the bytes that these have, each
-- where it tells them
pub record Known : Type 0 where
  pub outside : Outside
  pub faults : Faults
  pub written : Written

-- by what doors, sinks and recordings tell; the sink as the run began with it is given before the doors
abbrev pub known_of : {D K T : Type 0} → (D → Side → Link) → (D → Door) → (K → ℕ) → (K → Option (List ℕ)) → (T → Counts) → (T → Option (List ℕ)) → K → D → K → T → Known
known_of link door sink_faults sink_bytes tape_counts tape_bytes begun doors sink tape = record {
  outside = outside (link doors) (door doors);
  faults = faults (sink_faults sink) (tape_counts tape);
  written = written (sink_bytes begun) (sink_bytes sink) (tape_bytes tape);
}

-- of a run that has no recording
abbrev pub known_untaped : {D K : Type 0} → (D → Side → Link) → (D → Door) → (K → ℕ) → (K → Option (List ℕ)) → K → D → K → Known
known_untaped link door sink_faults sink_bytes begun doors sink = known_of link door sink_faults sink_bytes (λ (none : Unit {0}). counts 0 0) (λ none. None) begun doors sink tt

-- where nothing is recorded
abbrev pub untaped : Known → Known
untaped known = record { outside = known.outside; faults = faults known.faults.sink (counts 0 0); written = written known.written.begun known.written.told None }

-- the tape has these bytes, as far as it tells them
abbrev pub with_tape : Option (List ℕ) → Known → Known
with_tape held known = record known { written = written known.written.begun known.written.told held }

-- ---- an end

-- it ends with the status of its end, which has its cause and its reason; and over doors that tell, and a sink and a
-- tape that may, these are left as that end leaves them, by where memory may run out within an event
pub record EndsOf (runs_out : List PastLinkEvent → PastLinkEvent → List ℕ → List ℕ → Type 0) (setting : Setting) (first : Next) (status : Status) (old new : Known) : Type 0 where
  pub end : ServeEnd
  pub status-is : status ≡ ended_as end
  pub cause : HasCause end old.outside new.outside old.faults new.faults
  pub reason : HasReason end setting.idle old.outside new.outside
  pub leaves : (c : Course) → NothingYet setting.idle BUDGET c → Tells old.outside old.written c → Leaves end runs_out setting (Goes first c) new.outside new.written

-- ---- serving, where the host is dialled first

-- nothing was done, since no file was made, or its first line wasn't written
pub record IsUnrecorded (asked : ServeSettings) (status : Status) (old new : Known) : Type 0 where
  pub outside-is : new.outside ≡ old.outside
  pub sink : new.faults.sink ≡ old.faults.sink
  pub told : new.written.told ≡ old.written.told
  pub cause : IsUnmade status old.faults.tape new.faults.tape
  pub tape : IsUnbegun asked.first_id status old.written.tape new.written.tape

-- behind the first line, where the tape tells its bytes
pub record IsRecorded (asked : ServeSettings) (status : Status) (old new : Known) : Type 0 where
  pub tape : Option (List ℕ)
  pub first_line : IfSome tape (λ held. held ≡ first_comment asked.first_id)
  pub ends : EndsOf (gate_runs_out asked.first_id) (setting_of asked) Making status (with_tape tape old) new

-- with no tape the outside's one is as it was
pub record HasNoTape (asked : ServeSettings) (status : Status) (old new : Known) : Type 0 where
  pub tape-is : new.written.tape ≡ old.written.tape
  pub counts-are : new.faults.tape ≡ old.faults.tape
  pub ends : EndsOf (gate_runs_out asked.first_id) (setting_of asked) Making status (untaped old) (untaped new)

-- by the recording that is asked for, if there is one
abbrev pub Serves : Option (List ℕ) → ServeSettings → Status → (old new : Known) → Type 0
Serves None asked status old new = HasNoTape asked status old new
Serves (Some name) asked status old new = IsUnrecorded asked status old new ⊎ IsRecorded asked status old new
