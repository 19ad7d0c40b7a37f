-- What a run of `serve` or `host` has asked of its doors, written to them and told its sink, by the log of their calls;
-- and what follows of these, by their counts, and where they tell their bytes.
use Rattle.std.specs.Prelude.{◌≡◌, ◌⊎◌, ℕ, true, false, List, [], Some, None, is_some}
use Rattle.gate_outside.specs.Calls.{Call}
use Rattle.bridge_run.specs.declared.course.serve_end.ServeEnd.{ServeEnd}
use Rattle.bridge_run.specs.course.Course.{AtDoor}
use Rattle.bridge_run.specs.events.Events.{PastLinkEvent}
use Rattle.bridge_serve.specs.served.Gate.{gate_sends}
use Rattle.bridge_serve.specs.served.GateStops.{gate_runs_out}
use Rattle.bridge_run.specs.log.Log.{Terms, Logged}
use Rattle.bridge_run.specs.events.Prescribed.{Prescribed}
use Rattle.tape_run.specs.declared.status.Status.{Status}
use Rattle.usbgate_commands.specs.declared.links.serve.TheConstants.{BUDGET}
use Rattle.usbgate_commands.specs.words.Lending.{AskedLent}
use Rattle.usbgate_commands.specs.links.Serves.{Known, device_sends, device_runs_out, ended_as, setting_lent, EndsOf, Serves}
use Rattle.usbgate_commands.specs.words.Serving.{ServeSettings}

pub record HasLog {D : Type 0} (gives : D → Call → D → Type 0) (runs_out : List PastLinkEvent → PastLinkEvent → List ℕ → List ℕ → Type 0) (tells : List ℕ → Type 0) (terms : Terms) (p : Prescribed) (status : Status) (old new : D) : Type 0 where
  pub end : ServeEnd
  pub status-is : status ≡ ended_as end
  pub log : Logged end gives runs_out tells terms p old new

abbrev pub terms_of : ServeSettings → Terms
terms_of asked = record { host = Some asked.host; door = asked.listen; taped = is_some asked.recording; idle = asked.idle; budget = BUDGET }

abbrev pub terms_lent : AskedLent → Terms
terms_lent asked = record { host = None; door = asked.listen; taped = false; idle = asked.idle; budget = BUDGET }

-- a file to record in was asked for, and wasn't begun: nothing was asked of the doors, and nothing was told
pub record IsUnasked {D : Type 0} (tells : List ℕ → Type 0) (asked : ServeSettings) (old new : D) : Type 0 where
  pub recording : is_some asked.recording ≡ true
  pub doors : new ≡ old
  pub told : tells []

-- What a run of `serve` leaves: by the log of the doors' calls, over any doors and any sink; and by their counts of
-- faults and of idle answers and those of the recording, and where all of these tell their bytes.
pub record RunServes {D : Type 0} (gives : D → Call → D → Type 0) (tells : List ℕ → Type 0) (status : Status) (asked : ServeSettings) (old new : D) (before after : Known) : Type 0 where
  pub by_log : IsUnasked tells asked old new ⊎ HasLog gives (gate_runs_out asked.first_id) tells (terms_of asked) (gate_sends asked.after_loss asked.first_id) status old new
  pub where_told : Serves asked.recording asked status before after

-- the same of a run of `host`, which has no recording, and asks for the guest first
pub record RunLends {D : Type 0} (gives : D → Call → D → Type 0) (tells : List ℕ → Type 0) (status : Status) (asked : AskedLent) (old new : D) (before after : Known) : Type 0 where
  pub by_log : HasLog gives (device_runs_out asked.device) tells (terms_lent asked) (device_sends asked.device) status old new
  pub where_told : EndsOf (device_runs_out asked.device) (setting_lent asked) AtDoor status before after
