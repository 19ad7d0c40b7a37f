-- What a run has asked of its doors that memory, or a file, ended before.
use Rattle.std.proofs.Common.{ℕ, inr, List, [], Option, Result, refl}
use Rattle.usb_base.specs.declared.side.Side.{Side}
use Rattle.gate_outside.specs.declared.fault.Failed.{Failed}
use Rattle.gate_outside.specs.Calls.{Call}
use Rattle.gate_outside.specs.Link.{Link, Door}
use Rattle.bridge_run.specs.declared.course.serve_end.ServeEnd.TheVariants as end
use Rattle.bridge_run.specs.events.Events.{PastLinkEvent}
use Rattle.bridge_serve.specs.served.Gate.{gate_sends}
use Rattle.bridge_serve.specs.served.GateStops.{gate_runs_out}
use Rattle.bridge_run.specs.log.Log.{Terms, Told}
use Rattle.bridge_run.specs.course.Outside.{outside}
use Rattle.bridge_run.specs.events.Prescribed.{Prescribed}
use Rattle.tape_run.specs.declared.status.Status.TheVariants.{OutOfMemory}
use Rattle.usbgate_commands.specs.words.Lending.{AskedLent}
use Rattle.usbgate_commands.specs.links.Logs.{HasLog, terms_of, terms_lent, RunServes, RunLends}
use Rattle.usbgate_commands.specs.links.Serves.{Known, known_untaped, device_sends, device_runs_out}
use Rattle.usbgate_commands.specs.words.Serving.{ServeSettings}
use Rattle.usbgate_commands.proofs.lemmas.links.Served.{unserved, unlent}

-- nothing was told
pub untold : {K : Type 0} → (gives : K → List ℕ → Result ℕ Failed → K → Type 0) (now : K) → Told gives now now []
untold gives now = record { moves = []; called = refl; all = refl }

-- nothing was asked
pub unlogged : {D K : Type 0} → (gives : D → Call → D → Type 0) (runs_out : List PastLinkEvent → PastLinkEvent → List ℕ → List ℕ → Type 0) (writes : K → List ℕ → Result ℕ Failed → K → Type 0) (terms : Terms) (p : Prescribed) (now : D) (out : K) → HasLog gives runs_out (Told writes out out) terms p OutOfMemory now now
unlogged gives runs_out writes terms p now out = record {
  end = end.Memory;
  status-is = refl;
  log = record { calls = []; called = refl; settled = tt; written = (refl, untold writes out); ended = tt };
}

-- ---- a run that memory ended before

pub run-unserved : {D K : Type 0} → (gives : D → Call → D → Type 0) (writes : K → List ℕ → Result ℕ Failed → K → Type 0) (asked : ServeSettings) (now : D) (out : K) (known : Known) → RunServes gives (Told writes out out) OutOfMemory asked now now known known
run-unserved gives writes asked now out known = record {
  by_log = inr (unlogged gives (gate_runs_out asked.first_id) writes (terms_of asked) (gate_sends asked.after_loss asked.first_id) now out);
  where_told = unserved asked.recording asked known;
}

pub run-unlent : {D K : Type 0} → (gives : D → Call → D → Type 0) (link : D → Side → Link) (door : D → Door) (writes : K → List ℕ → Result ℕ Failed → K → Type 0) (faults : K → ℕ) (contents : K → Option (List ℕ)) (asked : AskedLent) (now : D) (out : K) →
    RunLends gives (Told writes out out) OutOfMemory asked now now (known_untaped link door faults contents out now out) (known_untaped link door faults contents out now out)
run-unlent gives link door writes faults contents asked now out = record {
  by_log = unlogged gives (device_runs_out asked.device) writes (terms_lent asked) (device_sends asked.device) now out;
  where_told = unlent asked (outside (link now) (door now)) (faults out) (contents out);
}
