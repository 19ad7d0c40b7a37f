-- What is left where a device has been lent, whichever it is.
use Rattle.std.specs.Prelude.{ℕ, false, List, None}
use Rattle.gate_outside.specs.Calls.{Call}
use Rattle.model_device.specs.Meaning.{Meaning}
use Rattle.bridge_run.specs.course.Course.{AtDoor}
use Rattle.bridge_serve.specs.served.Lent.{lent_sends}
use Rattle.bridge_serve.specs.served.LentStops.{LentStops}
use Rattle.tape_run.specs.declared.status.Status.{Status}
use Rattle.usbgate_commands.specs.declared.links.serve.TheConstants.{BUDGET}
use Rattle.usbgate_commands.specs.links.Logs.{HasLog}
use Rattle.usbgate_commands.specs.links.Serves.{Known, EndsOf}

pub record IsLent {S D : Type 0} (gives : D → Call → D → Type 0) (tells : List ℕ → Type 0) (status : Status) (m : Meaning S) (s : S) (listen : List ℕ) (idle : ℕ) (old new : D) (before after : Known) : Type 0 where
  pub log : HasLog gives (LentStops m s) tells (record { host = None; door = listen; taped = false; idle = idle; budget = BUDGET }) (lent_sends m s) status old new
  pub ends : EndsOf (LentStops m s) (record { served = lent_sends m s; idle = idle }) AtDoor status before after
