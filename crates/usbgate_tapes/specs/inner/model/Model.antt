-- What a modelled run keeps of the steps that it has done.
use Rattle.std.specs.Prelude.{◌≡◌, ℕ, List, Option, Some, None, Result}
use Rattle.gate_outside.specs.declared.fault.Failed.{Failed}
use Rattle.gate_history.specs.step.History.{history}
use Rattle.model_device.specs.Meaning.{Meaning}
use Rattle.direct_run.specs.declared.told.Told.{Told}
use Rattle.direct_system.specs.Kept.{SystemKept}
use Rattle.direct_system.specs.Stands.{SystemStands, TakesStep}
use Rattle.direct_run.specs.Steps.{PastStep}
use Rattle.direct_run.specs.World.{first_id, course}
use Rattle.usbgate_tapes.specs.declared.model.ModelRun.{ModelRun}
use Rattle.tape_run.specs.declared.status.Status.{Status}
use Rattle.tape_run.specs.Logs.{RunLeaves}
use Rattle.tape_run.specs.Printout.{tape_printout}
use Rattle.tape_run.specs.Replay.{has_refusal}
use Rattle.tape_run.specs.model.Model.{model}
use Rattle.usbgate_tapes.specs.model.Simulated.{AreSimulated}

-- it is the modelled run of a device that began in state s, with which these steps were done
pub record HasDone {S : Type 0} (m : Meaning S) (s : S) (r : ModelRun S) (steps : List PastStep) : Type 0 where
  pub system : SystemStands m s r.system steps
  pub refused : r.refused ≡ has_refusal (history first_id (course m s steps).events)

-- a line's step is done, if it says one
abbrev pub TakesSaid : {S : Type 0} → Meaning S → S → SystemKept S → List PastStep → Option PastStep → Option Told → Type 0
TakesSaid m s new steps None None = SystemStands m s new steps
TakesSaid m s new steps None (Some told) = ⊥
TakesSaid m s new steps (Some x) None = ⊥
TakesSaid m s new steps (Some x) (Some told) = TakesStep m s new steps x told

-- what is left where the steps of a tape were done with a device, whichever it is
pub record IsModelled {S T K : Type 0} (read_gives : T → List ℕ → Result ℕ Failed → T → Type 0) (write_gives : K → List ℕ → Result ℕ Failed → K → Type 0) (remaining : T → Option (List ℕ)) (contents : K → Option (List ℕ)) (status : Status) (m : Meaning S) (s : S) (tape_old tape_new : T) (out_old out_new : K) : Type 0 where
  pub leaves : RunLeaves read_gives write_gives remaining contents status (tape_printout (model m s)) tape_old tape_new out_old out_new
  pub simulates : AreSimulated read_gives remaining status m s tape_old tape_new
