-- The command `model` against the device attached directly.
use Rattle.std.specs.Prelude.{◌≡◌, ℕ, List, Option, Some, Result}
use Rattle.gate_outside.specs.declared.fault.Failed.{Failed}
use Rattle.model_device.specs.Device.{first_state, meaning_of}
use Rattle.model_device.specs.Loopback.{loopback}
use Rattle.model_device.specs.Meaning.{Meaning}
use Rattle.direct_run.specs.Steps.{PastStep}
use Rattle.direct_proof.specs.Simulates.{Simulates}
use Rattle.tape_run.specs.declared.model.device.Device.{Device}
use Rattle.tape_run.specs.declared.status.Status.{Status}
use Rattle.tape_run.specs.Logs.{HoldsOfRead}
use Rattle.tape_run.specs.model.Device.{as_plugged}
use Rattle.tape_run.specs.model.Made.{made}
use Rattle.tape_run.specs.model.Model.{model}
use Rattle.tape_run.specs.Run.{ComesToEnd}
use Rattle.tape_run.specs.tape.TapeCommand.{read_tape}

-- the steps that the lines of a tape say, up to its end or its first bad line, the latest first
abbrev pub steps_of : {S : Type 0} → Meaning S → S → List ℕ → List PastStep
steps_of m s tape = (read_tape (model m s) tape).after.kept

-- Where the run comes to the end of its tape, or to a bad line, what its steps told and sent is what the device does
-- and answers that is attached directly and begins in state s: by the log of the reads, of each tape that begins with
-- what they gave, and of a tape that tells its bytes.
pub record AreSimulated {S T : Type 0} (read_gives : T → List ℕ → Result ℕ Failed → T → Type 0) (remaining : T → Option (List ℕ)) (status : Status) (m : Meaning S) (s : S) (old new : T) : Type 0 where
  pub by_log : ComesToEnd status (HoldsOfRead read_gives (λ tape. Simulates m s (steps_of m s tape)) old new)
  pub where_told : ComesToEnd status ((tape : List ℕ) → remaining old ≡ Some tape → Simulates m s (steps_of m s tape))

-- of each device, as it is plugged in
abbrev pub RunSimulates : {T : Type 0} → (T → List ℕ → Result ℕ Failed → T → Type 0) → (T → Option (List ℕ)) → Status → Device → T → T → Type 0
RunSimulates read_gives remaining status device old new = as_plugged (λ S m s. AreSimulated read_gives remaining status m s old new) device

-- of the loop, by the steps of the tape that a number stands for
abbrev pub MadeSimulates : ℕ → Type 0
MadeSimulates count = Simulates (meaning_of loopback) (first_state loopback) (steps_of (meaning_of loopback) (first_state loopback) (made count))
