-- A run of a modelled device, against the device attached directly.
use Rattle.std.proofs.Common.{◌≡◌, ℕ, List, [], ◌++◌, Option, Result, sym, subst}
use Rattle.gate_outside.specs.declared.fault.Failed.{Failed}
use Rattle.gate_outside.specs.Moved.{moved}
use Rattle.model_device.specs.Device.{State, first_state, meaning_of}
use Rattle.model_device.specs.Loopback.{loopback}
use Rattle.model_device.specs.Meaning.{Meaning}
use Rattle.direct_system.specs.Kept.{SystemKept}
use Rattle.direct_system.specs.Stands.{SystemStands}
use Rattle.direct_run.specs.Steps.{PastStep}
use Rattle.direct_proof.specs.Simulates.{Simulates}
use Rattle.made_tape.specs.Again.{TapeAgain}
use Rattle.made_tape.specs.Rounds.{made_lines}
use Rattle.tape_run.specs.declared.model.device.Device.{Device}
use Rattle.tape_run.specs.declared.model.device.Device.TheVariants.{Keyboard}
use Rattle.tape_run.specs.declared.status.Status.{Status}
use Rattle.tape_run.specs.declared.status.Status.TheVariants.{OutOfMemory}
use Rattle.tape_run.specs.model.Model.{model}
use Rattle.usbgate_tapes.specs.model.Simulated.{steps_of, AreSimulated, RunSimulates, MadeSimulates}
use Rattle.usbgate_tapes.specs.inner.model.Loaded.{steps_after}
use Rattle.usbgate_tapes.specs.inner.model.Model.{HasDone}
use Rattle.tape_run.specs.tape.Kept.{ReadsTo}
use Rattle.tape_run.proofs.lemmas.runs.Going.{comes-too}
use Rattle.usbgate_tapes.proofs.lemmas.model.Loaded.{kept-made}

-- the law of systems
abbrev pub SystemsAreDirect : {S : Type 0} → Meaning S → Type 0
SystemsAreDirect {S = S} m = (first : S) (kept : SystemKept S) (steps : List PastStep) → SystemStands m first kept steps → Simulates m first steps

pub are-simulated : {S T : Type 0} (m : Meaning S) (s : S) (read_gives : T → List ℕ → Result ℕ Failed → T → Type 0) (remaining : T → Option (List ℕ)) (status : Status) (old new : T) → SystemsAreDirect m → ReadsTo read_gives remaining status (HasDone m s) (model m s) old new → AreSimulated read_gives remaining status m s old new
are-simulated m s read_gives remaining status old new law reads = record {
  by_log = comes-too status (λ kept. record {
    reads = kept.reads;
    read = kept.read;
    each = λ later follows. let k = kept.each later follows in law s k.0.system (steps_of m s (moved kept.reads ++ later)) k.1.system;
  }) reads.by_log;
  where_told = comes-too status (λ kept tape told. let k = kept tape told in law s k.0.system (steps_of m s tape) k.1.system) reads.where_told;
}

-- nothing is said of a run that memory was wanting for
pub unsimulated : {T : Type 0} (read_gives : T → List ℕ → Result ℕ Failed → T → Type 0) (remaining : T → Option (List ℕ)) (device : Device) (old new : T) → RunSimulates read_gives remaining OutOfMemory device old new
unsimulated read_gives remaining Keyboard old new = record { by_log = tt; where_told = tt }
unsimulated read_gives remaining _ old new = record { by_log = tt; where_told = tt }

-- a made tape
pub made-simulates : (count : ℕ) (gadget : State (List ℕ)) (k : SystemKept (State (List ℕ))) → gadget ≡ first_state loopback → TapeAgain (made_lines count) → SystemsAreDirect (meaning_of loopback)
    → SystemStands (meaning_of loopback) gadget k (steps_after (made_lines count) []) → MadeSimulates count
made-simulates count gadget k plugged again law stands =
    subst (Simulates (meaning_of loopback) (first_state loopback)) (sym (kept-made (meaning_of loopback) (first_state loopback) (made_lines count) again))
    (subst (λ (g : State (List ℕ)). Simulates (meaning_of loopback) g (steps_after (made_lines count) [])) plugged (law gadget k (steps_after (made_lines count) []) stands))
