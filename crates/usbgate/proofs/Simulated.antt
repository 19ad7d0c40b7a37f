-- What is simulated is of the device and of the number that the words ask for.
use Rattle.std.proofs.Common.{◌≡◌, ℕ, List, Option, Result, subst}
use Rattle.gate_outside.specs.declared.fault.Failed.{Failed}
use Rattle.tape_run.specs.declared.model.device.Device.{Device}
use Rattle.tape_run.specs.declared.status.Status.{Status}
use Rattle.usbgate_commands.specs.declared.words.command.Command.TheVariants.{Model, Load}
use Rattle.usbgate_tapes.specs.model.Simulated.{RunSimulates, MadeSimulates}

same-device : (d e : Device) → Model d ≡ Model e → d ≡ e
same-device d e same = cc

pub simulates-device : {T : Type 0} (read_gives : T → List ℕ → Result ℕ Failed → T → Type 0) (remaining : T → Option (List ℕ)) (d e : Device) (status : Status) (old new : T) → Model d ≡ Model e → RunSimulates read_gives remaining status d old new → RunSimulates read_gives remaining status e old new
simulates-device read_gives remaining d e status old new same simulates = subst (λ (x : Device). RunSimulates read_gives remaining status x old new) (same-device d e same) simulates

same-count : (m n : ℕ) → Load m ≡ Load n → m ≡ n
same-count m n same = cc

pub simulates-count : (m n : ℕ) → Load m ≡ Load n → MadeSimulates m → MadeSimulates n
simulates-count m n same simulates = subst MadeSimulates (same-count m n same) simulates
