-- The command `model`: the steps that a tape says are done with a gateway and a modelled device, which begins as it was
-- plugged in.
use Rattle.std.specs.Prelude.{ℕ, List, [], ◌∷◌, Option, Some, None, is_some, option_map, option_and_then}
use Rattle.packet_show.specs.declared.tape.ModelLine.{ModelLine}
use Rattle.packet_show.specs.declared.tape.ModelLine.TheVariants as line
use Rattle.packet_show.specs.Tape.{model_line}
use Rattle.gate_history.specs.write.All.{counts_of}
use Rattle.gate_history.specs.step.History.{history}
use Rattle.model_device.specs.Meaning.{Meaning}
use Rattle.direct_run.specs.Steps.{PastStep, Client, ClientEnd, ToHost, ToGate, Perform, Offer, Unplug}
use Rattle.direct_run.specs.Trace.{told_first, told_by}
use Rattle.direct_run.specs.World.{first_id, course}
use Rattle.tape_run.specs.declared.model.device.Device.{Device}
use Rattle.tape_run.specs.Replay.{has_refusal}
use Rattle.tape_run.specs.model.Device.{as_plugged}
use Rattle.tape_run.specs.tape.TapeCommand.{TapeCommand}
use Rattle.tape_run.specs.Text.{told_text, counts_line}

-- the step that a line says, or none
abbrev pub step_said : ModelLine → Option PastStep
step_said line.Skip = None
step_said (line.Client piece) = Some (Client piece)
step_said line.ClientEnd = Some ClientEnd
step_said (line.ToHost n) = Some (ToHost n)
step_said (line.ToGate n) = Some (ToGate n)
step_said (line.Perform ep) = Some (Perform ep)
step_said (line.Offer ep) = Some (Offer ep)
step_said line.Unplug = Some Unplug

-- a line that says nothing adds nothing
abbrev pub on_step : {S : Type 0} → Meaning S → S → List PastStep → Option PastStep → List ℕ × List PastStep
on_step m s steps None = ([], steps)
on_step m s steps (Some x) = (told_text (told_by m s (course m s steps) x), x ∷ steps)

-- it keeps the steps, the latest first
abbrev pub model : {S : Type 0} → Meaning S → S → TapeCommand (List PastStep)
model m s = record {
  opening = told_text (told_first m s);
  start = [];
  line = λ steps content. option_map (λ said. on_step m s steps (step_said said)) (model_line content);
  says = λ content. is_some (option_and_then step_said (model_line content));
  closing = λ steps. counts_line (counts_of first_id (history first_id (course m s steps).events));
  refused = λ steps. has_refusal (history first_id (course m s steps).events);
}

abbrev pub model_of : Device → TapeCommand (List PastStep)
model_of device = as_plugged (λ S m s. model m s) device
