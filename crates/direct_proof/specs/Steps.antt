-- What steps on the wires of bytes told and sent, against the device attached directly.
use Rattle.std.specs.Prelude.{List, map}
use Rattle.std.specs.List.{flat_map}
use Rattle.usbip_urb.specs.declared.packet.UrbPacket.{UrbPacket}
use Rattle.model_device.specs.Meaning.{Meaning}
use Rattle.gate_history.specs.write.All.{all_of}
use Rattle.gate_history.specs.step.History.{history}
use Rattle.gate_history.specs.step.Marks.{Submission}
use Rattle.gate_history.specs.write.Output.{to_client}
use Rattle.gate_history.specs.declared.request.Request.{Request}
use Rattle.gate_history.specs.client.Submits.{accepted}
use Rattle.direct_run.specs.Steps.{PastStep}
use Rattle.direct_run.specs.Trace.{trace}
use Rattle.direct_run.specs.World.{Course, course, first_id}
use Rattle.direct_device.specs.Legal.{IsDirect}
use Rattle.direct_proof.specs.Runs.{urb_in}

-- what the submits that were accepted ask, in order
abbrev pub requests_of : Course → List Request
requests_of c = map (λ (t : Submission). t.request) (accepted (history first_id c.events))

-- what clients were sent, the replies to list and import requests aside
abbrev pub answers_of : Course → List UrbPacket
answers_of c = flat_map urb_in (all_of to_client first_id (history first_id c.events))

-- the items that these steps told are a legal trace of the device attached directly, with these requests, and the
-- answers that clients were sent are its answers
abbrev pub AreDirectSteps : {S : Type 0} → Meaning S → S → List PastStep → Type 0
AreDirectSteps m s steps = IsDirect m s (requests_of (course m s steps)) (trace m s steps) (answers_of (course m s steps))
