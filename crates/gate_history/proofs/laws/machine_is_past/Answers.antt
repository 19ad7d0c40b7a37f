use Rattle.gate_history.specs.write.Output.{to_client, to_host}
use Rattle.gate_history.specs.write.Notes.{notes_of, dropped}
use Rattle.gate_history.specs.write.All.{counted}
use Rattle.gate_history.specs.write.Bytes.{client_bytes_of, host_bytes_of}
use Rattle.gate_history.proofs.lemmas.step.Runs.{state-run, all-run}
use Rattle.gate_history.proofs.laws.machine_is_past.Goals as goal

pub returns : goal.returns
returns c = record {
  state = state-run;
  client = all-run to_client;
  host = all-run to_host;
  client_bytes = all-run client_bytes_of;
  host_bytes = all-run host_bytes_of;
  notes = all-run notes_of;
  counts = λ first items i. counted (all-run to_client first items i) (state-run first items i).live (all-run dropped first items i);
}
