use Rattle.gate_history.specs.write.Output.{to_client}
use Rattle.gate_history.specs.write.Notes.{notes_of, dropped}
use Rattle.gate_history.specs.write.Bytes.{client_bytes_of, host_bytes_of}
use Rattle.gate_history.proofs.lemmas.step.Events.{event-state, event-gives}
use Rattle.gate_history.proofs.laws.events_add_items.Goals as goal

pub returns : goal.returns
returns c = record {
  state = event-state;
  client = event-gives to_client;
  client_bytes = event-gives client_bytes_of;
  host_bytes = event-gives host_bytes_of;
  notes = event-gives notes_of;
  dropped = event-gives dropped;
}
