-- What was sent to each side and told: how much, the first of it, and more.
use Rattle.std.specs.Prelude.{◌≡◌, ◌≤◌, ◌++◌, ℕ, List, length, take}
use Rattle.gate_history.specs.declared.note.Note.{Note}
use Rattle.gate_parts.specs.declared.write.outputs.Outputs.{Outputs}
use Rattle.gate_parts.specs.declared.write.outputs.Lengths.{Lengths}

abbrev pub lengths_of : Outputs → Lengths
lengths_of o = record { to_client = length o.to_client; to_host = length o.to_host; notes = length o.notes }

-- there is so much of each
pub record ReachesLengths (n : Lengths) (o : Outputs) : Type 0 where
  pub client : n.to_client ≤ length o.to_client
  pub host : n.to_host ≤ length o.to_host
  pub notes : n.notes ≤ length o.notes

abbrev pub first_of : Lengths → Outputs → Outputs
first_of n o = record { to_client = take n.to_client o.to_client; to_host = take n.to_host o.to_host; notes = take n.notes o.notes }

-- these bytes more for the client, and these notes
abbrev pub with_answers : Outputs → List ℕ → List Note → Outputs
with_answers o bytes notes = record o { to_client = o.to_client ++ bytes; notes = o.notes ++ notes }

-- some bytes more for the client, and some notes, where memory ran out behind them
pub record HasSome (old new : Outputs) : Type 0 where
  pub bytes : List ℕ
  pub notes : List Note
  pub is : new ≡ with_answers old bytes notes
