-- The command `replay`: the events of a tape are put to a gate.
use Rattle.std.specs.Prelude.{ℕ, Bool, List, is_some}
use Rattle.std.specs.List.{list_any}
use Rattle.gate_history.specs.step.Marks.{Mark}
use Rattle.gate_history.specs.state.Sides.{refused_at}
use Rattle.gate_history.specs.step.History.{history}
use Rattle.gate_history.specs.write.All.{counts_of}
use Rattle.tape_run.specs.Text.{event_text, opening_text, counts_line}
use Rattle.tape_run.specs.tape.EventCommand.{EventCommand}

-- a side was refused
abbrev pub has_refusal : List Mark → Bool
has_refusal marks = list_any (λ m. is_some (refused_at m.what)) marks

-- the ids of the packets to the host begin with the first id
abbrev pub replay : ℕ → EventCommand
replay first = record {
  opening = opening_text first;
  text = λ events e. event_text first events e;
  closing = λ events. counts_line (counts_of first (history first events));
  refused = λ events. has_refusal (history first events);
}
