-- Commands over a replay tape, as data: they keep the events that its lines say, the latest first.
use Rattle.std.specs.Prelude.{ℕ, Bool, if◌then◌else◌, List, [], ◌∷◌, Option, Some, None, is_some, option_and_then}
use Rattle.packet_show.specs.Tape.{replay_line}
use Rattle.gate_history.specs.step.Events.{PastEvent}
use Rattle.tape_run.specs.tape.Tape.{event_said, may_happen}
use Rattle.tape_run.specs.tape.TapeCommand.{TapeCommand}

pub record EventCommand : Type 0 where
  -- the text before the first line
  pub opening : List ℕ
  -- what an event adds to the text, after those before it
  pub text : List PastEvent → PastEvent → List ℕ
  -- the text behind the last line
  pub closing : List PastEvent → List ℕ
  -- whether it ends in a refusal
  pub refused : List PastEvent → Bool

-- a line that says nothing adds nothing, and one that may not stand there is bad
abbrev pub on_event : EventCommand → List PastEvent → Option PastEvent → Option (List ℕ × List PastEvent)
on_event command events None = Some ([], events)
on_event command events (Some e) = if may_happen events e then Some (command.text events e, e ∷ events) else None

abbrev pub over_events : EventCommand → TapeCommand (List PastEvent)
over_events command = record {
  opening = command.opening;
  start = [];
  line = λ events content. option_and_then (λ line. on_event command events (event_said line)) (replay_line content);
  says = λ content. is_some (option_and_then event_said (replay_line content));
  closing = command.closing;
  refused = command.refused;
}
