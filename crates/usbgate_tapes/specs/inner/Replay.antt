-- What a replay keeps of the events that it has seen.
use Rattle.std.specs.Prelude.{◌≡◌, ℕ, List, [], ◌∷◌, ◌++◌}
use Rattle.gate_history.specs.step.Events.{PastEvent}
use Rattle.gate_history.specs.step.History.{history}
use Rattle.gate_core.specs.step.Stands.{GateStands}
use Rattle.usbgate_tapes.specs.declared.replay.Replay.{Replay}
use Rattle.tape_run.specs.Text.{event_text}
use Rattle.tape_run.specs.tape.EventCommand.{EventCommand}
use Rattle.tape_run.specs.Replay.{has_refusal, replay}

pub record HasReplayed (first : ℕ) (r : Replay) (events : List PastEvent) : Type 0 where
  pub gate : GateStands first r.gate events
  pub to_client : r.to_client ≡ []
  pub to_host : r.to_host ≡ []
  pub refused : r.refused ≡ has_refusal (history first events)

-- the text of an event is put behind the text, and the event is seen
pub record PutsEvent (first : ℕ) (new : Replay) (events : List PastEvent) (e : PastEvent) (text_old text_new : List ℕ) : Type 0 where
  pub text : text_new ≡ text_old ++ event_text first events e
  pub seen : HasReplayed first new (e ∷ events)

-- it is the replay that draws from some first id on
pub record Replays (command : EventCommand) (r : Replay) (events : List PastEvent) : Type 0 where
  pub first : ℕ
  pub command-is : command ≡ replay first
  pub seen : HasReplayed first r events
