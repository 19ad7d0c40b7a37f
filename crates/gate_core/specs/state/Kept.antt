-- What a gate keeps of all that has come.
use Rattle.std.specs.Prelude.{Bool}
use Rattle.packet_stream.specs.Streams.{StreamView}
use Rattle.gate_core.specs.declared.state.kept.Kept.{Kept}
use Rattle.redir_wire.specs.declared.state.RedirState.{RedirState}

pub record GateKept : Type 0 where
  -- what the code keeps of the items that have come; `Holds` says what each part is
  pub items : Kept
  -- the bytes of each side that are no whole packet yet
  pub client : StreamView (Unit {0})
  pub host : StreamView RedirState
  -- memory ran out in an earlier event
  pub failed : Bool
