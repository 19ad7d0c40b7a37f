-- The course of a session that is recorded, before anything has happened.
use Rattle.std.specs.Prelude.{◌≡◌, List, [], ◌∷◌}
use Rattle.usb_base.specs.Number.{AreBytes}
use Rattle.gate_outside.specs.declared.turn.Turn.{Turn}
use Rattle.gate_outside.specs.declared.turn.Turn.TheVariants.{Piece, Wait, Fail}
use Rattle.session_tape.specs.Lines.{first_comment}
use Rattle.bridge_run.specs.course.Course.{Course}
use Rattle.bridge_run.specs.course.Serves.{NothingYet}
use Rattle.usbgate_commands.specs.words.Serving.{ServeSettings}
use Rattle.usbgate_commands.specs.declared.links.serve.TheConstants.{BUDGET}

-- what a peer sends are bytes
abbrev pub SendBytes : List Turn → Type 0
SendBytes [] = Unit {0}
SendBytes (Piece piece ∷ turns) = AreBytes piece × SendBytes turns
SendBytes (Wait ∷ turns) = SendBytes turns
SendBytes (Fail ∷ turns) = SendBytes turns

abbrev pub AllSendBytes : List (List Turn) → Type 0
AllSendBytes [] = Unit {0}
AllSendBytes (turns ∷ peers) = SendBytes turns × AllSendBytes peers

-- the tape has its first line, and the links have nothing
pub record IsFresh (asked : ServeSettings) (c : Course) : Type 0 where
  pub begins : NothingYet asked.idle BUDGET c
  pub recorded-is : c.recorded ≡ first_comment asked.first_id
  pub no_client : c.to_client ≡ []
  pub no_host : c.to_host ≡ []
  pub client : SendBytes c.client
  pub clients : AllSendBytes c.clients
  pub host : SendBytes c.host
