-- The course of serving: what has happened, and what is still to come.
use Rattle.std.specs.Prelude.{ℕ, Bool, List}
use Rattle.gate_outside.specs.declared.turn.Turn.{Turn}
use Rattle.bridge_run.specs.events.Events.{PastLinkEvent}
use Rattle.bridge_run.specs.events.Prescribed.{Prescribed}

-- what is served, and how long
pub record Setting : Type 0 where
  pub served : Prescribed
  -- after how many rounds in a row in which nothing comes it ends
  pub idle : ℕ

pub record Course : Type 0 where
  -- the events that were taken, the latest first
  pub events : List PastLinkEvent
  pub client_up : Bool
  pub host_up : Bool
  -- the turns still to come of the client that is there, of each later one, and of the host
  pub client : List Turn
  pub clients : List (List Turn)
  pub host : List Turn
  -- something has come in this round
  pub busy : Bool
  -- how many more rounds in a row may bring nothing
  pub waits : ℕ
  -- how many more bytes may be taken, where each link that comes counts as one
  pub left : ℕ
  -- what was written to clients and to the host, and told of refusals
  pub to_client : List ℕ
  pub to_host : List ℕ
  pub told : List ℕ
  -- what was written to the tape, and the lines that wait to be written
  pub recorded : List ℕ
  pub waiting : List ℕ

-- what is done next
pub data Next : Type 0 where
  -- the host is dialled, the door made, and what the making sends is written
  Making : Next
  -- a round asks for a client, where none is there, and then polls each side whose link is up
  AtDoor : Next
  AtClient : Next
  AtHost : Next
  -- the end of a round
  AtEnd : Next
  -- an event is taken first
  Takes : PastLinkEvent → Next → Next
