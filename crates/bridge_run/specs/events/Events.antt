-- What happens in the course of serving. Lists of events have the latest first.
use Rattle.std.specs.Prelude.{ℕ, Bool, true, false, List}
use Rattle.usb_base.specs.declared.side.Side.{Side}
use Rattle.bridge_run.specs.declared.events.event.LinkEvent.{LinkEvent}
use Rattle.bridge_run.specs.declared.events.event.LinkEvent.TheVariants as raw

pub data PastLinkEvent : Type 0 where
  -- a client's link has come
  ClientComes : PastLinkEvent
  -- the client that is there was polled, and had nothing
  ClientQuiet : PastLinkEvent
  -- the next piece of a side's stream
  SidePiece : Side → List ℕ → PastLinkEvent
  SideEnd : Side → PastLinkEvent

-- an event as the code lends it
abbrev pub event_of : LinkEvent → PastLinkEvent
event_of raw.ClientComes = ClientComes
event_of raw.ClientQuiet = ClientQuiet
event_of (raw.SidePiece side b) = SidePiece side b.now
event_of (raw.SideEnd side) = SideEnd side

-- nothing came
abbrev pub is_quiet : PastLinkEvent → Bool
is_quiet ClientQuiet = true
is_quiet e = false
