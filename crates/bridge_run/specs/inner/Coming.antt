-- An event as the loop takes it: one that is still to be taken by what is served, or a piece that it has taken.
use Rattle.std.specs.Prelude.{◌≡◌, ℕ, Bool, false, List, Option, None}
use Rattle.bridge_run.specs.declared.events.sent.Sent.{Sent}
use Rattle.bridge_run.specs.declared.events.coming.Coming.{Coming}
use Rattle.bridge_run.specs.declared.events.coming.Coming.TheVariants.{Event, Taken}
use Rattle.bridge_run.specs.events.Events.{PastLinkEvent, SidePiece, event_of}
use Rattle.bridge_run.specs.events.Prescribed.{Prescribed}
use Rattle.bridge_run.specs.served.Sends.{nothing}
use Rattle.bridge_run.specs.served.Taking.{IsTaken}

-- the event, where these are the bytes that were taken
abbrev pub event_with : List ℕ → Coming → PastLinkEvent
event_with piece (Event event) = event_of event
event_with piece (Taken side taken) = SidePiece side piece

-- the bytes of what was taken are in no buffer: then no tape is made, and it has no bytes
abbrev pub CanRecord : Coming → Bool → Option (List ℕ) → Type 0
CanRecord (Event event) made contents = Unit {0}
CanRecord (Taken side taken) made contents = (made ≡ false) × (contents ≡ None)

-- what is served stands for these events, and the coming one is behind them: still to be taken, or taken, and what it
-- sends is there
abbrev pub StandsAt : {C : Type 0} → (C → List PastLinkEvent → Type 0) → (List PastLinkEvent → PastLinkEvent → List ℕ → List ℕ → Type 0) → Prescribed → List ℕ → Coming → C → Sent → List PastLinkEvent → Type 0
StandsAt stands runs_out p piece (Event event) served sent = stands served
StandsAt stands runs_out p piece (Taken side taken) served sent = λ events. IsTaken taken (stands served) runs_out p events (SidePiece side piece) nothing sent
