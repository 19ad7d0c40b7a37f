-- Where memory ran out within an event, and what of the event had been sent to each side by then. What is served says
-- it of the event's items; the loop wants memory too, for the lines of refusals and for those of a recording.
use Rattle.std.specs.Prelude.{◌≡◌, ◌⊎◌, ℕ, ◌||◌, not, Bool, true, false, List, []}
use Rattle.usb_base.specs.Lists.{is_empty}
use Rattle.bridge_run.specs.events.Events.{PastLinkEvent, ClientComes, ClientQuiet}
use Rattle.bridge_run.specs.events.Prescribed.{Prescribed, gained}

-- all that the event sends was sent, and a side that it refuses couldn't be told
pub record Untold (p : Prescribed) (events : List PastLinkEvent) (e : PastLinkEvent) (client host : List ℕ) : Type 0 where
  pub client-is : client ≡ gained p.to_client events e
  pub host-is : host ≡ gained p.to_host events e
  pub refuses : not (is_empty (gained p.refusals events e)) ≡ true

-- the event has a line on a tape
abbrev pub is_recorded : PastLinkEvent → Bool
is_recorded ClientComes = false
is_recorded ClientQuiet = false
is_recorded e = true

-- a tape is made, and the event's lines couldn't be put to those that wait for it: nothing was sent
pub record Unrecorded (taped : Bool) (p : Prescribed) (events : List PastLinkEvent) (e : PastLinkEvent) (client host : List ℕ) : Type 0 where
  pub is_taped : taped ≡ true
  pub has_lines : (is_recorded e || not (is_empty (gained p.refusals events e))) ≡ true
  pub client-is : client ≡ []
  pub host-is : host ≡ []

-- what is served ran out of memory within the event, or the loop did behind it
abbrev pub RanOut : (List PastLinkEvent → PastLinkEvent → List ℕ → List ℕ → Type 0) → Bool → Prescribed → List PastLinkEvent → PastLinkEvent → List ℕ → List ℕ → Type 0
RanOut runs_out taped p events e client host = runs_out events e client host ⊎ (Untold p events e client host ⊎ Unrecorded taped p events e client host)

-- it ran out within the event, whose line could be recorded: within what is served, or for the line of a refusal
abbrev pub RanOutWithin : (List PastLinkEvent → PastLinkEvent → List ℕ → List ℕ → Type 0) → Prescribed → List PastLinkEvent → PastLinkEvent → List ℕ → List ℕ → Type 0
RanOutWithin runs_out p events e client host = runs_out events e client host ⊎ Untold p events e client host

-- it doesn't run out
abbrev pub Never : List PastLinkEvent → PastLinkEvent → List ℕ → List ℕ → Type 0
Never events e client host = ⊥
