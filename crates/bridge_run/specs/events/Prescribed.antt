-- What is served: what its events send and which sides they refuse. Lists of events have the latest first.
use Rattle.std.specs.Prelude.{ℕ, ◌||◌, Bool, true, false, List, ◌∷◌, Option}
use Rattle.std.specs.List.{list_any, slice_get}
pub use Rattle.usb_base.specs.Lists.{gained}
use Rattle.usb_base.specs.declared.side.Side.{Side}
use Rattle.usb_base.specs.declared.side.Side.TheVariants.{Client, Host}
use Rattle.usb_base.specs.declared.refusal.Refusal.{Refusal}
use Rattle.bridge_run.specs.events.Events.{PastLinkEvent}

-- all that these events, and the making before them, have sent and refused, the earliest first; and whether the client
-- is let go behind the latest of them
pub record Prescribed : Type 0 where
  pub to_client : List PastLinkEvent → List ℕ
  pub to_host : List PastLinkEvent → List ℕ
  pub refusals : List PastLinkEvent → List Refusal
  pub lets_go : List PastLinkEvent → Bool

abbrev pub is_of : Side → Side → Bool
is_of Client Client = true
is_of Host Host = true
is_of side other = false

-- a side is among those that are refused
abbrev pub refuses : Side → List Refusal → Bool
refuses side refusals = list_any (λ r. is_of side r.side) refusals

-- behind an event the client's link is closed: it is refused, or let go
abbrev pub drops : Prescribed → List PastLinkEvent → PastLinkEvent → Bool
drops p events e = refuses Client (gained p.refusals events e) || p.lets_go (e ∷ events)

abbrev pub first_of : List Refusal → Option Refusal
first_of refusals = slice_get refusals 0
