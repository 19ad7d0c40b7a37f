-- What an event has sent.
use Rattle.std.specs.Prelude.{◌≡◌, ℕ, ◌++◌, ◌∷◌, ◌||◌, List, [], false}
use Rattle.usb_base.specs.Writes.{Begins}
use Rattle.bridge_run.specs.events.Events.{PastLinkEvent}
use Rattle.bridge_run.specs.declared.events.sent.Sent.{Sent}
use Rattle.bridge_run.specs.events.Prescribed.{Prescribed, gained}
use Rattle.bridge_run.specs.events.RanOut.{RanOutWithin}

-- nothing is sent yet
abbrev pub nothing : Sent
nothing = record { to_client = []; to_host = []; refusals = []; lets_go = false }

pub record SendsAll (p : Prescribed) (events : List PastLinkEvent) (e : PastLinkEvent) (old new : Sent) : Type 0 where
  pub client : new.to_client ≡ old.to_client ++ gained p.to_client events e
  pub host : new.to_host ≡ old.to_host ++ gained p.to_host events e
  pub refusals : new.refusals ≡ old.refusals ++ gained p.refusals events e
  pub lets_go : new.lets_go ≡ (old.lets_go || p.lets_go (e ∷ events))
  -- no refusal that was before is lost
  pub grows : p.refusals (e ∷ events) ≡ p.refusals events ++ gained p.refusals events e

-- ---- memory ran out within it

-- of what the event sends to each side this is a front, and here memory ran out
pub record IsPart (runs_out : List PastLinkEvent → PastLinkEvent → List ℕ → List ℕ → Type 0) (p : Prescribed) (events : List PastLinkEvent) (e : PastLinkEvent) (client host : List ℕ) : Type 0 where
  pub to_client : Begins client (gained p.to_client events e)
  pub to_host : Begins host (gained p.to_host events e)
  pub ran_out : RanOutWithin runs_out p events e client host

pub record SendsPart (runs_out : List PastLinkEvent → PastLinkEvent → List ℕ → List ℕ → Type 0) (p : Prescribed) (events : List PastLinkEvent) (e : PastLinkEvent) (old new : Sent) : Type 0 where
  pub client : List ℕ
  pub host : List ℕ
  pub to_client : new.to_client ≡ old.to_client ++ client
  pub to_host : new.to_host ≡ old.to_host ++ host
  pub part : IsPart runs_out p events e client host
