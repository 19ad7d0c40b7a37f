-- Which links are up, and what is written to them and told of refusals: behind events, the latest first, and as the
-- next event is taken. Which links are up behind calls of the doors.
use Rattle.std.specs.Prelude.{ℕ, ◌&&◌, ◌||◌, not, Bool, true, false, if◌then◌else◌, List, [], ◌∷◌, ◌++◌, is_ok}
use Rattle.std.specs.List.{flat_map}
use Rattle.usb_base.specs.declared.side.Side.{Side}
use Rattle.usb_base.specs.declared.side.Side.TheVariants.{Client, Host}
use Rattle.usb_base.specs.Refusal.{refusal_line}
use Rattle.gate_outside.specs.declared.turn.Polled.TheVariants.{Ended}
use Rattle.gate_outside.specs.Calls.{Call, Dial, Accept, Poll, Close}
use Rattle.bridge_run.specs.events.Events.{PastLinkEvent, ClientComes, SideEnd}
use Rattle.bridge_run.specs.events.Prescribed.{Prescribed, gained, is_of, refuses, drops}
use Rattle.bridge_run.specs.log.Asks.{is_client}

-- as an event is taken, by whether the link was up before: a client's link comes with the client, and a side has its
-- end where its link is down
abbrev pub client_at : PastLinkEvent → Bool → Bool
client_at ClientComes up = true
client_at (SideEnd Client) up = false
client_at e up = up

abbrev pub host_at : PastLinkEvent → Bool → Bool
host_at (SideEnd Host) up = false
host_at e up = up

-- behind an event a side that it refuses has its link closed, and a client that it lets go
abbrev pub client_behind : Prescribed → List PastLinkEvent → Bool
client_behind p [] = false
client_behind p (e ∷ events) = client_at e (client_behind p events) && not (drops p events e)

-- the host was dialled before the first event, or is nobody
abbrev pub host_since : Bool → Prescribed → List PastLinkEvent → Bool
host_since dialled p [] = dialled
host_since dialled p (e ∷ events) = host_at e (host_since dialled p events) && not (refuses Host (gained p.refusals events e))

-- what each event sends to clients, where a client's link is up
abbrev pub to_clients : Prescribed → List PastLinkEvent → List ℕ
to_clients p [] = []
to_clients p (e ∷ events) = to_clients p events ++ (if client_at e (client_behind p events) then gained p.to_client events e else [])

-- what the making sends to the host, and then each event, where the host's link is up
abbrev pub sent_to_host : Bool → Prescribed → List PastLinkEvent → List ℕ
sent_to_host dialled p [] = if dialled then p.to_host [] else []
sent_to_host dialled p (e ∷ events) = sent_to_host dialled p events ++ (if host_at e (host_since dialled p events) then gained p.to_host events e else [])

-- a line for each side that an event refuses
abbrev pub told_of : Prescribed → List PastLinkEvent → List ℕ
told_of p [] = []
told_of p (e ∷ events) = told_of p events ++ flat_map refusal_line (gained p.refusals events e)

-- ---- by the calls

-- a link comes up by the host that was dialled, or the client that has come, and goes down by its end, or by its
-- closing
abbrev pub up_behind : Side → Call → Bool → Bool
up_behind side (Dial addr answer) up = (is_of Host side && is_ok answer) || up
up_behind side (Accept answer) up = (is_of Client side && is_client answer) || up
up_behind side (Poll of Ended buf) up = if is_of of side then false else up
up_behind side (Close of) up = if is_of of side then false else up
up_behind side call up = up

abbrev pub up_by : Side → List Call → Bool
up_by side [] = false
up_by side (call ∷ calls) = up_behind side call (up_by side calls)
