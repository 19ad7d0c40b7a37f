-- Which links are up behind events of a session whose host was dialled.
use Rattle.std.specs.Prelude.{ℕ, Bool, true, List}
use Rattle.bridge_run.specs.events.Events.{PastLinkEvent}
use Rattle.bridge_run.specs.events.Prescribed.{Prescribed}
use Rattle.bridge_run.specs.written.Ups.{host_since, sent_to_host}

abbrev pub host_behind : Prescribed → List PastLinkEvent → Bool
host_behind p events = host_since true p events

abbrev pub to_host : Prescribed → List PastLinkEvent → List ℕ
to_host p events = sent_to_host true p events
