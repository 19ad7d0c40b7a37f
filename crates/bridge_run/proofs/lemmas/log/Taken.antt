-- The same by the log.
use Rattle.std.proofs.Common.{ℕ, List}
use Rattle.gate_outside.specs.Calls.{Call}
use Rattle.bridge_run.specs.events.Events.{PastLinkEvent}
use Rattle.bridge_run.specs.declared.course.rounds.Rounds.{Rounds}
use Rattle.bridge_run.specs.events.Prescribed.{Prescribed}
use Rattle.bridge_run.specs.log.Asks.{Ask}
use Rattle.bridge_run.specs.log.Log.{Terms}
use Rattle.bridge_run.specs.inner.Logging.{IsTaking}

pub taking-with : {D : Type 0} (gives : D → Call → D → Type 0) (stands stands' : List PastLinkEvent → Type 0) (tells : List ℕ → Type 0) (terms : Terms) (p : Prescribed) (asks : List Ask) (e : PastLinkEvent) (k : Rounds) (begun now : D)
    → (t : IsTaking gives stands tells terms p asks e k begun now) → stands' t.events → IsTaking gives stands' tells terms p asks e k begun now
taking-with gives stands stands' tells terms p asks e k begun now t taken = record {
  calls = t.calls;
  called = t.called;
  settled = t.settled;
  asks-are = t.asks-are;
  events = t.events;
  events-are = t.events-are;
  just_came = t.just_came;
  stands_for = taken;
  written = t.written;
  told = t.told;
  told_before = t.told_before;
  left = t.left;
  client_up = t.client_up;
  host_up = t.host_up;
  links = t.links;
  refused = t.refused;
}
