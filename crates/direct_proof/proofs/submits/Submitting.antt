-- A packet of its own beside a stream, and the places of what came before.
use Rattle.std.proofs.Common.{◌≡◌, ℕ, ◌==◌, false, List, Option, Some, None, refl}
use Rattle.control_route.specs.declared.route.Route.{Route}
use Rattle.gate_history.specs.declared.verdict.Pipe.{Pipe}
use Rattle.gate_history.specs.declared.verdict.Verdict.TheVariants.{Wire, Routed}
use Rattle.gate_history.specs.client.Submits.{Pending}
use Rattle.gate_history.specs.state.Ups.{Up}
use Rattle.gate_history.specs.step.Meaning.{by_stream}
use Rattle.gate_history.proofs.lemmas.Lists.{Each}

pub by-wire : (up : Option Up) (pipe : Pipe) → by_stream up (Wire pipe) ≡ Wire pipe
by-wire None pipe = refl
by-wire (Some up) pipe = refl

pub by-routed : (up : Option Up) (x : Route) → by_stream up (Routed x) ≡ Routed x
by-routed None x = refl
by-routed (Some up) x = refl

-- ---- what the gateway makes of it

-- each of those before it stands at an earlier place
abbrev pub AreBefore : ℕ → List Pending → Type 0
AreBefore place ps = Each (λ (p : Pending). (place == p.submit.place) ≡ false) ps
