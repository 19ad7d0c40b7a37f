use Rattle.std.proofs.Common.{◌≡◌}
use Rattle.gate_history.specs.state.Ups.{unless, is_ended}
use Rattle.gate_parts.proofs.lemmas.state.Fronts.{mapped}
use Rattle.gate_parts.proofs.state.streams.Streams.lower.Given as goal

abbrev pub invariant-loop-up : goal.invariant-loop-up
invariant-loop-up l = l.up-items ≡ mapped (unless (is_ended l.by)) l.up-index l.fn.self
