use Rattle.std.proofs.Common.{◌≡◌}
use Rattle.unlink_race.specs.Searches.{waits_for}
use Rattle.gate_parts.specs.host.Fill.{without_firsts}
use Rattle.gate_parts.proofs.host.fill.finish_fronts.Given as goal

abbrev pub invariant-loop : goal.invariant-loop
invariant-loop l = l.lives ≡ record l.fn.lives { live = without_firsts l.counter (waits_for l.ep) l.fn.lives.live }
