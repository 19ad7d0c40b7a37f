use Rattle.std.proofs.Common.{ℕ, map, ap}
use Rattle.unlink_race.specs.declared.live.Live.{Live}
use Rattle.unlink_race.specs.Searches.{ended_by}
use Rattle.unlink_race.specs.Inner.Earliest.{passing}
use Rattle.unlink_race.proofs.Walks.{Entries, values, from_front, front_stands}
use Rattle.unlink_race.proofs.waiting.Waiting.new.Goals as goal

pub invariant_of-result : goal.invariant_of-result
invariant_of-result c = (c.requires.keys, front_stands c.args.arena.now.lanes c.requires.keys c.args.lane c.front.result c.front.ensures)

pub returns : goal.returns
returns c = ap (λ (ps : Entries). map (λ (e : ℕ × Live). e.1) (passing (ended_by c.args.end) (values ps))) (from_front c.args.arena.now.lanes c.requires.keys c.args.lane c.front.result c.front.ensures)
