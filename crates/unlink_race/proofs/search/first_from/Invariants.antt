use Rattle.std.proofs.Common.{◌≡◌, length}
use Rattle.unlink_race.specs.Searches.{ended_by}
use Rattle.unlink_race.specs.Inner.Rest.{rest_at, Stands, key_of_first}
use Rattle.unlink_race.proofs.search.first_from.Given as goal

abbrev pub invariant-loop-next : goal.invariant-loop-next
invariant-loop-next l =
    Stands l.next l.arena.lanes ×
    (key_of_first (ended_by l.end) (rest_at l.fn.start l.arena.lanes) ≡ key_of_first (ended_by l.end) (rest_at l.next l.arena.lanes))

-- the requests that are left of the lane
abbrev pub decreases-loop-next : goal.decreases-loop-next
decreases-loop-next l = length (rest_at l.next l.arena.lanes)
