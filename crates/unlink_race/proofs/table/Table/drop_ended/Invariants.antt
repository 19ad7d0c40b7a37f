use Rattle.std.proofs.Common.{◌≡◌, not}
use Rattle.unlink_race.specs.declared.live.Live.{Live}
use Rattle.unlink_race.specs.Searches.{ended_by}
use Rattle.unlink_race.proofs.Passing.{tried_from}
use Rattle.unlink_race.proofs.table.Table.drop_ended.Given as goal

-- those from the place on were tried
abbrev pub invariant-loop-place : goal.invariant-loop-place
invariant-loop-place l = l.self ≡ tried_from (λ (live : Live). not (ended_by l.end live)) l.place l.initial.self
