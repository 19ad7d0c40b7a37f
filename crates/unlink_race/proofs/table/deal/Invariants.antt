use Rattle.unlink_race.specs.Inner.Sound.{HasDealt}
use Rattle.unlink_race.proofs.Dealing.{Dealt}
use Rattle.unlink_race.proofs.table.deal.Given as goal

-- the first so many are ranked
abbrev pub invariant-loop-place : goal.invariant-loop-place
invariant-loop-place l = HasDealt l.initial.arena l.arena l.keys × Dealt l.arena l.keys l.place
