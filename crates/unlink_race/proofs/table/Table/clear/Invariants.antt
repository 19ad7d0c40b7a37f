use Rattle.std.proofs.Common.{◌≡◌, length}
use Rattle.unlink_race.proofs.table.Table.clear.Given as goal

-- so many are left
abbrev pub invariant-loop-place : goal.invariant-loop-place
invariant-loop-place l = length l.self ≡ l.place
