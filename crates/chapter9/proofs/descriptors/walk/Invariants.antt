use Rattle.std.proofs.Common.{◌-◌, length}
use Rattle.chapter9.proofs.descriptors.walk.Given as goal
use Rattle.chapter9.proofs.Walks.{Walking}

abbrev pub invariant-loop-place : goal.invariant-loop-place
invariant-loop-place l = Walking l.blob l.place l.parts

abbrev pub decreases-loop-place : goal.decreases-loop-place
decreases-loop-place l = length l.blob - l.place
