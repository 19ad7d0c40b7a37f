use Rattle.chapter9.proofs.Joins.{are_joined}
use Rattle.chapter9.proofs.descriptors.descriptors_join.Goals as goal

pub returns : goal.returns
returns c = are_joined
