use Rattle.std.proofs.Common.{subst}
use Rattle.unlink_race.specs.Requests.{OneIsEmpty}
use Rattle.unlink_race.proofs.Held.{one_empty}
use Rattle.unlink_race.proofs.lives.Lives.one_is_empty.Goals as goal

pub returns : goal.returns
returns c = subst OneIsEmpty c.self.view_is (one_empty c.self.inside.client_gone c.self.inside.table)
