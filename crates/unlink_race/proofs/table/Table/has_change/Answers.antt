use Rattle.unlink_race.proofs.Tables.{indexed}
use Rattle.unlink_race.proofs.table.Table.has_change.Goals as goal

pub returns : goal.returns
returns c = c.has_change.ensures _ c.args.self.now (indexed c.self.view_is c.self.invariant.1)
