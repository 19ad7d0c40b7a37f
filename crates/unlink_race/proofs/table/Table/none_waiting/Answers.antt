use Rattle.unlink_race.proofs.Searching.{keyed}
use Rattle.unlink_race.proofs.table.Table.none_waiting.Goals as goal

pub none-requires : goal.none-requires
none-requires c = keyed c.self.invariant.0
