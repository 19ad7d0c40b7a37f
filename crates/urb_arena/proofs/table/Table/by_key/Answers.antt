use Rattle.urb_arena.proofs.Keys.{table_by_key}
use Rattle.urb_arena.proofs.table.Table.by_key.Goals as goal

pub returns : goal.returns
returns g c = table_by_key c.args.self.now c.requires
