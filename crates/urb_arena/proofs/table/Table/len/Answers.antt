use Rattle.urb_arena.proofs.Views.{table_len, table_within}
use Rattle.urb_arena.proofs.table.Table.len.Goals as goal

pub returns-clause-len : goal.returns-clause-len
returns-clause-len g c = table_len c.args.self.now c.requires

pub returns-clause-within : goal.returns-clause-within
returns-clause-within g c = table_within c.args.self.now c.requires
