use Rattle.std.proofs.Common.{sym, refl, ◌∙◌}
use Rattle.std.proofs.lemmas.Bool.{iff_false}
use Rattle.urb_arena.proofs.Views.{table_dead, table_found}
use Rattle.urb_arena.proofs.table.Table.get.Goals as goal

pub returns-then-not-is_live : goal.returns-then-not-is_live
returns-then-not-is_live g c = sym (table_dead c.args.self.now c.requires c.args.place (iff_false c.if-not-is_live.ensures refl)).0

pub returns : goal.returns
returns g c = sym (table_found c.args.self.now c.requires c.args.place (c.if-not-is_live.ensures.0 refl) ∙ c.lend.ensures)
