use Rattle.std.proofs.Common.{ap, is_some, ◌∙◌}
use Rattle.std.specs.List.{list_any}
use Rattle.unlink_race.specs.Searches.{has_number}
use Rattle.unlink_race.proofs.Indexes.{zip_any}
use Rattle.unlink_race.proofs.Tables.{indexed, standing}
use Rattle.unlink_race.proofs.table.Table.has_seqnum.Goals as goal

pub returns : goal.returns
returns c =
    let index = indexed c.self.view_is c.self.invariant.1 in
    c.is_some.ensures ∙ ap is_some (c.first.ensures _ c.args.self.now index (standing c.self.invariant.0 c.self.view_is)) ∙ zip_any (has_number c.from.result) _ c.args.self.now index.long ∙ ap (λ n. list_any (has_number n) c.args.self.now) c.from.ensures
