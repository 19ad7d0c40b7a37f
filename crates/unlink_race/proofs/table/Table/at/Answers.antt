use Rattle.std.proofs.Common.{◌≡◌, get_or, ap, sym, ◌∙◌}
use Rattle.std.specs.Option.{option_copied}
use Rattle.unlink_race.proofs.Tables.{found_at, read_at}
use Rattle.unlink_race.proofs.Told.{lent}
use Rattle.unlink_race.proofs.table.Table.at.Goals as goal

pub unwrap-requires : goal.unwrap-requires
unwrap-requires c =
    let key = c.index-deref-place.result in
    let read : key ≡ get_or c.self.inside.keys c.args.place key = rw (← c.deref.ensures) c.index-deref-place.is in
    let found = found_at c.self.invariant.0 c.self.view_is c.args.place key c.requires read in
    lent c.get.result found.0 (c.get.ensures ∙ found.1)

pub returns : goal.returns
returns c =
    let key = c.index-deref-place.result in
    let read : key ≡ get_or c.self.inside.keys c.args.place key = rw (← c.deref.ensures) c.index-deref-place.is in
    read_at c.self.invariant.0 c.self.view_is c.args.place key c.unwrap.result.now c.requires read (sym c.get.ensures ∙ ap option_copied c.unwrap.ensures)
