use Rattle.std.proofs.Common.{◌≡◌, not, false, cond, ap, sym, ◌∙◌}
use Rattle.std.specs.List.{remove}
use Rattle.unlink_race.specs.declared.by_number.By.TheVariants.{Id}
use Rattle.unlink_race.specs.Firsts.{without_first}
use Rattle.unlink_race.specs.Searches.{goes_by_id}
use Rattle.unlink_race.specs.Inner.Indexed.{any_by, number_by, column, is_pair}
use Rattle.unlink_race.proofs.Indexes.{same_column, column_removed}
use Rattle.unlink_race.proofs.index.take_id.Goals as goal

pub returns-else-not-is_stream : goal.returns-else-not-is_stream
returns-else-not-is_stream c =
    λ requests place stand o at apart.
    let away : goes_by_id c.args.live.now ≡ false = ap not (sym c.is_stream.ensures ∙ c.if-not-is_stream.false) in
    same_column o (remove requests place) (column_removed (any_by Id) (number_by Id) requests place (c.args.key, c.args.live.now) at apart ∙ ap (λ b. cond b (without_first (is_pair c.args.live.now.id c.args.key) (column (any_by Id) (number_by Id) requests)) (column (any_by Id) (number_by Id) requests)) away)
