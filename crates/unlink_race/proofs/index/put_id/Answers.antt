use Rattle.std.proofs.Common.{◌≡◌, ◌++◌, ◌∷◌, [], not, false, cond, ap, sym, ◌∙◌}
use Rattle.std.proofs.lemmas.List.{append-nil}
use Rattle.unlink_race.specs.declared.by_number.By.TheVariants.{Id}
use Rattle.unlink_race.specs.Searches.{goes_by_id}
use Rattle.unlink_race.specs.Inner.Indexed.{any_by, number_by, column}
use Rattle.unlink_race.proofs.Indexes.{same_column, column_pushed}
use Rattle.unlink_race.proofs.index.put_id.Goals as goal

pub returns-else-not-is_stream : goal.returns-else-not-is_stream
returns-else-not-is_stream c =
    λ requests stand o.
    let away : goes_by_id c.args.live.now ≡ false = ap not (sym c.is_stream.ensures ∙ c.if-not-is_stream.false) in
    same_column o _ (column_pushed (any_by Id) (number_by Id) requests (c.args.key, c.args.live.now) ∙ ap (λ b. column (any_by Id) (number_by Id) requests ++ cond b ((c.args.live.now.id, c.args.key) ∷ []) []) away ∙ append-nil (column (any_by Id) (number_by Id) requests))
