use Rattle.std.proofs.Common.{ap, ltb, sym, ◌∙◌}
use Rattle.unlink_race.specs.Searches.{changes}
use Rattle.unlink_race.proofs.Counts.{some_counted}
use Rattle.unlink_race.proofs.index.Index.has_change.Goals as goal

pub returns : goal.returns
returns c = λ keys lives indexed. ap (ltb 0) indexed.changes ∙ sym (some_counted changes lives)
