use Rattle.std.proofs.Common.{ap, ◌∙◌}
use mir.Val.{bool_byte}
use Rattle.unlink_race.specs.Searches.{changes}
use Rattle.unlink_race.proofs.Counts.{one_for}
use Rattle.unlink_race.proofs.index.change_of.Goals as goal

pub returns : goal.returns
returns c = c.from.ensures ∙ ap bool_byte c.is_change.ensures ∙ one_for (changes c.args.live.now)
