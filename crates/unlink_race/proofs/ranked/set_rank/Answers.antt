use Rattle.std.proofs.Common.{◌∙◌}
use Rattle.unlink_race.proofs.Told.{lent_mut}
use Rattle.unlink_race.proofs.ranked.set_rank.Goals as goal

pub unwrap-entry-requires : goal.unwrap-entry-requires
unwrap-entry-requires c = lent_mut c.get_mut.result c.requires.0 (c.get_mut.ensures.value ∙ c.requires.1)
