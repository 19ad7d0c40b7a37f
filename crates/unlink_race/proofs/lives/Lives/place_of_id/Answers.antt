use Rattle.std.proofs.Common.{ap, ◌∙◌}
use Rattle.std.specs.List.{position}
use Rattle.unlink_race.specs.Searches.{has_id}
use Rattle.unlink_race.proofs.Held.{held}
use Rattle.unlink_race.proofs.lives.Lives.place_of_id.Goals as goal

pub returns : goal.returns
returns c = c.place_of_id.ensures ∙ ap (position (has_id c.args.id)) (held c.args.self.now c.self.inside.client_gone c.self.inside.table c.self.view_is)
