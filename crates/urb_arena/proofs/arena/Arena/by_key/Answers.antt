use Rattle.std.proofs.Common.{subst, ap}
use Rattle.urb_arena.specs.ArenaView.{ArenaView}
use Rattle.urb_arena.specs.Lanes.{ByKey}
use Rattle.urb_arena.proofs.arena.Arena.by_key.Goals as goal

pub returns : goal.returns
returns g c = subst ByKey (ap (λ (s : ArenaView g.row.T.Denot). s.lanes) c.self.view_is) c.by_key.ensures
