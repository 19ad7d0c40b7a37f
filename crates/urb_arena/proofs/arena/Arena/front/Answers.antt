use Rattle.std.proofs.Common.{ap, arith, length}
use Rattle.urb_arena.specs.ArenaView.{ArenaView}
use Rattle.urb_arena.proofs.Ends.{lanes_length}
use Rattle.urb_arena.proofs.arena.Arena.front.Goals as goal

pub front-requires : goal.front-requires
front-requires g c =
    let long = lanes_length c.self.inside.table c.self.invariant in let same = ap (λ (s : ArenaView g.row.T.Denot). length s.lanes) c.self.view_is in let lt = c.requires in
    (c.self.invariant, omega (arith, long, same, lt))
