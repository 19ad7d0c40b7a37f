use Rattle.std.proofs.Common.{List, length, slice_get, sym, ap, ◌∙◌, arith}
use Rattle.unlink_race.specs.declared.live.Live.{Live}
use Rattle.unlink_race.proofs.Held.{held}
use Rattle.unlink_race.proofs.lives.Lives.held_at.Goals as goal

pub at-requires : goal.at-requires
at-requires c = omega (arith, c.requires, ap length (held c.args.self.now c.self.inside.client_gone c.self.inside.table c.self.view_is))

pub returns : goal.returns
returns c =
    ap (λ (ls : List Live). slice_get ls c.args.place) (sym (held c.args.self.now c.self.inside.client_gone c.self.inside.table c.self.view_is)) ∙ c.at.ensures
