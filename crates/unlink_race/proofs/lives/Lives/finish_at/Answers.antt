use Rattle.std.proofs.Common.{◌<◌, List, length, slice_get, sym, ap, ◌∙◌, arith}
use Rattle.unlink_race.specs.declared.live.Live.{Live}
use Rattle.unlink_race.proofs.Held.{held, held_without}
use Rattle.unlink_race.proofs.lives.Lives.finish_at.Goals as goal

pub remove-requires : goal.remove-requires
remove-requires c = omega (arith, c.requires, ap length (held c.args.self.now c.self.inside.client_gone c.self.inside.table c.self.view_is))

pub returns-clause-found : goal.returns-clause-found
returns-clause-found c =
    ap (λ (ls : List Live). slice_get ls c.args.place) (sym (held c.args.self.now c.self.inside.client_gone c.self.inside.table c.self.view_is)) ∙ c.remove.ensures.live

pub returns-clause-rest : goal.returns-clause-rest
returns-clause-rest c =
    let whole = ap length (held c.args.self.now c.self.inside.client_gone c.self.inside.table c.self.view_is) in
    let within : c.args.place < length c.self.inside.table = omega (arith, c.requires, whole) in
    held_without c.args.self.now c.self.inside.client_gone c.self.inside.table c.remove.new.self c.args.place c.self.view_is within c.remove.ensures.rest
