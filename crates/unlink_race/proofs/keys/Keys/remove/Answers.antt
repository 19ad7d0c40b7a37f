use Rattle.std.proofs.Common.{◌+◌, drop, ap, ◌∙◌}
use Rattle.std.specs.List.{remove}
use Rattle.unlink_race.proofs.Moves.{front_moved, drop-remove}
use Rattle.unlink_race.proofs.keys.Keys.remove.Goals as goal

pub returns-then-place-behind-clause-rest : goal.returns-then-place-behind-clause-rest
returns-then-place-behind-clause-rest c =
    ap (drop (c.self.inside.front + 1)) c.copy.ensures ∙ front_moved c.self.inside.items.items c.self.inside.front c.args.place (rw c.self.view_is c.requires)
    ∙ ap (λ keys. remove keys c.args.place) c.self.view_is

pub returns-else-place-behind-clause-rest : goal.returns-else-place-behind-clause-rest
returns-else-place-behind-clause-rest c =
    ap (drop c.self.inside.front) c.take_at.ensures ∙ drop-remove c.self.inside.items.items c.self.inside.front c.args.place (rw c.self.view_is c.requires)
    ∙ ap (λ keys. remove keys c.args.place) c.self.view_is
