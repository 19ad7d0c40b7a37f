use Rattle.std.proofs.Common.{sym, ap, subst, ◌∙◌}
use Rattle.unlink_race.specs.Inner.Listed.{IsKeyed}
use Rattle.unlink_race.specs.Inner.Sound.{entry_of, lives_of}
use Rattle.urb_arena.specs.Distinct.{itself}
use Rattle.unlink_race.proofs.table.Table.iter.Goals as goal

pub new-requires : goal.new-requires
new-requires c = subst (IsKeyed itself (entry_of c.self.inside.arena)) (sym c.deref.ensures) c.self.invariant.0.kept

pub returns : goal.returns
returns c = c.new.ensures ∙ ap (lives_of c.self.inside.arena) c.deref.ensures ∙ c.self.view_is
