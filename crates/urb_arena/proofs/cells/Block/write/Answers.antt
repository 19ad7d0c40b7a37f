use Rattle.std.proofs.Common.{◌≡◌, length, subst, sym, Some}
use lib.ListN.{length-set}
use Rattle.urb_arena.specs.Inner.Turns.{Sound}
use Rattle.urb_arena.proofs.Joins.{Sound-with}
use Rattle.urb_arena.proofs.cells.Block.write.Goals as goal

pub returns-clause-sound : goal.returns-clause-sound
returns-clause-sound g c =
    let old = c.args.self.now.links in
    subst (λ ls. Sound ls × (length ls ≡ length old)) (sym c.set_links.ensures.1)
    (Sound-with old c.args.at c.args.links c.requires.1 c.requires.2 c.requires.4 c.requires.3, length-set old c.args.at (Some c.args.links))
