use Rattle.urb_arena.proofs.Joins.{shifted}
use Rattle.urb_arena.proofs.cells.Block.shift.Goals as goal

pub returns-clause-links : goal.returns-clause-links
returns-clause-links g c =
    shifted c.args.self.now.links c.set_next.new.self.links c.set_prev.new.self.links c.set_next-2.new.self.links c.set_prev-2.new.self.links c.write.new.self.links c.args.at c.args.end c.link-prev.result c.link-last.result
    c.link-prev.ensures.value c.set_next.ensures.links c.set_prev.ensures.links c.link-last.ensures.value c.set_next-2.ensures.links c.set_prev-2.ensures.links c.write.ensures.links
