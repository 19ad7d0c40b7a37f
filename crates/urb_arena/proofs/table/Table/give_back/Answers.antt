use Rattle.std.proofs.Common.{sym, ◌∙◌}
use Rattle.urb_arena.proofs.Ends.{emptied}
use Rattle.urb_arena.proofs.table.Table.give_back.Goals as goal

pub deallocate-requires : goal.deallocate-requires
deallocate-requires g c =
    let t = c.args.self in let is = c.requires.0 in
    (sym is.block.0, is.tied.size, emptied t is c.requires.1, is.block.1, is.block.2 ∙ is.tied.size, is.block.3)
