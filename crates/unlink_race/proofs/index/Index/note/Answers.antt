use Rattle.std.proofs.Common.{◌+◌, refl, ap, arith}
use Rattle.std.specs.List.{zip}
use Rattle.unlink_race.proofs.Indexes.{index_pushed, seqnum_room, held_room, changes_few}
use Rattle.unlink_race.proofs.index.Index.note.Goals as goal

pub put-requires : goal.put-requires
put-requires c = let few = seqnum_room c.requires.3 in omega (arith, few, c.requires.2)

pub put_id-requires : goal.put_id-requires
put_id-requires c = let few = held_room c.requires.3 in omega (arith, few, c.requires.2)

pub overflow_add-self : goal.overflow_add-self
overflow_add-self c = let few = changes_few c.requires.3 in grind (arith, few, c.requires.2, c.change_of.ensures)

pub returns : goal.returns
returns c =
    λ keys lives indexed stand.
    let more = ap (λ k. c.args.self.now.changes + k) c.change_of.ensures in
    index_pushed indexed _ c.args.key c.args.live.now (c.put.ensures (zip keys lives) stand indexed.seqnums refl) (c.put_id.ensures (zip keys lives) stand indexed.held) more
