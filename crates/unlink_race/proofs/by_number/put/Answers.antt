use Rattle.std.proofs.Common.{length, ap, ◌∙◌, arith}
use Rattle.std.proofs.lemmas.List.{length-map}
use Rattle.unlink_race.proofs.Reading.{key_in, order_reads, order_put}
use Rattle.unlink_race.proofs.by_number.put.Goals as goal

pub returns : goal.returns
returns c =
    λ requests stand o found.
    let ordering = o.ordering in
    let reads = order_reads c.args.by c.args.arena.now.lanes requests o.pairs stand ordering in
    let same = c.deref.ensures ∙ o.keys_are in
    let parted = c.place_behind-place.ensures.parted o.pairs same reads o.rises in
    let long = ap length same ∙ length-map o.pairs key_in in
    let before = rw c.of.ensures at parted.0 in
    let behind = rw c.of.ensures at parted.1 in
    rw c.insert.ensures (order_put o c.place_behind-place.result c.args.key c.args.live.now (omega (arith, c.place_behind-place.ensures.bound, long)) before behind found)
