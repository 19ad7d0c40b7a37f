use Rattle.chapter9.proofs.Walks.{Walking-next}
use Rattle.chapter9.proofs.descriptors.walk.Goals as goal

pub loop-place-preserved : goal.loop-place-preserved
loop-place-preserved c =
    let found = rw c.behind-rest.ensures at c.in-Some-part.ensures in
    rw (c.from-place-in-loop-place.ensures, c.in_ok-push-2.ensures.ok, c.behind-rest.ensures)
    (Walking-next c.args.blob.now c.loop-place.place c.loop-place.parts c.in-Some-part.part c.loop-place.invariant c.loop-place-test.true found)
