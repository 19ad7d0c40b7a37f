use Rattle.std.proofs.Common.{◌≡◌, ◌+◌, ◌++◌, ℕ, List, take, drop, ap, ◌∙◌, arith}
use Rattle.std.proofs.lemmas.List.{with_items_is}
use Rattle.usb_base.proofs.Blocks.{put-on, grown}
use Rattle.usb_base.proofs.receive_buffer.ReceiveBuffer.receive_from.Goals as goal

pub returns-clause-came : goal.returns-clause-came
returns-clause-came g c =
    let own = c.self.inside in
    let longer = c.lengthen.new.block in
    let now = c.read_at-count.new.block in
    let came = c.read_at-count.ensures.0 in
    let put = take c.read_at-count.result came.room in
    let same : take own.end longer.items ≡ take own.end own.block.items = grown own.block.items longer.items own.end c.self.invariant.1 c.lengthen.ensures.stands in (
      came,
      ap (λ (b : List ℕ). drop own.front (take (own.end + c.read_at-count.result) b)) (with_items_is longer now (omega (arith, c.read_at-count.auto.block, c.deref_mut.ensures.len)))
          ∙ put-on own.block.items now put own.front own.end c.read_at-count.result c.self.invariant.0 c.self.invariant.1 (c.read_at-count.ensures.1 ∙ ap (λ (b : List ℕ). b ++ put) (ap (take own.end) c.deref_mut.ensures.value ∙ same))
          ∙ ap (λ (b : List ℕ). b ++ put) (c.self.view_is ∙ c.make_room.ensures),
    )
