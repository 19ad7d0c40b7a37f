use Rattle.std.proofs.Common.{◌+◌, ◌-◌, ℕ, List, take, drop, ap, ◌∙◌, arith}
use Rattle.usb_base.proofs.Blocks.{put-there, cut-out}
use Rattle.usb_base.proofs.receive_buffer.ReceiveBuffer.move_to_spare.Goals as goal

pub returns-in_ok-put_at : goal.returns-in_ok-put_at
returns-in_ok-put_at c =
    let own = c.self.inside in
    let n = own.end - own.front in
    ap (λ (b : List ℕ). drop 64 (take (64 + n) b)) (ap (λ b. b.items) c.swap.ensures.y_after)
    ∙ put-there c.lengthen.new.block.items c.put_at.new.block.items _ 64 n c.in_ok-lengthen.ensures.ok (omega (arith, c.deref.ensures.len, c.self.invariant)) c.in_ok-put_at.ensures.ok
    ∙ ap (λ (b : List ℕ). take n (drop own.front b)) c.deref.ensures.value
    ∙ cut-out own.block.items own.front own.end c.self.invariant.0
    ∙ c.self.view_is
