use Rattle.std.proofs.Common.{◌≡◌, ◌+◌, ◌-◌, ℕ, take, drop, length, ap, sym, ◌∙◌, arith, length-drop}
use Rattle.std.proofs.lemmas.List.{drop_all, length-take}
use Rattle.usb_base.proofs.Blocks.{put-there}
use Rattle.usb_base.proofs.receive_buffer.ReceiveBuffer.settle.Goals as goal

pub returns-in_ok-lengthen : goal.returns-in_ok-lengthen
returns-in_ok-lengthen c =
    drop_all 64 (take 64 c.lengthen.new.block.items) (omega (arith, length-take 64 c.lengthen.new.block.items)) ∙ sym (c.is_empty.ensures.none.0 c.if-is_empty.true)

pub returns-then-is_movable : goal.returns-then-is_movable
returns-then-is_movable c =
    let own = c.self.inside in
    let bytes = drop own.front (take own.end own.block.items) in
    let count : own.end - own.front ≡ length bytes = omega (arith, length-drop own.front (take own.end own.block.items), length-take own.end own.block.items, c.self.invariant) in
    put-there own.block.items c.move_to.new.block.items bytes 64 (own.end - own.front) (omega (arith, c.if-self-gt-ROOM.true, c.self.invariant)) count
    (ap (λ (n : ℕ). take (64 + n) c.move_to.new.block.items) (sym count) ∙ c.move_to.ensures.bytes)
    ∙ c.self.view_is
