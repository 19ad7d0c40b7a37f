use Rattle.std.proofs.Common.{◌≡◌, ◌≤◌, ◌+◌, ℕ, List, take, drop, length, ap, ◌∙◌, arith, length-drop}
use Rattle.std.proofs.lemmas.List.{length-take, drop-take}
use Rattle.usb_base.proofs.Blocks.{part-of}
use Rattle.usb_base.proofs.receive_buffer.ReceiveBufferPacketBytes.take_part.Goals as goal

pub returns-clause-part : goal.returns-clause-part
returns-clause-part c =
    let own = c.taken.inside in
    let bytes = drop own.front (take own.end own.block.items) in
    let same : bytes ≡ c.args.self.now = c.taken.view_is ∙ c.replace-taken.ensures.value ∙ c.in_spare-rest.ensures.stands in
    let within : own.front + c.args.from + c.args.len ≤ own.end = omega (arith, length-drop own.front (take own.end own.block.items), length-take own.end own.block.items, c.taken.invariant, c.requires, ap (λ (b : List ℕ). length b) same) in
    c.between.ensures ∙ drop-take (own.front + c.args.from) c.args.len own.block.items
    ∙ part-of own.block.items own.front own.end c.args.from c.args.len within
    ∙ ap (λ (b : List ℕ). take c.args.len (drop c.args.from b)) same
