use Rattle.std.proofs.Common.{◌-◌, ap, ◌∙◌, drop, take}
use Rattle.usb_base.proofs.Blocks.{cut-out}
use Rattle.usb_base.proofs.list.List.as_slice.Goals as goal

pub returns : goal.returns
returns g c =
    let own = c.self.inside in
    ap (λ xs. take (own.end - own.front) (drop own.front xs)) c.deref.ensures.value ∙ cut-out own.items.items own.front own.end c.self.invariant.0 ∙ c.self.view_is
