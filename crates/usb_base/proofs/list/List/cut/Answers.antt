use Rattle.std.proofs.Common.{◌≤◌, ◌+◌, ap, sym, ◌∙◌, drop, take, length, arith, length-drop, length-take}
use Rattle.std.proofs.lemmas.List.{drop-take, take-take}
use Rattle.usb_base.proofs.list.List.cut.Goals as goal

pub returns : goal.returns
returns g c =
    let own = c.self.inside in
    let items = own.items.items in
    let n = own.front + c.args.len in
    let all = take own.end items in
    let within : n ≤ own.end = omega (arith, length-drop own.front all, length-take own.end items, c.self.invariant, c.requires, ap (λ xs. length xs) c.self.view_is) in
    ap (drop own.front) (ap (take n) c.truncate.ensures.items ∙ take-take n n items (omega arith) ∙ sym (take-take n own.end items within))
    ∙ drop-take own.front c.args.len all
    ∙ ap (take c.args.len) c.self.view_is
