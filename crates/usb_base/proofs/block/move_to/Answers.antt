use Rattle.std.proofs.Common.{◌≡◌, ◌+◌, ◌-◌, ◌++◌, ℕ, take, drop, ap, sym, ◌∙◌, arith, length-drop}
use Rattle.std.proofs.lemmas.List.{drop-take}
use Rattle.std.proofs.lemmas.List.Edits.{take-paste}
use Rattle.usb_base.proofs.block.move_to.Goals as goal

pub returns-clause-bytes : goal.returns-clause-bytes
returns-clause-bytes c =
    let xs = c.args.block.now.items in
    let n = c.args.end - c.args.from in
    let whole : c.args.from + n ≡ c.args.end = omega (arith, c.requires.some) in
    ap (take (c.args.place + n)) c.copy_within.ensures.items
    ∙ take-paste xs c.args.place (drop c.args.from xs) n (omega (arith, c.requires)) (omega (arith, c.requires, length-drop c.args.from xs))
    ∙ ap (λ ys. take c.args.place xs ++ ys) (sym (drop-take c.args.from n xs) ∙ ap (λ (m : ℕ). drop c.args.from (take m xs)) whole)
