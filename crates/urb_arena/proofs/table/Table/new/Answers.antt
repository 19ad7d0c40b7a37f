use Rattle.std.proofs.Common.{◌≡◌, ◌+◌, ℕ, refl, sym, subst, ◌∙◌, arith}
use Rattle.urb_arena.specs.Inner.Turns.{Started}
use Rattle.urb_arena.specs.declared.table.Table.{Table}
use Rattle.urb_arena.proofs.Starts.{IsTable-start}
use Rattle.urb_arena.proofs.table.Table.new.Goals as goal

pub returns : goal.returns
returns g c =
    let v = c.loop-at.invariant in let ended = c.loop-at-test.false in let far = v.1 in
    let t : Table g.row.T.Denot = record { base = c.in_ok-base.base; block = c.loop-at.block; deed = c.in_ok-base.deed; alloc = c.args.alloc; capacity = c.args.capacity; lanes = c.args.lanes; len = 0 } in
    let n : ℕ = c.args.lanes + 1 + c.args.capacity in let all : c.loop-at.at ≡ n = omega (arith, ended, far) in
    let made = IsTable-start t (sym v.2, v.6, v.7 ∙ sym v.3, v.8) (v.9, v.10) v.3 (subst (λ k. Started c.loop-at.block.links c.args.lanes n k) all v.5) v.4 refl in
    (made.0, refl, made.1)
