use Rattle.std.proofs.Common.{◌≡◌, ◌-◌, ◌<◌, List, [], ◌∷◌, length, refl, sym, ap, arith}
use Rattle.std.proofs.lemmas.List.Edits.{length-remove}
use Rattle.unlink_race.proofs.table.Table.clear.Goals as goal

none_left : {X : Type 0} (xs : List X) → length xs ≡ 0 → xs ≡ []
none_left [] is = refl
none_left (x ∷ xs) is = absurd (omega (arith, is))

pub loop-place-init : goal.loop-place-init
loop-place-init c = sym c.len-place.ensures.len

pub remove-requires : goal.remove-requires
remove-requires c = omega (arith, c.loop-place.invariant, c.loop-place-test.true)

pub loop-place-preserved : goal.loop-place-preserved
loop-place-preserved c =
    let within : c.loop-place.place - 1 < length c.loop-place.self = omega (arith, c.loop-place.invariant, c.loop-place-test.true) in
    let shorter = length-remove c.loop-place.self (c.loop-place.place - 1) within in
    let rest = ap length c.remove.ensures.rest in
    omega (arith, shorter, rest, c.loop-place.invariant, c.loop-place-test.true)

pub returns : goal.returns
returns c = none_left c.loop-place.self (omega (arith, c.loop-place.invariant, c.loop-place-test.false))
