use Rattle.std.proofs.Common.{◌≡◌, ◌+◌, ap, subst, ◌∙◌, arith, [], get_or, MatchOption}
use Rattle.urb_arena.proofs.Ends.{first_found, still_empty, counts_none, lanes_length}
use Rattle.urb_arena.proofs.table.Table.clear.Goals as goal

pub loop-lane-preserved-in-Some : goal.loop-lane-preserved-in-Some
loop-lane-preserved-in-Some g c =
    let v = c.loop-lane.invariant in let t = c.remove.ensures.table in let low = v.1 in let m = t.1 in
    (t.0, omega (arith, low, m), t.1 ∙ v.2, t.2 ∙ v.3, λ r lt. ap (λ pss. get_or pss r []) c.remove.ensures.lanes ∙ still_empty _ _ r (v.4 r lt))

pub loop-lane-smaller-in-Some-2 : goal.loop-lane-smaller-in-Some-2
loop-lane-smaller-in-Some-2 g c =
    let found = first_found _ _ c.loop-lane.lane c.in-Some.ensures in let m = c.remove.ensures.table.1 in
    let less = subst (λ r. MatchOption r (c.remove.new.self ≡ c.loop-lane.self) (λ _. c.remove.new.self.len + 1 ≡ c.loop-lane.self.len)) (c.remove.ensures.value ∙ found.1) c.remove.ensures.len in
    omega (arith, less, m)

pub returns : goal.returns
returns g c =
    let v = c.loop-lane.invariant in let ended = c.loop-lane-test.false in let long = lanes_length c.loop-lane.self v.0 in
    (v.0, counts_none _ (λ r lt. v.4 r (omega (arith, lt, ended, long))), v.2, v.3)
