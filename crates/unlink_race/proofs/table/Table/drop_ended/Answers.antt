use Rattle.std.proofs.Common.{◌≡◌, ◌∙◌, ap, Bool, not, length, sym, true, false, Some, arith}
use Rattle.unlink_race.specs.declared.live.Live.{Live}
use Rattle.unlink_race.specs.declared.live.StreamEnd.{StreamEnd}
use Rattle.unlink_race.specs.Searches.{ended_by}
use Rattle.unlink_race.proofs.Passing.{none_tried, untried_stand, step_tried, tried_from}
use Rattle.unlink_race.proofs.table.Table.drop_ended.Goals as goal

abbrev stays : StreamEnd → Live → Bool
stays end live = not (ended_by end live)

pub loop-place-init : goal.loop-place-init
loop-place-init c = rw c.len-place.ensures.len (none_tried (stays c.args.end.now) c.args.self.now)

pub at-requires : goal.at-requires
at-requires c =
    let stand = untried_stand (stays c.args.end.now) c.args.self.now c.loop-place.place (omega (arith, c.loop-place.auto.place, c.len-place.ensures.len)) in
    let long = ap length c.loop-place.invariant in
    omega (arith, stand, long, c.loop-place-test.true)

pub remove-requires : goal.remove-requires
remove-requires c =
    let stand = untried_stand (stays c.args.end.now) c.args.self.now c.loop-place.place (omega (arith, c.loop-place.auto.place, c.len-place.ensures.len)) in
    let long = ap length c.loop-place.invariant in
    omega (arith, stand, long, c.loop-place-test.true)

pub loop-place-preserved-then-ends_with : goal.loop-place-preserved-then-ends_with
loop-place-preserved-then-ends_with c =
    let same : Some c.at.result.now ≡ Some c.remove.result = sym c.at.ensures ∙ c.remove.ensures.live in
    let one : c.at.result.now ≡ c.remove.result = cc in
    let fails : stays c.args.end.now c.remove.result ≡ false = ap not (sym (c.ends_with.ensures ∙ ap (λ (live : Live). ended_by c.args.end.now live) one) ∙ c.if-ends_with.true) in
    c.remove.ensures.rest ∙ step_tried (stays c.args.end.now) c.args.self.now c.loop-place.self c.loop-place.place c.remove.result false c.loop-place-test.true (omega (arith, c.loop-place.auto.place, c.len-place.ensures.len)) c.loop-place.invariant c.remove.ensures.live fails

pub loop-place-preserved : goal.loop-place-preserved
loop-place-preserved c =
    let stand = untried_stand (stays c.args.end.now) c.args.self.now c.loop-place.place (omega (arith, c.loop-place.auto.place, c.len-place.ensures.len)) in
    let long = ap length c.loop-place.invariant in
    let passes : stays c.args.end.now c.at.result.now ≡ true = ap not (sym c.ends_with.ensures ∙ c.if-ends_with.false) in
    step_tried (stays c.args.end.now) c.args.self.now c.loop-place.self c.loop-place.place _ true c.loop-place-test.true (omega (arith, c.loop-place.auto.place, c.len-place.ensures.len)) c.loop-place.invariant c.at.ensures passes

pub returns : goal.returns
returns c =
    let all : c.loop-place.place ≡ 0 = omega (arith, c.loop-place-test.false) in
    c.loop-place.invariant ∙ ap (λ i. tried_from (stays c.args.end.now) i c.args.self.now) all
