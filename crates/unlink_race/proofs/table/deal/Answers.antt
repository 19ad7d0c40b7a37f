use Rattle.std.proofs.Common.{◌<◌, length, arith}
use Rattle.unlink_race.proofs.Dealing.{has_entry, still_dealt, more_dealt, all_dealt}
use Rattle.unlink_race.proofs.table.deal.Goals as goal

pub set_rank-requires : goal.set_rank-requires
set_rank-requires c =
    let row = c.index-keys-place.result in
    let within : c.loop-place.place < length c.args.keys.now = omega (arith, c.loop-place-test.true) in
    (_, has_entry c.loop-place.invariant.0 c.loop-place.place row within c.index-keys-place.is)

pub loop-place-preserved : goal.loop-place-preserved
loop-place-preserved c =
    let dealt = c.loop-place.invariant in
    let row = c.index-keys-place.result in
    let within : c.loop-place.place < length c.args.keys.now = omega (arith, c.loop-place-test.true) in
    let made = c.set_rank.ensures _ (has_entry dealt.0 c.loop-place.place row within c.index-keys-place.is) in (
      still_dealt dealt.0 c.loop-place.place row within c.index-keys-place.is c.set_rank.new.arena made,
      more_dealt dealt.0 c.loop-place.place row within c.index-keys-place.is c.set_rank.new.arena made dealt.1,
    )

pub returns-clause-ranks : goal.returns-clause-ranks
returns-clause-ranks c =
    all_dealt c.loop-place.arena c.args.keys.now c.loop-place.place c.loop-place.invariant.0.kept (omega (arith, c.loop-place-test.false)) c.loop-place.invariant.1
