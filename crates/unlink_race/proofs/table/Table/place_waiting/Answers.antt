use Rattle.std.proofs.Common.{sym, ◌∙◌}
use Rattle.unlink_race.specs.Searches.{waits_for}
use Rattle.unlink_race.proofs.Searching.{keyed, waiting_is, search_gives, unplaced}
use Rattle.unlink_race.proofs.table.Table.place_waiting.Goals as goal

pub earliest_in_lane-requires-clause-keys : goal.earliest_in_lane-requires-clause-keys
earliest_in_lane-requires-clause-keys c = keyed c.self.invariant.0

pub returns-in_err-rank : goal.returns-in_err-rank
returns-in_err-rank c =
    let earliest_is = waiting_is c.self.invariant.0 c.args.ep c.byte.result c.index.result c.byte.ensures.value c.index.ensures.value c.index.ensures.in_range in
    c.from_residual.ensures ∙ sym (unplaced c.self.invariant.0 c.self.view_is (waits_for c.args.ep) (sym earliest_is ∙ sym c.earliest_in_lane.ensures ∙ c.in_err-rank.was))

pub returns : goal.returns
returns c =
    let earliest_is = waiting_is c.self.invariant.0 c.args.ep c.byte.result c.index.result c.byte.ensures.value c.index.ensures.value c.index.ensures.in_range in
    search_gives c.self.invariant.0 c.self.view_is (waits_for c.args.ep) c.deref.result.now c.place_ranked.result c.in_ok-rank.rank c.self.inside.next c.deref.ensures (sym earliest_is ∙ sym c.earliest_in_lane.ensures ∙ c.in_ok-rank.was) c.self.invariant.2 c.place_ranked.ensures
