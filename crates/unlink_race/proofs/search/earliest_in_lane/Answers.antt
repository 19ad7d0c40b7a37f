use Rattle.std.proofs.Common.{◌≡◌, ℕ, Bool, List, [], get_or, option_map, Some, None, refl, sym, ap, ◌∙◌}
use Rattle.urb_arena.specs.Lanes.{find_in, ByKey}
use Rattle.unlink_race.specs.declared.live.Live.{Live}
use Rattle.unlink_race.specs.Searches.{ended_by}
use Rattle.unlink_race.specs.Inner.Earliest.{earliest}
use Rattle.unlink_race.specs.Inner.Rest.{key_of_first}
use Rattle.unlink_race.proofs.Earliest.{first_rank, earliest_passing}
use Rattle.unlink_race.proofs.Walks.{Entries, values, from_front, front_stands, came, none_came}
use Rattle.unlink_race.proofs.search.earliest_in_lane.Goals as goal

none_earliest : (test : Live → Bool) (ps : Entries) → key_of_first test ps ≡ None → earliest test (values ps) ≡ None
none_earliest test ps first = earliest_passing test (values ps) ∙ ap first_rank (none_came test ps first)

-- the rank of the first that passes
rank_came : (pss : List Entries) (by_key : ByKey pss) (test : Live → Bool) (lane k : ℕ) → key_of_first test (get_or pss lane []) ≡ Some k → option_map (λ (e : ℕ × Live). e.0) (find_in k pss) ≡ earliest test (values (get_or pss lane []))
rank_came pss by_key test lane k first =
    let there = came pss by_key test (get_or pss lane []) k (record { lane = lane; before = []; split = refl }) first in
    ap (option_map (λ (e : ℕ × Live). e.0)) there.is ∙ sym (earliest_passing test (values (get_or pss lane [])) ∙ ap first_rank there.left)

pub first_from-requires-clause-stands : goal.first_from-requires-clause-stands
first_from-requires-clause-stands c = front_stands c.args.arena.now.lanes c.requires.keys c.args.lane c.front.result c.front.ensures

pub returns-in_err-first_from : goal.returns-in_err-first_from
returns-in_err-first_from c =
    let lane = from_front c.args.arena.now.lanes c.requires.keys c.args.lane c.front.result c.front.ensures in
    c.from_residual.ensures ∙ sym (none_earliest (ended_by c.args.end.now) (get_or c.args.arena.now.lanes c.args.lane []) (ap (key_of_first (ended_by c.args.end.now)) (sym lane) ∙ sym c.first_from.ensures ∙ c.in_err-first_from.was))

pub returns : goal.returns
returns c =
    let lane = from_front c.args.arena.now.lanes c.requires.keys c.args.lane c.front.result c.front.ensures in
    c.rank_of.ensures ∙ rank_came c.args.arena.now.lanes c.requires.keys (ended_by c.args.end.now) c.args.lane c.in_ok-first_from.field-0 (ap (key_of_first (ended_by c.args.end.now)) (sym lane) ∙ sym c.first_from.ensures ∙ c.in_ok-first_from.was)
