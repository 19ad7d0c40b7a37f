use Rattle.std.proofs.Common.{rules, ◌∙◌}
use Rattle.std.proofs.lemmas.Fn.{always_returns_same}
use Rattle.unlink_race.proofs.Halving.{rank_at, rank_first, halved}
use Rattle.unlink_race.proofs.table.place_ranked.Goals as goal

pub returns-then-is_first : goal.returns-then-is_first
returns-then-is_first c =
    λ high kept rises.
    let first = c.is_first.ensures c.if-is_first.true in
    rank_first c.args.arena.now c.args.keys.now kept high rises c.args.rank first.0 first.1

pub returns : goal.returns
returns c =
    λ high kept rises.
    let facts = c.binary_search_by_key-found.ensures in
    let found = facts.position (rank_at c.args.arena.now) (always_returns_same _ _ _ (λ a r g called. search rules)) in
    c.ok.ensures.value ∙ halved c.args.arena.now c.args.keys.now kept high rises c.args.rank c.binary_search_by_key-found.result facts.bound found
