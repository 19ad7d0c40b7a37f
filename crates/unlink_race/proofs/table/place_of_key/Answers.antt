use Rattle.std.proofs.Common.{ℕ, get_or, ap, sym, ◌∙◌}
use Rattle.std.specs.Option.{option_map}
use Rattle.std.proofs.lemmas.Bool.{eqb-true}
use Rattle.std.proofs.lemmas.Option.{get_or_from_slice_get}
use Rattle.std.proofs.lemmas.Option.{slice_get_within}
use Rattle.unlink_race.specs.declared.live.Live.{Live}
use Rattle.unlink_race.proofs.Halving.{rank_at, rank_first}
use Rattle.unlink_race.proofs.table.place_of_key.Goals as goal

pub returns-in-Some : goal.returns-in-Some
returns-in-Some c =
    λ high entry kept rises found.
    let keys = c.args.keys.now in
    let first = c.in-Some.first.now in
    let there = sym c.in-Some.ensures.value in
    let read = get_or_from_slice_get keys 0 first 0 there in
    let same = eqb-true first c.args.key (sym c.eq.ensures ∙ c.if-eq.true) in
    rank_first c.args.arena.now keys kept high rises entry.0 (slice_get_within keys 0 first there) (ap (rank_at c.args.arena.now) (read ∙ same) ∙ ap (option_map (λ (e : ℕ × Live). e.0)) found)
