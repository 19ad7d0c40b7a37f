use Rattle.std.proofs.Common.{◌<◌, length, sym, ap, ◌∙◌, subst}
use Rattle.std.specs.Option.{option_copied}
use Rattle.unlink_race.specs.Searches.{ended_by}
use Rattle.unlink_race.specs.Inner.Rest.{rest_at, Stands, key_of_first}
use Rattle.unlink_race.proofs.Told.{lent}
use Rattle.unlink_race.proofs.Walks.{found, passes, walked, nearer, next_stands}
use Rattle.unlink_race.proofs.search.first_from.Goals as goal

pub unwrap-entry-requires : goal.unwrap-entry-requires
unwrap-entry-requires c =
    let there = found c.args.arena.now.lanes c.requires.keys (ended_by c.args.end.now) c.in-Some.key (subst (λ o. Stands o c.args.arena.now.lanes) c.in-Some.is c.loop-next.invariant.0) in
    lent c.get.result there.0 (c.get.ensures ∙ there.1)

pub returns-then-ends_with : goal.returns-then-ends_with
returns-then-ends_with c =
    let stands = subst (λ o. Stands o c.args.arena.now.lanes) c.in-Some.is c.loop-next.invariant.0 in
    let is = sym c.get.ensures ∙ ap option_copied c.unwrap-entry.ensures in
    sym (c.loop-next.invariant.1 ∙ ap (λ o. key_of_first (ended_by c.args.end.now) (rest_at o c.args.arena.now.lanes)) c.in-Some.is ∙ passes c.args.arena.now.lanes c.requires.keys (ended_by c.args.end.now) c.in-Some.key stands c.unwrap-entry.result.now is (sym c.ends_with.ensures ∙ c.if-ends_with.true))

pub loop-next-smaller : goal.loop-next-smaller
loop-next-smaller c =
    let stands = subst (λ o. Stands o c.args.arena.now.lanes) c.in-Some.is c.loop-next.invariant.0 in
    let less = nearer c.args.arena.now.lanes c.requires.keys (ended_by c.args.end.now) c.in-Some.key stands c.next-next.result c.next-next.ensures in
    subst (λ o. length (rest_at c.next-next.result c.args.arena.now.lanes) < length (rest_at o c.args.arena.now.lanes)) (sym c.in-Some.is) less

pub loop-next-preserved : goal.loop-next-preserved
loop-next-preserved c =
    let stands = subst (λ o. Stands o c.args.arena.now.lanes) c.in-Some.is c.loop-next.invariant.0 in
    let is = sym c.get.ensures ∙ ap option_copied c.unwrap-entry.ensures in (
      next_stands c.args.arena.now.lanes c.requires.keys (ended_by c.args.end.now) c.in-Some.key stands c.next-next.result c.next-next.ensures,
      c.loop-next.invariant.1
          ∙ ap (λ o. key_of_first (ended_by c.args.end.now) (rest_at o c.args.arena.now.lanes)) c.in-Some.is
          ∙ walked c.args.arena.now.lanes c.requires.keys (ended_by c.args.end.now) c.in-Some.key stands c.next-next.result c.next-next.ensures c.unwrap-entry.result.now is (sym c.ends_with.ensures ∙ c.if-ends_with.false),
    )
