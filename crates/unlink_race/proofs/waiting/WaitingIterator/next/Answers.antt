use Rattle.std.proofs.Common.{◌≡◌, ℕ, List, [], length, map, sym, ap, ◌∙◌, subst, arith}
use Rattle.std.specs.Iterator.{YieldsFirstRef}
use Rattle.std.specs.Option.{option_copied}
use Rattle.unlink_race.specs.declared.live.Live.{Live}
use Rattle.unlink_race.specs.Searches.{ended_by}
use Rattle.unlink_race.specs.Inner.Rest.{rest_at}
use Rattle.unlink_race.proofs.Told.{lent}
use Rattle.unlink_race.proofs.Walks.{came_at, came_stands, came_lives, none_came}
use Rattle.unlink_race.proofs.waiting.WaitingIterator.next.Goals as goal

pub returns-in_err-key-clause-steps : goal.returns-in_err-key-clause-steps
returns-in_err-key-clause-steps c =
    let none = none_came (ended_by c.self.inside.end) (rest_at c.self.inside.next c.self.inside.arena.now.lanes) (sym c.first_from.ensures ∙ c.in_err-key.was) in
    let left : c.args.self.now ≡ [] = sym c.self.view_is ∙ ap (map (λ (e : ℕ × Live). e.1)) none in
    subst (λ r. YieldsFirstRef (λ (rest : List Live). rest) c.args.self.now r c.args.self.now) (sym c.from_residual.ensures) (left, left)

pub unwrap-requires : goal.unwrap-requires
unwrap-requires c =
    let there = came_at c.self.inside.arena.now.lanes c.self.invariant.0 (ended_by c.self.inside.end) c.self.inside.next c.in_ok-key.key (sym c.first_from.ensures ∙ c.in_ok-key.was) in
    lent c.get.result there.entry (c.get.ensures ∙ there.is)

pub invariant_of-self : goal.invariant_of-self
invariant_of-self c =
    (c.self.invariant.0, came_stands c.self.inside.arena.now.lanes c.self.invariant.0 (ended_by c.self.inside.end) c.self.inside.next c.in_ok-key.key (sym c.first_from.ensures ∙ c.in_ok-key.was) c.next-self-inside.result c.next-self-inside.ensures)

pub returns-clause-steps : goal.returns-clause-steps
returns-clause-steps c =
    sym c.self.view_is
    ∙ came_lives c.self.inside.arena.now.lanes c.self.invariant.0 (ended_by c.self.inside.end) c.self.inside.next c.in_ok-key.key (sym c.first_from.ensures ∙ c.in_ok-key.was) c.next-self-inside.result c.next-self-inside.ensures c.unwrap.result.now (sym c.get.ensures ∙ ap option_copied c.unwrap.ensures)

pub returns-clause-goes : goal.returns-clause-goes
returns-clause-goes c =
    let step = sym c.self.view_is
    ∙ came_lives c.self.inside.arena.now.lanes c.self.invariant.0 (ended_by c.self.inside.end) c.self.inside.next c.in_ok-key.key (sym c.first_from.ensures ∙ c.in_ok-key.was) c.next-self-inside.result c.next-self-inside.ensures c.unwrap.result.now (sym c.get.ensures ∙ ap option_copied c.unwrap.ensures) in
    let shorter = ap length step in
    record { on = λ h. (tt, tt, omega (arith, shorter)); keeps = tt; rests = λ h. tt }
