use Rattle.std.proofs.Common.{refl, sym, ◌∙◌}
use Rattle.unlink_race.specs.Inner.Indexed.{found_by}
use Rattle.unlink_race.proofs.Searching.{led, led_nowhere, search_gives, unplaced}
use Rattle.unlink_race.proofs.Tables.{standing}
use Rattle.unlink_race.proofs.table.Table.place_found.Goals as goal

pub returns-in_err-key : goal.returns-in_err-key
returns-in_err-key c =
    c.from_residual.ensures ∙ sym (unplaced c.self.invariant.0 c.self.view_is (found_by c.args.by c.args.number) (led_nowhere c.self.invariant.0 c.self.view_is (found_by c.args.by c.args.number) c.first.result (c.first.ensures _ _ c.self.invariant.1 (standing c.self.invariant.0 refl)) c.in_err-key.was))

pub returns : goal.returns
returns c =
    let found = led c.self.invariant.0 c.self.view_is (found_by c.args.by c.args.number) c.first.result (c.first.ensures _ _ c.self.invariant.1 (standing c.self.invariant.0 refl)) c.in_ok-key.key c.in_ok-key.was in
    search_gives c.self.invariant.0 c.self.view_is (found_by c.args.by c.args.number) c.deref.result.now c.place_of_key.result found.entry.0 c.self.inside.next c.deref.ensures found.rank c.self.invariant.2 (λ high kept rises. c.place_of_key.ensures high found.entry kept rises found.is)
