use Rattle.std.proofs.Common.{◌∙◌, sym}
use Rattle.unlink_race.specs.Searches.{waits_for}
use Rattle.unlink_race.proofs.Firsts.{took_first, took_none}
use Rattle.unlink_race.proofs.table.Table.take_waiting.Goals as goal

pub returns-in_err-place-clause-found : goal.returns-in_err-place-clause-found
returns-in_err-place-clause-found c = c.from_residual.ensures ∙ (took_none (waits_for c.args.ep) c.args.self.now (sym c.place_waiting.ensures ∙ c.in_err-place.was)).0

pub returns-in_err-place-clause-rest : goal.returns-in_err-place-clause-rest
returns-in_err-place-clause-rest c = (took_none (waits_for c.args.ep) c.args.self.now (sym c.place_waiting.ensures ∙ c.in_err-place.was)).1

pub returns-clause-found : goal.returns-clause-found
returns-clause-found c = sym c.remove.ensures.live ∙ (took_first (waits_for c.args.ep) c.args.self.now c.in_ok-place.place (sym c.place_waiting.ensures ∙ c.in_ok-place.was)).0

pub returns-clause-rest : goal.returns-clause-rest
returns-clause-rest c = c.remove.ensures.rest ∙ (took_first (waits_for c.args.ep) c.args.self.now c.in_ok-place.place (sym c.place_waiting.ensures ∙ c.in_ok-place.was)).1
