use Rattle.std.proofs.Common.{length, ap, ◌∙◌, arith}
use Rattle.std.proofs.lemmas.List.Sums.{length-filter, count_by-le-length}
use Rattle.unlink_race.specs.Searches.{waits_for}
use Rattle.unlink_race.proofs.Searching.{keyed, lives_waiting, few_lives}
use Rattle.unlink_race.proofs.table.Table.waiting.Goals as goal

pub new-requires-clause-keys : goal.new-requires-clause-keys
new-requires-clause-keys c = keyed c.self.invariant.0

pub returns-clause-waits : goal.returns-clause-waits
returns-clause-waits c = c.new.ensures ∙ lives_waiting c.self.invariant.0 c.self.view_is c.args.ep c.byte.result c.index.result c.byte.ensures.value c.index.ensures.value c.index.ensures.in_range

pub returns-clause-bound : goal.returns-clause-bound
returns-clause-bound c =
    let is = c.new.ensures ∙ lives_waiting c.self.invariant.0 c.self.view_is c.args.ep c.byte.result c.index.result c.byte.ensures.value c.index.ensures.value c.index.ensures.in_range in
    let long = ap length is in
    omega (arith, long, few_lives c.self.invariant.0 c.self.view_is, length-filter (waits_for c.args.ep) c.args.self.now, count_by-le-length (waits_for c.args.ep) c.args.self.now)
