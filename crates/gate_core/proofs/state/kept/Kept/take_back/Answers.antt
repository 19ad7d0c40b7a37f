use Rattle.std.proofs.Common.{◌∙◌, arith}
use Rattle.unlink_race.specs.Searches.{has_number}
use Rattle.gate_core.proofs.lemmas.state.Held.{among-both, number-taken, without-one}
use Rattle.gate_core.proofs.state.kept.Kept.take_back.Goals as goal

pub finish_at-requires : goal.finish_at-requires
finish_at-requires c = among-both (has_number c.requires.there.0) c.args.self.now.lives c.args.at c.requires.there.1

pub returns-clause-kept : goal.returns-clause-kept
returns-clause-kept c =
    let k = c.requires.kept in
    without-one c.args.self.now c.args.at c.finish_at.new.self c.args.self.now.answered c.saturating_add-self.result k c.finish_at.ensures.rest k.answered_fits (omega (arith, c.saturating_add-self.ensures))

pub returns-clause-taken : goal.returns-clause-taken
returns-clause-taken c target at =
    let lives = c.finish_at.ensures.rest ∙ number-taken (has_number target) c.args.self.now.lives c.args.at at in
    record { is = λ i. record c.args.self.now { lives = lives i; unlinked = c.saturating_add-self.ensures i } }
