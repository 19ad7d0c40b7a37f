use Rattle.std.proofs.Common.{◌∙◌, None, OnErr, sym, ap, subst}
use Rattle.redir_wire.specs.Header.{head_size}
use Rattle.unlink_race.specs.Searches.{has_id}
use Rattle.gate_history.specs.state.Flight.{wide_ids}
use Rattle.gate_history.specs.step.Marks.{Effect}
use Rattle.gate_history.specs.step.Meaning.{mark_as, answer_to}
use Rattle.gate_parts.specs.host.Responses.{response_view}
use Rattle.gate_core.specs.inner.state.Holds.{Does}
use Rattle.gate_core.proofs.lemmas.state.Held.{is-there}
use Rattle.gate_core.proofs.lemmas.host.Answer.{found-answer, nobody, means-refusal, means-end}
use Rattle.gate_core.proofs.lemmas.step.Quiet.{as-effect}
use Rattle.gate_core.proofs.lemmas.step.Steady.{does-idle}
use Rattle.gate_history.specs.step.Wants.{GivesSome}
use Rattle.gate_core.proofs.lemmas.write.Gives.{refusal-gives}
use Rattle.gate_core.proofs.lemmas.write.InTurn.{on-err}
use Rattle.gate_core.proofs.state.kept.Kept.answer.Goals as goal

pub returns-in_default-clause-ok : goal.returns-in_default-clause-ok
returns-in_default-clause-ok c st at place h sound =
    let old = c.args.self.now in
    let k = c.requires.kept in
    subst (λ (e : Effect). Does st (mark_as st e None) old old c.args.out.now c.args.out.now)
    (sym (ap (answer_to st at c.args.header.now (response_view c.args.response)) (nobody old st c.args.header.now.id h (sym c.place_of_id.ensures ∙ c.in_default.is))))
    (does-idle st old c.args.out.now h k.answered_fits k.unlinked_fits k.dropped_fits)

pub returns-in-Some-mismatch_of-clause-ok : goal.returns-in-Some-mismatch_of-clause-ok
returns-in-Some-mismatch_of-clause-ok c st at place h sound =
    as-effect c.refuse_host.result st _ _ c.args.self.now c.refuse_host.new.self c.args.out.now c.refuse_host.new.out
    (means-refusal c.args.self.now st at c.args.place c.in-Some.at c.args.header.now (response_view c.args.response) c.mismatch_of.result h place c.requires.fits (sym c.place_of_id.ensures ∙ c.in-Some.is) c.mismatch_of.ensures.value c.in-Some-mismatch_of.refusal c.in-Some-mismatch_of.is)
    (c.refuse_host.ensures.ok st h)

pub complete-requires-clause-fits : goal.complete-requires-clause-fits
complete-requires-clause-fits c =
    let old = c.args.self.now in
    let header = c.args.header.now in
    let one = is-there (has_id header.id) old.lives c.in-Some.at (sym c.place_of_id.ensures ∙ c.in-Some.is) in
    found-answer old.sides.agreed c.args.place (head_size (wide_ids old.sides.agreed)) header.kind c.in-Some.at (response_view c.args.response) old.lives.live old.lives.abandoned one.live c.requires.kept.rows c.requires.fits one.at
    (sym (c.mismatch_of.ensures.value one.live one.at) ∙ c.in_default-mismatch_of.is)

pub returns-clause-ok : goal.returns-clause-ok
returns-clause-ok c st at place h sound =
    as-effect c.complete.result st _ _ c.args.self.now c.complete.new.self c.args.out.now c.complete.new.out
    (means-end c.args.self.now st at c.args.place c.in-Some.at c.args.header.now (response_view c.args.response) c.mismatch_of.result h place c.requires.fits (sym c.place_of_id.ensures ∙ c.in-Some.is) c.mismatch_of.ensures.value c.in_default-mismatch_of.is)
    (c.complete.ensures.ok st c.args.header.now.id (sym c.place_of_id.ensures ∙ c.in-Some.is) h sound)

pub returns-in-Some-mismatch_of-clause-wants : goal.returns-in-Some-mismatch_of-clause-wants
returns-in-Some-mismatch_of-clause-wants c st at place h sound =
    on-err c.refuse_host.result _
    (subst (λ (e : Effect). GivesSome st (mark_as st e None))
    (means-refusal c.args.self.now st at c.args.place c.in-Some.at c.args.header.now (response_view c.args.response) c.mismatch_of.result h place c.requires.fits (sym c.place_of_id.ensures ∙ c.in-Some.is) c.mismatch_of.ensures.value c.in-Some-mismatch_of.refusal c.in-Some-mismatch_of.is)
    (refusal-gives st c.in-Some-mismatch_of.refusal None))

pub returns-clause-wants : goal.returns-clause-wants
returns-clause-wants c st at place h sound =
    subst (λ (e : Effect). OnErr c.complete.result (GivesSome st (mark_as st e None)))
    (means-end c.args.self.now st at c.args.place c.in-Some.at c.args.header.now (response_view c.args.response) c.mismatch_of.result h place c.requires.fits (sym c.place_of_id.ensures ∙ c.in-Some.is) c.mismatch_of.ensures.value c.in_default-mismatch_of.is)
    (c.complete.ensures.wants st c.args.header.now.id (sym c.place_of_id.ensures ∙ c.in-Some.is) h sound)
