use Rattle.std.proofs.Common.{Option, None, sym, subst}
use Rattle.redir_data.specs.declared.packet.RedirPacket.TheVariants.{Plain}
use Rattle.gate_core.specs.declared.state.kept.Kept.{Kept}
use Rattle.gate_history.specs.host.Responses.{Response, response_of}
use Rattle.gate_history.specs.step.Meaning.{mark_as, fact_of, by_response}
use Rattle.gate_core.specs.inner.state.Holds.{Does}
use Rattle.gate_core.proofs.lemmas.host.Answer.{does-tell}
use Rattle.gate_history.specs.step.Wants.{GivesSome}
use Rattle.gate_core.proofs.lemmas.write.InTurn.{on-err}
use Rattle.gate_core.proofs.state.kept.Kept.told_fact.Goals as goal

pub returns-clause-ok : goal.returns-clause-ok
returns-clause-ok c st at place h sound going =
    let header = c.args.header.now in
    let packet = Plain c.args.packet.now in
    let old = c.args.self.now in
    subst (λ (k : Kept). Does st (mark_as st (by_response st at header (response_of packet)) (fact_of packet)) old k c.args.out.now c.respond.new.out)
    (sym c.learn.ensures.learned)
    (does-tell st at header (response_of packet) (fact_of packet) old c.respond.new.self c.args.out.now c.respond.new.out going
    (subst (λ (r : Option Response). Does st (mark_as st (by_response st at header r) None) old c.respond.new.self c.args.out.now c.respond.new.out) c.status_of.ensures
    (c.in_ok-respond.ensures.ok st at place h sound)))

pub returns-in_err-respond-clause-wants : goal.returns-in_err-respond-clause-wants
returns-in_err-respond-clause-wants c st at place h sound =
    on-err c.from_residual.result _
    (subst (λ (r : Option Response). GivesSome st (mark_as st (by_response st at c.args.header.now r) (fact_of (Plain c.args.packet.now)))) c.status_of.ensures
    (c.in_err-respond.ensures.wants st at place h sound))
