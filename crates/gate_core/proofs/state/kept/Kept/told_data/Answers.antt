use Rattle.std.proofs.Common.{None, OnOk, OnErr, sym, ap, subst, ◌∙◌}
use Rattle.usb_base.specs.declared.transfer.StreamPacket.{StreamPacket}
use Rattle.gate_history.specs.state.Ups.{stream_of}
use Rattle.gate_history.specs.step.Marks.{Effect}
use Rattle.gate_history.specs.step.Meaning.{mark_as, arrives, by_response}
use Rattle.gate_core.specs.inner.state.Holds.{Does}
use Rattle.gate_core.proofs.lemmas.host.Data.{arrives-so, responds-so}
use Rattle.gate_history.specs.step.Wants.{GivesSome}
use Rattle.gate_core.proofs.state.kept.Kept.told_data.Goals as goal

pub returns-in_default-clause-ok : goal.returns-in_default-clause-ok
returns-in_default-clause-ok c st at place h sound =
    subst (λ (e : Effect). OnOk c.respond.result (Does st (mark_as st e None) c.args.self.now c.respond.new.self c.args.out.now c.respond.new.out))
    (ap (by_response st at c.args.header.now) c.data_of.ensures ∙ responds-so st at c.args.header.now c.args.packet (sym c.in_default.is ∙ c.stream_in.ensures))
    (c.respond.ensures.ok st at place h sound)

pub returns-clause-ok : goal.returns-clause-ok
returns-clause-ok c st at place h sound =
    let x = c.in-Some.stream in
    subst (λ (e : Effect). OnOk c.arrive.result (Does st (mark_as st e None) c.args.self.now c.arrive.new.self c.args.out.now c.arrive.new.out))
    (ap (λ (p : StreamPacket). arrives st x.endpoint x.kind p (stream_of st.streams x.endpoint)) c.stream_packet.ensures
    ∙ arrives-so st at c.args.header.now c.args.packet x (sym c.in-Some.is ∙ c.stream_in.ensures))
    (c.arrive.ensures.ok st h sound)

pub returns-in_default-clause-wants : goal.returns-in_default-clause-wants
returns-in_default-clause-wants c st at place h sound =
    subst (λ (e : Effect). OnErr c.respond.result (GivesSome st (mark_as st e None)))
    (ap (by_response st at c.args.header.now) c.data_of.ensures ∙ responds-so st at c.args.header.now c.args.packet (sym c.in_default.is ∙ c.stream_in.ensures))
    (c.respond.ensures.wants st at place h sound)

pub returns-clause-wants : goal.returns-clause-wants
returns-clause-wants c st at place h sound =
    let x = c.in-Some.stream in
    subst (λ (e : Effect). OnErr c.arrive.result (GivesSome st (mark_as st e None)))
    (ap (λ (p : StreamPacket). arrives st x.endpoint x.kind p (stream_of st.streams x.endpoint)) c.stream_packet.ensures
    ∙ arrives-so st at c.args.header.now c.args.packet x (sym c.in-Some.is ∙ c.stream_in.ensures))
    (c.arrive.ensures.wants st h)
