use Rattle.std.proofs.Common.{cond, Bool, None, OnOk, sym, ap, subst, ◌∙◌}
use Rattle.usb_base.specs.declared.reason.Reason.TheVariants.{AlreadyImported}
use Rattle.usb_base.specs.declared.side.Side.TheVariants.{Client}
use Rattle.gate_history.specs.step.Marks.{Effect, Replies, Refuses}
use Rattle.gate_history.specs.client.Replies.{list_reply}
use Rattle.gate_history.specs.step.Meaning.{mark_as, refused}
use Rattle.gate_core.specs.inner.state.Holds.{Does}
use Rattle.gate_core.proofs.state.kept.Kept.answer_list.Goals as goal

pub returns-clause-ok : goal.returns-clause-ok
returns-clause-ok c st at status place h going =
    subst (λ (e : Effect). OnOk c.reply.result (Does st (mark_as st e None) c.args.self.now c.args.self.now c.args.out.now c.reply.new.out))
    (ap (λ r. Replies r) (c.in_ok-reply.ensures.value ∙ ap list_reply h.facts) ∙ ap (λ (b : Bool). cond b (refused Client at AlreadyImported) (Replies (list_reply st.facts))) (sym ((λ j. (sym h.sides j).imported) ∙ c.if-self.false)))
    (c.reply.ensures.ok st h)

pub returns-then-self-clause-ok : goal.returns-then-self-clause-ok
returns-then-self-clause-ok c st at status place h going =
    subst (λ (e : Effect). OnOk c.refuse_client.result (Does st (mark_as st e None) c.args.self.now c.refuse_client.new.self c.args.out.now c.refuse_client.new.out))
    (ap (λ r. Refuses r) (c.client_refusal.ensures.value at place) ∙ ap (λ (b : Bool). cond b (refused Client at AlreadyImported) (Replies (list_reply st.facts))) (sym ((λ j. (sym h.sides j).imported) ∙ c.if-self.true)))
    (c.refuse_client.ensures.ok st h going)
