use Rattle.std.proofs.Common.{not, cond, None, OnOk, sym, ap, subst, ◌∙◌}
use Rattle.usb_base.specs.declared.reason.Reason.TheVariants.{NotImported}
use Rattle.usb_base.specs.declared.side.Side.TheVariants.{Client}
use Rattle.gate_history.specs.step.Marks.{Effect, Refuses, Unlinks}
use Rattle.gate_history.specs.step.Meaning.{mark_as, refused}
use Rattle.gate_core.specs.inner.state.Holds.{Does}
use Rattle.gate_core.proofs.state.kept.Kept.unlink.Goals as goal

pub returns-then-not-self-clause-ok : goal.returns-then-not-self-clause-ok
returns-then-not-self-clause-ok c st at place h sound going =
    let u = c.args.unlink.now in
    subst (λ (e : Effect). OnOk c.refuse_client.result (Does st (mark_as st e None) c.args.self.now c.refuse_client.new.self c.args.out.now c.refuse_client.new.out))
    (ap (λ r. Refuses r) (c.client_refusal.ensures.value at place)
    ∙ (λ i. cond (not (sym ((λ j. (sym h.sides j).imported) ∙ c.if-not-self.true) i)) (refused Client at NotImported) (Unlinks u.head.seqnum u.target)))
    (c.refuse_client.ensures.ok st h going)
