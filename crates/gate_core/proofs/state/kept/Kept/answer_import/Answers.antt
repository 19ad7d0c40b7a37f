use Rattle.std.proofs.Common.{cond, Bool, None, OnOk, sym, ap, subst, ◌∙◌}
use Rattle.usb_base.specs.declared.reason.Reason.TheVariants.{AlreadyImported}
use Rattle.usb_base.specs.declared.side.Side.TheVariants.{Client}
use Rattle.gate_history.specs.step.Marks.{Effect, Refuses}
use Rattle.gate_history.specs.step.Meaning.{mark_as, refused, imported_as, importable}
use Rattle.gate_core.specs.inner.state.Holds.{Does}
use Rattle.gate_core.proofs.state.kept.Kept.answer_import.Goals as goal

pub returns-then-self-clause-ok : goal.returns-then-self-clause-ok
returns-then-self-clause-ok c st at status place h going =
    subst (λ (e : Effect). OnOk c.refuse_client.result (Does st (mark_as st e None) c.args.self.now c.refuse_client.new.self c.args.out.now c.refuse_client.new.out))
    (ap (λ r. Refuses r) (c.client_refusal.ensures.value at place) ∙ ap (λ (b : Bool). cond b (refused Client at AlreadyImported) (imported_as st (importable st c.args.busid.now))) (sym ((λ j. (sym h.sides j).imported) ∙ c.if-self.true)))
    (c.refuse_client.ensures.ok st h going)
