use Rattle.std.proofs.Common.{◌≡◌, not, cond, Bool, true, List, [], ◌∷◌, ◌++◌, refl, sym, ap, ◌∙◌, append_assoc}
use Rattle.gate_history.specs.declared.note.Note.{Note}
use Rattle.gate_history.specs.declared.note.Note.TheVariants as note
use Rattle.usb_base.specs.declared.side.Side.{Side}
use Rattle.gate_history.specs.state.Sides.{is_client}
use Rattle.gate_history.specs.step.Marks.{Refuses}
use Rattle.gate_history.specs.write.Notes.{when}
use Rattle.gate_core.proofs.lemmas.client.Leave.{leaving-asked, does-leave}
use Rattle.gate_core.proofs.lemmas.state.Ids.{parts-are, leaving-sent}
use Rattle.gate_core.proofs.lemmas.write.InTurn.{begins-after, on-err, leaves-host, leaves-untold}
use Rattle.gate_core.proofs.state.kept.Kept.refuse_client.Goals as goal

pub returns-clause-ok : goal.returns-clause-ok
returns-clause-ok c st h going =
    let old = c.args.self.now in
    let over : true ≡ cond (is_client c.args.refusal.side) true old.sides.client_over = ap (λ (s : Side). cond (is_client s) true old.sides.client_over) (sym c.requires.side) in
    let e = Refuses c.args.refusal in
    let gone = ap is_client c.requires.side in
    let asked = leaving-asked st e refl gone in
    let first : when (not old.sides.client_over) note.ClientGone ≡ note.ClientGone ∷ [] = ap (λ (b : Bool). when (not b) note.ClientGone) ((λ j. (h.sides j).client_over) ∙ going) in
    does-leave st e refl gone (ap (λ (s : Side). not (is_client s)) c.requires.side) c.in_ok-sent_ids.sent_ids old _ c.args.out.now _ _ h c.requires.kept.answered_fits c.requires.kept.unlinked_fits
    (parts-are old st h e c.in_ok-sent_ids.sent_ids asked c.in_ok-sent_ids.ensures.sent_ids)
    (λ i. record (c.leave.ensures.left.is i) { sides = record (c.leave.ensures.left.is i).sides { client_over = over i } })
    (leaving-sent old st h e asked c.args.out.now.to_host _ _ c.in_ok-write_cancels.ensures.ok c.in_ok-sent_ids.ensures.sent)
    (c.in_ok-push-2.ensures.ok ∙ ap (λ (ns : List Note). ns ++ note.Refused c.args.refusal ∷ []) c.in_ok-push.ensures.ok ∙ append_assoc c.args.out.now.notes (note.ClientGone ∷ []) (note.Refused c.args.refusal ∷ [])
    ∙ ap (λ (ns : List Note). c.args.out.now.notes ++ (ns ++ note.Refused c.args.refusal ∷ [])) (sym first))

pub returns-in_err-sent_ids-clause-err : goal.returns-in_err-sent_ids-clause-err
returns-in_err-sent_ids-clause-err c = on-err c.from_residual-in_err-sent_ids.result _ (leaves-host c.args.self.now c.args.self.now c.args.out.now c.write_stops.new.to_host refl
    (begins-after c.args.out.now.to_host c.write_cancels.new.to_host c.write_stops.new.to_host _ c.in_ok-write_cancels.ensures.ok c.in_err-sent_ids.ensures.err))

pub returns-in_err-write_cancels-clause-err : goal.returns-in_err-write_cancels-clause-err
returns-in_err-write_cancels-clause-err c = on-err c.from_residual.result _ (leaves-host c.args.self.now c.args.self.now c.args.out.now c.write_cancels.new.to_host refl c.in_err-write_cancels.ensures.err)

pub returns-in_err-push-clause-err : goal.returns-in_err-push-clause-err
returns-in_err-push-clause-err c = on-err c.from_residual-in_err-push.result _ (leaves-untold c.args.self.now c.args.out.now c.write_stops.new.to_host c.push.new.self
    (begins-after c.args.out.now.to_host c.write_cancels.new.to_host c.write_stops.new.to_host _ c.in_ok-write_cancels.ensures.ok (record { more = _; is = c.in_ok-sent_ids.ensures.sent }))
    c.in_err-push.ensures.err)
