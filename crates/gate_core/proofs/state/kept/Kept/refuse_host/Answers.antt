use Rattle.std.proofs.Common.{◌≡◌, ◌&&◌, not, cond, true, None, List, [], ◌∷◌, ◌++◌, sym, ap, ◌∙◌, append_assoc, refl}
use Rattle.std.proofs.lemmas.List.{append-nil}
use Rattle.gate_history.specs.declared.note.Note.{Note}
use Rattle.gate_history.specs.declared.note.Note.TheVariants as note
use Rattle.usb_base.specs.declared.side.Side.{Side}
use Rattle.gate_history.specs.state.Sides.{is_client}
use Rattle.gate_history.specs.step.Marks.{Refuses}
use Rattle.gate_history.specs.write.Notes.{when}
use Rattle.gate_core.proofs.lemmas.host.Loss.{lost-is, does-loss}
use Rattle.gate_core.proofs.lemmas.write.InTurn.{on-err, leaves-client}
use Rattle.gate_core.proofs.state.kept.Kept.refuse_host.Goals as goal

pub returns-clause-ok : goal.returns-clause-ok
returns-clause-ok c st h =
    let old = c.args.self.now in
    let lost = lost-is c.in_ok-unlinked.unlinked old c.lose.new.self c.lose.ensures.lost c.in_ok-unlinked.ensures.count in
    let over : true ≡ cond (not (is_client c.args.refusal.side)) true old.sides.host_over = ap (λ (s : Side). cond (not (is_client s)) true old.sides.host_over) (sym c.requires.side) in
    does-loss st (Refuses c.args.refusal) None refl (ap (λ (s : Side). not (is_client s)) c.requires.side) (ap is_client c.requires.side) old _ _ _ h c.requires.kept.dropped_fits (λ i. record (lost i) { sides = record (lost i).sides { host_over = over i } }) c.in_ok-unlinked.ensures.ok (sym (append-nil c.args.out.now.to_host))
    (c.in_ok-push.ensures.ok ∙ ap (λ (ns : List Note). ns ++ note.Refused c.args.refusal ∷ []) c.in_ok-tell_loss.ensures.ok ∙ append_assoc c.args.out.now.notes (when (old.sides.imported && not old.sides.lost) note.DeviceGone) (note.Refused c.args.refusal ∷ []))

pub returns-in_err-unlinked-clause-err : goal.returns-in_err-unlinked-clause-err
returns-in_err-unlinked-clause-err c = on-err c.from_residual.result _ (leaves-client c.args.self.now c.args.self.now c.args.out.now c.write_losses.new.to_client refl c.in_err-unlinked.ensures.err)
