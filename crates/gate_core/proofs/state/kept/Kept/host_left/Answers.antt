use Rattle.std.proofs.Common.{◌&&◌, not, true, None, List, ◌++◌, length, refl, sym, ap, ◌∙◌, arith}
use Rattle.std.proofs.lemmas.List.{append-nil, length-map}
use Rattle.gate_core.specs.declared.state.kept.Kept.{Kept}
use Rattle.gate_history.specs.declared.note.Note.{Note}
use Rattle.gate_history.specs.declared.note.Note.TheVariants as note
use Rattle.gate_history.specs.write.Notes.{when}
use Rattle.gate_core.proofs.lemmas.host.Loss.{lost-is, does-loss}
use Rattle.usb_base.specs.declared.side.Side.TheVariants.{Host}
use Rattle.gate_history.specs.step.Marks.{Ends}
use Rattle.gate_parts.specs.state.Rows.{row}
use Rattle.gate_core.proofs.lemmas.write.Gives.{by-lives, by-loss}
use Rattle.gate_core.proofs.lemmas.write.InTurn.{on-err, leaves-client}
use Rattle.gate_core.proofs.state.kept.Kept.host_left.Goals as goal

pub returns-clause-ok : goal.returns-clause-ok
returns-clause-ok c st h =
    let old = c.args.self.now in
    let lost = lost-is c.in_ok-unlinked.unlinked old c.lose.new.self c.lose.ensures.lost c.in_ok-unlinked.ensures.count in
    does-loss st (Ends Host) None refl refl refl old _ _ _ h c.requires.kept.dropped_fits (ap (λ (k : Kept). record k { sides = record k.sides { host_over = true } }) lost) c.in_ok-unlinked.ensures.ok (sym (append-nil c.args.out.now.to_host))
    (c.in_ok-tell_loss.ensures.ok ∙ ap (λ (ns : List Note). c.args.out.now.notes ++ ns) (sym (append-nil (when (old.sides.imported && not old.sides.lost) note.DeviceGone))))

pub returns-in_err-unlinked-clause-wants : goal.returns-in_err-unlinked-clause-wants
returns-in_err-unlinked-clause-wants c st h =
    on-err c.from_residual.result _ (by-lives st (Ends Host) None refl (omega (arith, c.in_err-unlinked.ensures.wants, ap length h.live, length-map st.live row)))

pub returns-in_err-tell_loss-clause-wants : goal.returns-in_err-tell_loss-clause-wants
returns-in_err-tell_loss-clause-wants c st h =
    on-err c.from_residual-in_err-tell_loss.result _ (by-loss st (Ends Host) None refl ((λ i. (sym h.sides i).imported && not ((sym h.sides i).lost)) ∙ c.in_err-tell_loss.ensures.wants))

pub returns-in_err-unlinked-clause-err : goal.returns-in_err-unlinked-clause-err
returns-in_err-unlinked-clause-err c = on-err c.from_residual.result _ (leaves-client c.args.self.now c.args.self.now c.args.out.now c.write_losses.new.to_client refl c.in_err-unlinked.ensures.err)
