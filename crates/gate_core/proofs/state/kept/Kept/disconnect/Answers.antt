use Rattle.std.proofs.Common.{◌<◌, ◌&&◌, not, None, List, ◌++◌, length, refl, sym, ap, subst, ◌∙◌, arith}
use Rattle.std.proofs.lemmas.List.{append-nil, length-map}
use Rattle.gate_history.specs.declared.note.Note.{Note}
use Rattle.gate_history.specs.declared.note.Note.TheVariants as note
use Rattle.gate_history.specs.write.Notes.{when}
use Rattle.gate_core.proofs.lemmas.host.Loss.{lost-is, does-loss}
use Rattle.redir_wire.specs.declared.packet.Caps.{Caps}
use Rattle.gate_history.specs.step.Marks.{Disconnects}
use Rattle.gate_history.specs.write.Output.{acknowledgements}
use Rattle.gate_parts.specs.state.Rows.{row}
use Rattle.gate_core.proofs.lemmas.write.Gives.{by-lives, by-loss, by-word}
use Rattle.gate_core.proofs.lemmas.write.InTurn.{on-err, leaves-client}
use Rattle.gate_core.proofs.state.kept.Kept.disconnect.Goals as goal

pub returns-clause-ok : goal.returns-clause-ok
returns-clause-ok c st h =
    let old = c.args.self.now in
    let lost = lost-is c.in_ok-unlinked.unlinked old c.lose.new.self c.lose.ensures.lost c.in_ok-unlinked.ensures.count in
    does-loss st (Disconnects c.args.id) None refl refl refl old _ _ _ h c.requires.kept.dropped_fits lost c.in_ok-unlinked.ensures.ok c.in_ok-acknowledge.ensures.ok
    (c.in_ok-tell_loss.ensures.ok ∙ ap (λ (ns : List Note). c.args.out.now.notes ++ ns) (sym (append-nil (when (old.sides.imported && not old.sides.lost) note.DeviceGone))))

pub returns-in_err-unlinked-clause-wants : goal.returns-in_err-unlinked-clause-wants
returns-in_err-unlinked-clause-wants c st h =
    on-err c.from_residual.result _ (by-lives st (Disconnects c.args.id) None refl (omega (arith, c.in_err-unlinked.ensures.wants, ap length h.live, length-map st.live row)))

pub returns-in_err-tell_loss-clause-wants : goal.returns-in_err-tell_loss-clause-wants
returns-in_err-tell_loss-clause-wants c st h =
    on-err c.from_residual-in_err-tell_loss.result _ (by-loss st (Disconnects c.args.id) None refl ((λ i. (sym h.sides i).imported && not ((sym h.sides i).lost)) ∙ c.in_err-tell_loss.ensures.wants))

pub returns-in_err-acknowledge-clause-wants : goal.returns-in_err-acknowledge-clause-wants
returns-in_err-acknowledge-clause-wants c st h =
    on-err c.from_residual-in_err-acknowledge.result _
    (by-word st (Disconnects c.args.id) None (subst (λ (caps : Caps). 0 < length (acknowledgements caps (Disconnects c.args.id))) (λ j. (h.sides j).agreed) c.in_err-acknowledge.ensures.wants))

pub returns-in_err-unlinked-clause-err : goal.returns-in_err-unlinked-clause-err
returns-in_err-unlinked-clause-err c = on-err c.from_residual.result _ (leaves-client c.args.self.now c.args.self.now c.args.out.now c.write_losses.new.to_client refl c.in_err-unlinked.ensures.err)
