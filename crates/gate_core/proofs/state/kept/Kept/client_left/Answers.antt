use Rattle.std.proofs.Common.{◌<◌, not, false, None, List, ◌++◌, length, refl, sym, ap, subst, ◌∙◌, arith}
use Rattle.std.proofs.lemmas.List.{append-nil}
use Rattle.gate_core.specs.declared.state.kept.Kept.{Kept}
use Rattle.gate_history.specs.declared.note.Note.{Note}
use Rattle.gate_history.specs.declared.note.Note.TheVariants as note
use Rattle.usb_base.specs.declared.side.Side.TheVariants.{Client}
use Rattle.gate_history.specs.step.Marks.{Ends}
use Rattle.gate_history.specs.write.Notes.{when}
use Rattle.gate_core.proofs.lemmas.client.Leave.{leaving-cancels, does-leave}
use Rattle.gate_core.proofs.lemmas.state.Ids.{parts-are, leaving-sent, stops-are}
use Rattle.gate_core.proofs.lemmas.write.InTurn.{begins-after, on-err, leaves-host, leaves-untold}
use Rattle.std.specs.Prelude.{filter}
use Rattle.unlink_race.specs.declared.live.Live.{Live}
use Rattle.redir_data.specs.declared.packet.RedirPacket.{RedirPacket}
use Rattle.gate_history.specs.write.Output.{cancels}
use Rattle.gate_parts.specs.state.Rows.{is_cancelled_row}
use Rattle.gate_core.proofs.lemmas.write.Gives.{by-cancels, by-asked, by-leaving, cancelled-some}
use Rattle.gate_core.proofs.state.kept.Kept.client_left.Goals as goal

pub returns-clause-ok : goal.returns-clause-ok
returns-clause-ok c st h =
    let old = c.args.self.now in
    does-leave st (Ends Client) refl refl refl c.in_ok-sent_ids.sent_ids old _ c.args.out.now _ _ h c.requires.kept.answered_fits c.requires.kept.unlinked_fits
    (parts-are old st h (Ends Client) c.in_ok-sent_ids.sent_ids refl c.in_ok-sent_ids.ensures.sent_ids)
    (ap (λ (k : Kept). record k { sides = record k.sides { client_over = false } }) c.leave.ensures.left.is)
    (leaving-sent old st h (Ends Client) refl c.args.out.now.to_host _ _ c.in_ok-write_cancels.ensures.ok c.in_ok-sent_ids.ensures.sent)
    (c.in_ok-tell_gone.ensures.ok ∙ ap (λ (ns : List Note). c.args.out.now.notes ++ ns) (sym (append-nil (when (not old.sides.client_over) note.ClientGone))))

pub returns-in_err-sent_ids-clause-err : goal.returns-in_err-sent_ids-clause-err
returns-in_err-sent_ids-clause-err c = on-err c.from_residual-in_err-sent_ids.result _ (leaves-host c.args.self.now c.args.self.now c.args.out.now c.write_stops.new.to_host refl
    (begins-after c.args.out.now.to_host c.write_cancels.new.to_host c.write_stops.new.to_host _ c.in_ok-write_cancels.ensures.ok c.in_err-sent_ids.ensures.err))

pub returns-in_err-write_cancels-clause-wants : goal.returns-in_err-write_cancels-clause-wants
returns-in_err-write_cancels-clause-wants c st h =
    on-err c.from_residual.result _
    (by-cancels st (Ends Client) None (omega (
      arith,
      c.in_err-write_cancels.ensures.wants,
      ap (λ (ls : List Live). length (filter is_cancelled_row ls)) h.live,
      cancelled-some (cancels (Ends Client)) (leaving-cancels st (Ends Client) refl refl) st.live,
    )))

pub returns-in_err-sent_ids-clause-wants : goal.returns-in_err-sent_ids-clause-wants
returns-in_err-sent_ids-clause-wants c st h =
    on-err c.from_residual-in_err-sent_ids.result _
    (by-asked st (Ends Client) None (subst (λ (ps : List RedirPacket). 0 < length ps) (stops-are c.args.self.now st h None) c.in_err-sent_ids.ensures.wants))

pub returns-in_err-tell_gone-clause-wants : goal.returns-in_err-tell_gone-clause-wants
returns-in_err-tell_gone-clause-wants c st h =
    on-err c.from_residual-in_err-tell_gone.result _ (by-leaving st (Ends Client) None refl (ap not (λ j. (sym h.sides j).client_over) ∙ c.in_err-tell_gone.ensures.wants))

pub returns-in_err-write_cancels-clause-err : goal.returns-in_err-write_cancels-clause-err
returns-in_err-write_cancels-clause-err c = on-err c.from_residual.result _ (leaves-host c.args.self.now c.args.self.now c.args.out.now c.write_cancels.new.to_host refl c.in_err-write_cancels.ensures.err)

pub returns-in_err-tell_gone-clause-err : goal.returns-in_err-tell_gone-clause-err
returns-in_err-tell_gone-clause-err c = on-err c.from_residual-in_err-tell_gone.result _ (leaves-untold c.args.self.now c.args.out.now c.write_stops.new.to_host c.tell_gone.new.notes
    (begins-after c.args.out.now.to_host c.write_cancels.new.to_host c.write_stops.new.to_host _ c.in_ok-write_cancels.ensures.ok (record { more = _; is = c.in_ok-sent_ids.ensures.sent }))
    c.in_err-tell_gone.ensures.err)
