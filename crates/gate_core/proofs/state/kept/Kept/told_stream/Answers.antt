use Rattle.std.proofs.Common.{◌<◌, List, None, length, subst}
use Rattle.std.specs.Prelude.{filter}
use Rattle.usb_base.specs.declared.status.UsbStatus.{UsbStatus}
use Rattle.gate_history.specs.step.Marks.{StreamTold}
use Rattle.gate_history.specs.step.Meaning.{mark_as}
use Rattle.gate_core.specs.inner.state.Holds.{Does}
use Rattle.gate_core.proofs.lemmas.host.StreamStatus.{does-tell_stream, tell-gives}
use Rattle.unlink_race.specs.declared.live.Live.{Live}
use Rattle.gate_history.specs.step.Wants.{GivesSome}
use Rattle.gate_core.specs.inner.host.StreamEnd.{is_told}
use Rattle.gate_core.proofs.lemmas.write.InTurn.{on-err, leaves-client}
use Rattle.gate_core.proofs.state.kept.Kept.told_stream.Goals as goal

pub returns-clause-ok : goal.returns-clause-ok
returns-clause-ok c st h sound =
    let old = c.args.self.now in
    let new = record c.end_stream.new.self { fence = c.lifted-self.result } in
    subst (λ (s : UsbStatus). Does st (mark_as st (StreamTold c.args.id c.args.endpoint s) None) old new c.args.out.now (record c.args.out.now { to_client = c.end_stream.new.to_client })) c.from_byte.ensures
    (does-tell_stream st sound c.args.id c.args.endpoint c.from_byte.result old c.end_stream.new.self new c.args.out.now c.end_stream.new.to_client h
    c.requires.kept.unlinked_fits c.requires.kept.dropped_fits c.in_ok-end_stream.ensures.ended (λ i. record c.end_stream.new.self { fence = c.lifted-self.ensures i }) c.in_ok-end_stream.ensures.sent)

pub returns-in_err-end_stream-clause-wants : goal.returns-in_err-end_stream-clause-wants
returns-in_err-end_stream-clause-wants c st h sound =
    on-err c.from_residual.result _
    (subst (λ (s : UsbStatus). GivesSome st (mark_as st (StreamTold c.args.id c.args.endpoint s) None)) c.from_byte.ensures
    (tell-gives st sound c.args.id c.args.endpoint c.from_byte.result
    (subst (λ (ls : List Live). 0 < length (filter (is_told c.args.endpoint c.from_byte.result) ls)) h.live c.in_err-end_stream.ensures.wants)))

pub returns-in_err-end_stream-clause-err : goal.returns-in_err-end_stream-clause-err
returns-in_err-end_stream-clause-err c = on-err c.from_residual.result _ (leaves-client c.args.self.now c.end_stream.new.self c.args.out.now c.end_stream.new.to_client c.in_err-end_stream.ensures.same c.in_err-end_stream.ensures.err)
