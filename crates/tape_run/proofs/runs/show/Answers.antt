use Rattle.std.proofs.Common.{subst, sym}
use Rattle.usb_base.specs.declared.side.Side.{Side}
use Rattle.tape_run.specs.Logs.{RunLeaves}
use Rattle.tape_run.specs.Printout.{tape_printout}
use Rattle.tape_run.specs.tape.EventCommand.{over_events}
use Rattle.tape_run.specs.Show.{show}
use Rattle.tape_run.proofs.runs.show.Goals as goal

pub returns-in-Client-clause-leaves : goal.returns-in-Client-clause-leaves
returns-in-Client-clause-leaves g c =
    let leaves = λ (side : Side). RunLeaves g.S.Source.read_gives g.K.Sink.write_gives g.S.Source.remaining g.K.Sink.contents c.show_stream.result (tape_printout (over_events (show side))) c.args.tape.now c.show_stream.new.tape c.args.out.now c.show_stream.new.out in
    subst leaves (sym c.in-Client.is) c.show_stream.ensures.leaves

pub returns-in-Host-clause-leaves : goal.returns-in-Host-clause-leaves
returns-in-Host-clause-leaves g c =
    let leaves = λ (side : Side). RunLeaves g.S.Source.read_gives g.K.Sink.write_gives g.S.Source.remaining g.K.Sink.contents c.show_stream-in-Host.result (tape_printout (over_events (show side))) c.args.tape.now c.show_stream-in-Host.new.tape c.args.out.now c.show_stream-in-Host.new.out in
    subst leaves (sym c.in-Host.is) c.show_stream-in-Host.ensures.leaves
