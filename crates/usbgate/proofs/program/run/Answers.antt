use Rattle.std.proofs.Common.{inr, refl, sym, ap, ◌∙◌}
use Rattle.tape_run.specs.tape.EventCommand.{over_events}
use Rattle.tape_run.specs.Replay.{replay}
use Rattle.tape_run.specs.model.Model.{model_of}
use Rattle.tape_run.specs.Show.{show}
use Rattle.tape_run.specs.model.Made.{made, loaded}
use Rattle.tape_run.specs.Printout.{tape_printout, printed, usage}
use Rattle.usbgate_commands.specs.links.Recording.{records}
use Rattle.usbgate_commands.specs.links.Serves.{known_of}
use Rattle.usbgate_commands.proofs.lemmas.links.Served.{links-stand, link-fault-of, link-stands}
use Rattle.usbgate_tapes.proofs.lemmas.model.Simulated.{unsimulated}
use Rattle.tape_run.proofs.lemmas.runs.Unread.{leaves-none}
use Rattle.usbgate.proofs.Asked.{reads-tape, leaves-asked, writes-asked, serves-asked, lends-asked}
use Rattle.usbgate.proofs.Simulated.{simulates-device, simulates-count}
use Rattle.usbgate_commands.proofs.lemmas.links.Logs.{run-unserved, run-unlent}
use Rattle.usbgate.proofs.program.run.Goals as goal

pub returns-in_default-clause-serves : goal.returns-in_default-clause-serves
returns-in_default-clause-serves g c = λ asked is.
    run-unserved g.D.Doors.call_gives g.K.Sink.write_gives asked c.args.doors.now c.args.out.now
    (known_of g.D.Doors.link g.D.Doors.door g.K.Sink.faults g.K.Sink.contents g.T.Tape.counts g.T.Tape.contents c.args.out.now c.args.doors.now c.args.out.now c.args.recording.now)

pub returns-in_default-clause-lends : goal.returns-in_default-clause-lends
returns-in_default-clause-lends g c = λ asked is.
    run-unlent g.D.Doors.call_gives g.D.Doors.link g.D.Doors.door g.K.Sink.write_gives g.K.Sink.faults g.K.Sink.contents asked c.args.doors.now c.args.out.now

pub returns-in_default-clause-leaves : goal.returns-in_default-clause-leaves
returns-in_default-clause-leaves g c = λ p is. leaves-none g.S.Source.read_gives g.K.Sink.write_gives g.S.Source.remaining g.K.Sink.contents p c.args.tape.now c.args.out.now

pub returns-in_default-clause-simulates : goal.returns-in_default-clause-simulates
returns-in_default-clause-simulates g c = λ device is. unsimulated g.S.Source.read_gives g.S.Source.remaining device c.args.tape.now c.args.tape.now

pub returns-in-Replay-clause-leaves : goal.returns-in-Replay-clause-leaves
returns-in-Replay-clause-leaves g c = λ p is. leaves-asked _ _ (tape_printout (over_events (replay c.in-Replay.first_id))) p (sym c.in-Replay.is ∙ c.in-Ok.ensures.value) refl is c.replay.ensures.leaves

pub returns-in-Model-clause-leaves : goal.returns-in-Model-clause-leaves
returns-in-Model-clause-leaves g c = λ p is. leaves-asked _ _ (tape_printout (model_of c.in-Model.device)) p (sym c.in-Model.is ∙ c.in-Ok.ensures.value) refl is c.model.ensures.leaves

pub returns-in-Show-clause-leaves : goal.returns-in-Show-clause-leaves
returns-in-Show-clause-leaves g c = λ p is. leaves-asked _ _ (tape_printout (over_events (show c.in-Show.side))) p (sym c.in-Show.is ∙ c.in-Ok.ensures.value) refl is c.show.ensures.leaves

pub returns-in-Make-clause-leaves : goal.returns-in-Make-clause-leaves
returns-in-Make-clause-leaves g c = λ p is. writes-asked _ _ (printed (made c.in-Make.count)) p (sym c.in-Make.is ∙ c.in-Ok.ensures.value) refl is c.make.ensures.leaves

pub returns-in-Load-clause-leaves : goal.returns-in-Load-clause-leaves
returns-in-Load-clause-leaves g c = λ p is. writes-asked _ _ (printed (loaded c.in-Load.count)) p (sym c.in-Load.is ∙ c.in-Ok.ensures.value) refl is c.load.ensures.leaves

pub returns-in-Unknown-clause-leaves : goal.returns-in-Unknown-clause-leaves
returns-in-Unknown-clause-leaves g c = λ p is. writes-asked _ _ usage p (sym c.in-Unknown.is ∙ c.in-Ok.ensures.value) refl is c.print.ensures.leaves

pub returns-in-Model-clause-simulates : goal.returns-in-Model-clause-simulates
returns-in-Model-clause-simulates g c = λ device is.
    simulates-device g.S.Source.read_gives g.S.Source.remaining c.in-Model.device device c.model.result c.args.tape.now c.model.new.tape (sym c.in-Model.is ∙ c.in-Ok.ensures.value ∙ is) c.model.ensures.simulates

pub returns-in-Serve-clause-serves : goal.returns-in-Serve-clause-serves
returns-in-Serve-clause-serves g c = λ asked is. serves-asked c.in-Serve.serving asked (sym c.in-Serve.is ∙ c.in-Ok.ensures.value ∙ is) c.serve.ensures.serves

pub returns-in-Host-clause-lends : goal.returns-in-Host-clause-lends
returns-in-Host-clause-lends g c = λ asked is. lends-asked c.in-Host.lending asked (sym c.in-Host.is ∙ c.in-Ok.ensures.value ∙ is) c.host.ensures.lends

pub returns-in-Serve-clause-usage : goal.returns-in-Serve-clause-usage
returns-in-Serve-clause-usage g c = λ is. inr (ap records (sym c.in-Ok.ensures.value ∙ c.in-Serve.is) ∙ c.serve.ensures.asked is, (c.serve.ensures.causes.usage is).1)

pub returns-in-Serve-clause-sink_fault : goal.returns-in-Serve-clause-sink_fault
returns-in-Serve-clause-sink_fault g c = λ none. c.serve.ensures.sink_fault (ap records (sym c.in-Serve.is ∙ c.in-Ok.ensures.value) ∙ none)

pub returns-in-Serve-clause-unrecorded : goal.returns-in-Serve-clause-unrecorded
returns-in-Serve-clause-unrecorded g c = λ none. c.serve.ensures.unasked (ap records (sym c.in-Serve.is ∙ c.in-Ok.ensures.value) ∙ none)

pub returns-in-Serve-clause-link_fault : goal.returns-in-Serve-clause-link_fault
returns-in-Serve-clause-link_fault g c = λ side is. link-fault-of c.serve.result side (g.D.Doors.link c.args.doors.now) (g.D.Doors.link c.serve.new.doors) (g.D.Doors.door c.args.doors.now) (g.D.Doors.door c.serve.new.doors) _ _ is c.serve.ensures.causes

pub returns-in-Serve-clause-links_stand : goal.returns-in-Serve-clause-links_stand
returns-in-Serve-clause-links_stand g c = λ side other. link-stands c.serve.result side (g.D.Doors.link c.args.doors.now) (g.D.Doors.link c.serve.new.doors) (g.D.Doors.door c.args.doors.now) (g.D.Doors.door c.serve.new.doors) _ _ other c.serve.ensures.causes

pub returns-in-Host-clause-links_stand : goal.returns-in-Host-clause-links_stand
returns-in-Host-clause-links_stand g c = λ side other.
    let lent = c.host.ensures.lends.where_told in
    links-stand lent.end (g.D.Doors.link c.args.doors.now) (g.D.Doors.link c.host.new.doors) (g.D.Doors.door c.args.doors.now) (g.D.Doors.door c.host.new.doors) (g.K.Sink.faults c.args.out.now) (g.K.Sink.faults c.host.new.out) side lent.cause (λ e. other (lent.status-is ∙ e))

pub returns-in-Unknown-clause-writes_stand : goal.returns-in-Unknown-clause-writes_stand
returns-in-Unknown-clause-writes_stand g c = (c.print.ensures.causes 0).writes_stand

pub returns-in-Make-clause-writes_stand : goal.returns-in-Make-clause-writes_stand
returns-in-Make-clause-writes_stand g c = (c.make.ensures.causes 0).writes_stand

pub returns-in-Load-clause-writes_stand : goal.returns-in-Load-clause-writes_stand
returns-in-Load-clause-writes_stand g c = (c.load.ensures.causes 0).writes_stand

pub returns-in-Load-clause-load_simulates : goal.returns-in-Load-clause-load_simulates
returns-in-Load-clause-load_simulates g c = λ count is done. simulates-count c.in-Load.count count (sym c.in-Load.is ∙ c.in-Ok.ensures.value ∙ is) (c.load.ensures.simulates done)

pub returns-in-Replay-clause-unread : goal.returns-in-Replay-clause-unread
returns-in-Replay-clause-unread g c = λ untaped. reads-tape _ _ (tape_printout (over_events (replay c.in-Replay.first_id))) (sym c.in-Replay.is ∙ c.in-Ok.ensures.value) refl refl untaped

pub returns-in-Model-clause-unread : goal.returns-in-Model-clause-unread
returns-in-Model-clause-unread g c = λ untaped. reads-tape _ _ (tape_printout (model_of c.in-Model.device)) (sym c.in-Model.is ∙ c.in-Ok.ensures.value) refl refl untaped

pub returns-in-Show-clause-unread : goal.returns-in-Show-clause-unread
returns-in-Show-clause-unread g c = λ untaped. reads-tape _ _ (tape_printout (over_events (show c.in-Show.side))) (sym c.in-Show.is ∙ c.in-Ok.ensures.value) refl refl untaped
