use Rattle.std.proofs.Common.{None, refl}
use Rattle.bridge_run.specs.course.Outside.{outside, written}
use Rattle.bridge_run.specs.log.Log.{Told}
use Rattle.bridge_run.proofs.lemmas.course.Open.{door-short}
use Rattle.bridge_run.proofs.lemmas.log.Sink.{told-none}
use Rattle.bridge_run.proofs.lemmas.log.Opening.{no_host, nothing-before}
use Rattle.bridge_serve.specs.served.Lent.{lent_sends}
use Rattle.bridge_serve.specs.served.LentStops.{LentStops}
use Rattle.bridge_serve.proofs.lending.serve_host.Goals as goal

pub returns-in-Err-clause-leaves : goal.returns-in-Err-clause-leaves
returns-in-Err-clause-leaves g c = λ k b t.
    door-short (record { served = lent_sends g.G.Gadget.meaning c.args.gadget; idle = c.args.idle }) k (outside (g.D.Doors.link c.args.doors.now) (g.D.Doors.door c.args.doors.now)) (written (g.K.Sink.contents c.args.out.now) (g.K.Sink.contents c.args.out.now) None) b.client_down t

pub returns-clause-leaves : goal.returns-clause-leaves
returns-clause-leaves g c = λ k b t. c.run_at_door.ensures.leaves c.args.gadget k (record { stands_for = c.in-Ok.ensures; refuses_none = refl }) b t

pub returns-in-Err-clause-log : goal.returns-in-Err-clause-log
returns-in-Err-clause-log g c = nothing-before g.D.Doors.call_gives (LentStops g.G.Gadget.meaning c.args.gadget) (Told g.K.Sink.write_gives c.args.out.now c.args.out.now) (no_host c.args.listen.now c.args.idle c.args.budget) (lent_sends g.G.Gadget.meaning c.args.gadget) c.args.doors.now (told-none g.K.Sink.write_gives c.args.out.now)

pub returns-clause-log : goal.returns-clause-log
returns-clause-log g c = c.run_at_door.ensures.log c.args.gadget (record { stands_for = c.in-Ok.ensures; refuses_none = refl })
