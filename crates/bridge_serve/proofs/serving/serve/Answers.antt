use Rattle.std.proofs.Common.{ℕ, List, [], ◌++◌, refl, ◌∙◌, ap}
use Rattle.gate_history.specs.write.Bytes.{out_host}
use Rattle.bridge_run.specs.course.Outside.{outside, written}
use Rattle.bridge_run.specs.log.Log.{Told}
use Rattle.bridge_run.proofs.lemmas.course.Open.{making-short}
use Rattle.bridge_run.proofs.lemmas.log.Sink.{told-none}
use Rattle.bridge_run.proofs.lemmas.log.Opening.{with_host, nothing-before}
use Rattle.bridge_serve.specs.served.Gate.{gate_sends}
use Rattle.bridge_serve.specs.served.GateStops.{gate_runs_out}
use Rattle.bridge_serve.proofs.serving.serve.Goals as goal

pub returns-in-Err-clause-leaves : goal.returns-in-Err-clause-leaves
returns-in-Err-clause-leaves g c = λ k b t. making-short (record { served = gate_sends c.args.terms.after_loss c.args.terms.first_id; idle = c.args.terms.run.idle }) k (outside (g.D.Doors.link c.args.doors.now) (g.D.Doors.door c.args.doors.now)) (written (g.K.Sink.contents c.args.out.now) (g.K.Sink.contents c.args.out.now) (g.T.Tape.contents c.args.tape.now)) t

pub returns-clause-leaves : goal.returns-clause-leaves
returns-clause-leaves g c = λ k b t.
    c.run_between.ensures.leaves (c.args.terms.after_loss, c.args.terms.first_id) k (record { stands_for = (refl, c.in-Ok.ensures.made); refuses_none = refl })
    (c.as_slice-hello.ensures ∙ c.in-Ok.ensures.sent ∙ ap (λ (l : List ℕ). l ++ out_host c.args.terms.first_id []) c.new-greeting.ensures) b t

pub returns-in-Err-clause-log : goal.returns-in-Err-clause-log
returns-in-Err-clause-log g c = nothing-before g.D.Doors.call_gives (gate_runs_out c.args.terms.first_id) (Told g.K.Sink.write_gives c.args.out.now c.args.out.now) (with_host c.args.terms.run.host.now c.args.terms.run.listen.now (g.T.Tape.made c.args.tape.now) c.args.terms.run.idle c.args.terms.run.budget) (gate_sends c.args.terms.after_loss c.args.terms.first_id) c.args.doors.now
    (told-none g.K.Sink.write_gives c.args.out.now)

pub returns-clause-log : goal.returns-clause-log
returns-clause-log g c =
    c.run_between.ensures.log (c.args.terms.after_loss, c.args.terms.first_id) (record { stands_for = (refl, c.in-Ok.ensures.made); refuses_none = refl })
    (c.as_slice-hello.ensures ∙ c.in-Ok.ensures.sent ∙ ap (λ (l : List ℕ). l ++ out_host c.args.terms.first_id []) c.new-greeting.ensures)
