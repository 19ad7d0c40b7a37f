use Rattle.bridge_serve.proofs.lemmas.served.Acts.{on-ok}
use Rattle.bridge_serve.proofs.lemmas.served.NonEmpty.{any-at}
use Rattle.bridge_serve.proofs.lemmas.served.Gate.{gate-takes}
use Rattle.bridge_serve.proofs.lemmas.served.GateStops.{gate-stops, gate-untold}
use Rattle.bridge_serve.proofs.lemmas.served.Halts.{on-err, err-all}
use Rattle.bridge_serve.proofs.served.gate.Gateway.tell.Goals as goal

pub returns-clause-takes : goal.returns-clause-takes
returns-clause-takes c =
    on-ok c.push_refusals.result _ _
    (λ pushed first past e told client host is took. gate-takes c.args.self.now.after_loss first past e told c.args.self.now.gate (record c.args.sent.now { to_client = client; to_host = host }) c.args.sent.now.to_client c.args.sent.now.to_host c.push_refusals.new.refusals c.lets_go.result c.in_ok-notes.notes is (rw c.in_ok-notes.was at took) pushed c.lets_go.ensures.keep c.lets_go.ensures.close)
    c.push_refusals.ensures.pushed

pub returns-clause-stops : goal.returns-clause-stops
returns-clause-stops c =
    on-err c.push_refusals.result _ _
    (λ some first past e told client host is took. gate-untold c.args.self.now.after_loss first past e told c.args.self.now.gate (record c.args.sent.now { to_client = client; to_host = host }) (record c.args.sent.now { refusals = c.push_refusals.new.refusals; lets_go = _ }) c.in_ok-notes.notes is (rw c.in_ok-notes.was at took) (any-at _ 0 some))
    c.push_refusals.ensures.wants

pub returns-in_err-notes-clause-stops : goal.returns-in_err-notes-clause-stops
returns-in_err-notes-clause-stops c =
    err-all c.from_residual.result _
    (λ first past e told client host is took. gate-stops c.args.self.now.after_loss first past e told c.args.self.now.gate (record c.args.sent.now { to_client = client; to_host = host }) c.args.sent.now is (rw c.in_err-notes.was at took))
