use Rattle.std.proofs.Common.{Option, sym, subst}
use Rattle.usb_base.specs.declared.setup.Setup.{Setup}
use Rattle.gate_history.specs.declared.verdict.Verdict.{Verdict}
use Rattle.gate_history.specs.client.Carried.{IsDirected, IsCarried}
use Rattle.gate_history.proofs.lemmas.client.Carried.{by_setup-carried}
use Rattle.gate_parts.proofs.lemmas.client.Directions.{Reads, by_setup-reads}
use Rattle.gate_parts.proofs.client.verdict.decide.Goals as goal

pub returns-in-Some-clause-reads : goal.returns-in-Some-clause-reads
returns-in-Some-clause-reads c is =
    let r = c.args.request.now in
    subst (λ (v : Verdict). Reads r.is_in r.transfer.ep r.transfer.wanted v) (sym c.by_setup.ensures)
    (by_setup-reads r c.in-Some.setup (subst (λ (o : Option Setup). IsDirected r.is_in o r.transfer.ep) c.in-Some.is is.directed))

pub returns-in-Some-clause-carried : goal.returns-in-Some-clause-carried
returns-in-Some-clause-carried c is =
    let r = c.args.request.now in
    subst (λ (v : Verdict). IsCarried c.args.here.wide v r) (sym c.by_setup.ensures)
    (by_setup-carried c.args.here.wide r c.in-Some.setup is c.in-Some.is (subst (λ (o : Option Setup). IsDirected r.is_in o r.transfer.ep) c.in-Some.is is.directed))
