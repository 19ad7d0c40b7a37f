use Rattle.std.proofs.Common.{refl, ap}
use Rattle.std.specs.Prelude.{OnOk}
use Rattle.std.proofs.lemmas.Result.{on_ok_weaker}
use Rattle.redir_host.specs.step.Acts.{Unplug}
use Rattle.redir_host.specs.step.Stands.{Does, IsReady}
use Rattle.redir_host.specs.inner.Views.{kept_of}
use Rattle.redir_host.proofs.lemmas.step.Stands.{stands-unplugged}
use Rattle.redir_host.proofs.lemmas.step.Calls.{after-call}
use Rattle.redir_host.proofs.step.host_core.HostCore.unplug.Given
use Rattle.redir_host.proofs.step.host_core.HostCore.unplug.Goals as goal

left : (g : Given.Over) (c : goal.After-fail_on_err g) → IsReady g.G.Gadget.meaning (kept_of c.fail_on_err.new.self) × OnOk c.fail_on_err.result (Does g.G.Gadget.meaning Unplug c.args.self.now (kept_of c.fail_on_err.new.self) c.args.out.now c.unplug-told.new.out)
left g c =
    let m = g.G.Gadget.meaning in
    let old = kept_of c.self.inside.inner in
    let mid = record old { host = c.unplug-told.new.self } in
    let did : OnOk c.unplug-told.result (Does m Unplug old mid c.args.out.now c.unplug-told.new.out) = on_ok_weaker c.unplug-told.result (λ makes first acts stands. stands-unplugged m first old mid acts c.args.out.now c.unplug-told.new.out stands refl makes) c.unplug-told.ensures.makes in
    after-call m Unplug c.args.self.now old mid (kept_of c.fail_on_err.new.self) c.fail_on_err.result c.unplug-told.result c.args.out.now c.unplug-told.new.out c.self.view_is c.fail_on_err.ensures.same (c.self.invariant c.in_ok-works.ensures.ok)
    did (on_ok_weaker c.unplug-told.result (λ e. ap kept_of e) c.fail_on_err.ensures.ok) c.fail_on_err.ensures.err

pub invariant_of-self : goal.invariant_of-self
invariant_of-self g c = (left g c).0

pub returns-clause-does : goal.returns-clause-does
returns-clause-does g c = (left g c).1
