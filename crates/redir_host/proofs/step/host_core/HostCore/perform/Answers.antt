use Rattle.std.proofs.Common.{List, ℕ, refl, sym, ap, subst, take, ◌∙◌}
use Rattle.std.specs.Prelude.{OnOk, OnErr}
use Rattle.std.proofs.lemmas.Result.{on_ok_weaker}
use Rattle.redir_host.specs.state.Kept.{HostKept}
use Rattle.redir_host.specs.step.Acts.{Perform}
use Rattle.redir_host.specs.step.Items.{Performs}
use Rattle.redir_host.specs.step.Stands.{Does, DoesAct, IsReady, StopsIn}
use Rattle.redir_host.specs.inner.Views.{kept_of}
use Rattle.redir_host.proofs.lemmas.write.Begun.{front-begun}
use Rattle.redir_host.proofs.lemmas.step.Stands.{stands-performed}
use Rattle.redir_host.proofs.lemmas.step.Wanted.{on_err_both, on_err_given, on_ok_given, performed-gives, stops-one}
use Rattle.redir_host.proofs.lemmas.step.Calls.{after-call}
use Rattle.redir_host.proofs.step.host_core.HostCore.perform.Given
use Rattle.redir_host.proofs.step.host_core.HostCore.perform.Goals as goal

left : (g : Given.Over) (c : goal.After-fail_on_err g) → IsReady g.G.Gadget.meaning (kept_of c.fail_on_err.new.self) × OnOk c.fail_on_err.result (Does g.G.Gadget.meaning (Perform c.args.ep) c.args.self.now (kept_of c.fail_on_err.new.self) c.args.out.now c.cut_on_err-told.new.self)
left g c =
    let m = g.G.Gadget.meaning in
    let old = kept_of c.self.inside.inner in
    let mid = record old { host = c.perform-performed.new.self } in
    let did : OnOk c.cut_on_err-told.result (Does m (Perform c.args.ep) old mid c.args.out.now c.cut_on_err-told.new.self) = on_ok_given c.cut_on_err-told.result c.perform-performed.result c.cut_on_err-told.ensures.same
    (λ makes kept first acts stands.
    subst (λ (out : List ℕ). DoesAct m first mid acts (Perform c.args.ep) c.args.out.now out) (sym kept)
    (stands-performed m g.met.G.Gadget.lawful first old mid acts c.args.ep c.args.out.now c.perform-performed.new.out stands refl makes))
    c.perform-performed.ensures.makes c.cut_on_err-told.ensures.ok in
    after-call m (Perform c.args.ep) c.args.self.now old mid (kept_of c.fail_on_err.new.self) c.fail_on_err.result c.cut_on_err-told.result c.args.out.now c.cut_on_err-told.new.self c.self.view_is c.fail_on_err.ensures.same (c.self.invariant c.in_ok-works.ensures.ok)
    did (on_ok_weaker c.cut_on_err-told.result (λ e. ap kept_of e) c.fail_on_err.ensures.ok) c.fail_on_err.ensures.err

pub invariant_of-self : goal.invariant_of-self
invariant_of-self g c = (left g c).0

pub returns-clause-does : goal.returns-clause-does
returns-clause-does g c = (left g c).1

pub returns-clause-stops : goal.returns-clause-stops
returns-clause-stops g c =
    let m = g.G.Gadget.meaning in
    let h = c.self.inside.inner.host in
    let was = ap (λ (n : ℕ). take n c.perform-performed.new.out) c.len-before.ensures in
    let same = on_err_both c.perform-performed.result (λ front taken. taken ∙ was ∙ front-begun _ _ front) c.perform-performed.ensures.err c.cut_on_err-told.ensures.err in
    let stops : OnErr c.cut_on_err-told.result (StopsIn m (Perform c.args.ep) (kept_of c.self.inside.inner) c.args.out.now c.cut_on_err-told.new.self) = on_err_given c.cut_on_err-told.result c.perform-performed.result c.cut_on_err-told.ensures.same
    (λ stops. stops)
    (on_err_both c.perform-performed.result
    (λ some stands-still first acts stands.
    stops-one m first acts (Perform c.args.ep) (Performs c.args.ep) h c.args.out.now c.cut_on_err-told.new.self refl stands.host (performed-gives m h c.args.ep some) stands-still)
    c.perform-performed.ensures.wants same) in
    subst (λ (k : HostKept _). OnErr c.fail_on_err.result (StopsIn m (Perform c.args.ep) k c.args.out.now c.cut_on_err-told.new.self)) c.self.view_is
    (on_err_given c.fail_on_err.result c.cut_on_err-told.result c.fail_on_err.ensures.same (λ stops. stops) stops)
