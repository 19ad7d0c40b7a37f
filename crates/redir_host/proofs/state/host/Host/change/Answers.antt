use Rattle.std.proofs.Common.{Ok, Err, refl, sym, subst}
use Rattle.std.specs.Prelude.{Option, Result, OnOk}
use Rattle.std.proofs.lemmas.List.{append-nil}
use Rattle.std.proofs.lemmas.Result.{on_ok_weaker}
use Rattle.usb_base.specs.Status.{is_success}
use Rattle.control_route.specs.declared.route.Route.{Route}
use Rattle.redir_host.specs.device.Changes.{changed_by}
use Rattle.redir_host.specs.step.Makes.{Tells}
use Rattle.redir_host.proofs.lemmas.step.Makes.{tells_changed}
use Rattle.redir_host.proofs.state.host.Host.change.Goals as goal

both : {T E : Type 0} (r : Result T E) (A B : Type 0) → OnOk r A → OnOk r B → OnOk r (A × B)
both (Ok v) A B a b = (a, b)
both (Err e) A B a b = tt

pub returns-in_ok-clear-in-Some-clause-ok : goal.returns-in_ok-clear-in-Some-clause-ok
returns-in_ok-clear-in-Some-clause-ok g c =
    let m = g.G.Gadget.meaning in
    let Says : Option Route → Type 0 = λ change. OnOk c.tell_facts.result (Tells (changed_by m change c.args.table.now (is_success c.args.status) c.args.self.now) c.clear.new.self c.args.out.now c.tell_facts.new.out) in
    subst Says (sym c.in-Some.is)
    (on_ok_weaker c.tell_facts.result
    (λ told. tells_changed m c.in-Some.route c.args.table.now (is_success c.args.status) c.args.self.now c.clear.new.self c.args.out.now c.clear.new.out c.tell_facts.new.out c.in_ok-clear-in-Some.ensures.ok told.0 told.1)
    (both c.tell_facts.result _ _ c.tell_facts.ensures.ok c.tell_facts.ensures.ranges))

pub returns-in-None-clause-ok : goal.returns-in-None-clause-ok
returns-in-None-clause-ok g c =
    let h = c.args.self.now in
    let Says : Option Route → Type 0 = λ change. Tells (changed_by g.G.Gadget.meaning change c.args.table.now (is_success c.args.status) h) h c.args.out.now c.args.out.now in
    subst Says (sym c.in-None.is) (record { makes = record { host = refl; sent = sym (append-nil c.args.out.now) }; in_range = tt })
