use Rattle.std.proofs.Common.{[], refl}
use Rattle.bridge_serve.specs.served.Lent.{used}
use Rattle.bridge_serve.proofs.lemmas.served.Acts.{acts-then, on-ok}
use Rattle.bridge_serve.proofs.lemmas.served.Halts.{stop-then, stop-longer, performed-more, offered-more, on-err, err-all}
use Rattle.bridge_serve.proofs.served.lent.use_device.Goals as goal

pub returns-clause-acts : goal.returns-clause-acts
unfolding used
returns-clause-acts g c =
    on-ok c.use_each-3.result _ _
    (λ last first past stands.
    let m = g.G.Gadget.meaning in
    let a = rw c.all_out.ensures at c.in_ok-use_each.ensures.acts first past stands in
    let b = rw c.all_in.ensures at c.in_ok-use_each-2.ensures.acts first _ a.stands in
    let d = rw c.all_in-2.ensures at last first _ b.stands in
    acts-then m first c.use_each-2.new.core c.use_each-3.new.core past _ _ c.args.out.now c.use_each-2.new.out c.use_each-3.new.out
    (acts-then m first c.use_each.new.core c.use_each-2.new.core past _ _ c.args.out.now c.use_each.new.out c.use_each-2.new.out a b) d)
    c.use_each-3.ensures.acts

pub returns-in_err-use_each-clause-stops : goal.returns-in_err-use_each-clause-stops
returns-in_err-use_each-clause-stops g c = err-all c.from_residual.result _ (λ first past stands.
    stop-longer g.G.Gadget.meaning first past _ (used past) c.args.out.now c.use_each.new.out
    (rw c.all_out.ensures at c.in_err-use_each.ensures.stops first past stands) (performed-more past))

pub returns-in_err-use_each-2-clause-stops : goal.returns-in_err-use_each-2-clause-stops
returns-in_err-use_each-2-clause-stops g c = err-all c.from_residual-in_err-use_each-2.result _ (λ first past stands.
    let a = rw c.all_out.ensures at c.in_ok-use_each.ensures.acts first past stands in
    stop-then g.G.Gadget.meaning first c.use_each.new.core past _ _ (used past) c.args.out.now c.use_each.new.out c.use_each-2.new.out a
    (rw c.all_in.ensures at c.in_err-use_each-2.ensures.stops first _ a.stands) (offered-more past))

pub returns-clause-stops : goal.returns-clause-stops
unfolding used
returns-clause-stops g c =
    on-err c.use_each-3.result _ _
    (λ last first past stands.
    let m = g.G.Gadget.meaning in
    let a = rw c.all_out.ensures at c.in_ok-use_each.ensures.acts first past stands in
    let b = rw c.all_in.ensures at c.in_ok-use_each-2.ensures.acts first _ a.stands in
    let d = rw c.all_in-2.ensures at last first _ b.stands in
    stop-then m first c.use_each-2.new.core past _ _ _ c.args.out.now c.use_each-2.new.out c.use_each-3.new.out
    (acts-then m first c.use_each.new.core c.use_each-2.new.core past _ _ c.args.out.now c.use_each.new.out c.use_each-2.new.out a b) d ([], refl))
    c.use_each-3.ensures.stops
