use Rattle.std.proofs.Common.{ℕ, ◌+◌, ◌∷◌, drop, sym, ap, ◌∙◌}
use Rattle.std.proofs.lemmas.List.{drop_more}
use Rattle.bridge_serve.specs.inner.Lending.{act_of}
use Rattle.bridge_serve.proofs.lemmas.served.Acts.{midway-none, midway-more}
use Rattle.bridge_serve.proofs.lemmas.served.Halts.{stop-endpoint, err-all}
use Rattle.bridge_serve.proofs.served.lent.use_each.Goals as goal

pub loop-ep-init : goal.loop-ep-init
loop-ep-init g c = λ first past stands. midway-none (act_of c.args.how) g.G.Gadget.meaning first c.args.core.now past c.args.eps.now c.args.out.now stands

pub loop-ep-preserved : goal.loop-ep-preserved
loop-ep-preserved g c = λ first past stands.
    let l = c.loop-ep in
    let xs = c.args.eps.now in
    let i = l.ep-index in
    let ep = c.ep-item.result in
    let x = l.invariant first past stands in
    midway-more (act_of c.args.how) g.G.Gadget.meaning first l.core c.use_endpoint.new.core past xs (drop i xs) ep (drop (i + 1) xs) c.args.out.now l.out c.use_endpoint.new.out
    (drop_more xs i ep c.loop-ep-test.true ∙ ap (λ (e : ℕ). e ∷ drop (i + 1) xs) (sym c.ep-item.is)) x
    (c.in_ok-use_endpoint.ensures.does first x.acts x.done.stands)

pub returns-in_err-use_endpoint-clause-stops : goal.returns-in_err-use_endpoint-clause-stops
returns-in_err-use_endpoint-clause-stops g c = err-all c.from_residual.result _ (λ first past stands.
    let l = c.loop-ep in
    let xs = c.args.eps.now in
    let i = l.ep-index in
    let ep = c.ep-item.result in
    stop-endpoint c.args.how g.G.Gadget.meaning first l.core past xs (drop i xs) ep (drop (i + 1) xs) c.args.out.now l.out c.use_endpoint.new.out
    (drop_more xs i ep c.loop-ep-test.true ∙ ap (λ (e : ℕ). e ∷ drop (i + 1) xs) (sym c.ep-item.is)) (l.invariant first past stands)
    (c.in_err-use_endpoint.ensures.stops first (l.invariant first past stands).acts (l.invariant first past stands).done.stands))
