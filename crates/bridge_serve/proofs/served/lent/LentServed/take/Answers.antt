use Rattle.std.proofs.Common.{◌++◌, List, [], ℕ, cond, refl, sym, ap, ◌∙◌}
use Rattle.bridge_run.specs.events.Events.{event_of}
use Rattle.bridge_serve.specs.served.Lent.{acts_of}
use Rattle.bridge_serve.proofs.lemmas.served.Acts.{lent-sends, on-both}
use Rattle.bridge_serve.proofs.lemmas.served.Halts.{lent-part, on-err}
use Rattle.bridge_serve.proofs.served.lent.LentServed.take.Goals as goal

pub returns-clause-sends : goal.returns-clause-sends
returns-clause-sends g c =
    on-both c.act-acted.result _ _ _
    (λ acted refused first past lent.
    let m = g.G.Gadget.meaning in
    lent-sends m first c.args.self.now c.act-acted.new.self past (event_of c.args.event) c.args.sent.now _ lent
    (acted first (acts_of m first past) lent.stands) c.act-acted.ensures.come (c.hand_on.ensures.sent ∙ ap (λ (l : List ℕ). l ++ cond c.act-acted.new.self.has_come c.act-acted.new.self.waiting []) (sym c.requires)) refl (refused first (acts_of m first past) lent.stands) refl)
    c.act-acted.ensures.acts c.act-acted.ensures.refusals

pub returns-clause-stops : goal.returns-clause-stops
returns-clause-stops g c =
    on-err c.act-acted.result _ _
    (λ halts first past lent.
    let m = g.G.Gadget.meaning in
    lent-part m first c.args.self.now c.act-acted.new.self past (event_of c.args.event) c.args.sent.now _ lent (halts first (acts_of m first past) lent.stands) c.act-acted.ensures.come c.requires c.hand_on.ensures.sent refl)
    c.act-acted.ensures.stops
