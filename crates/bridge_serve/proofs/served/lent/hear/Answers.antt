use Rattle.std.proofs.Common.{sym, ◌∙◌, ◌∷◌}
use Rattle.redir_host.specs.step.Acts.{Piece}
use Rattle.bridge_serve.proofs.lemmas.served.Acts.{heard-refused, heard-used, on-ok}
use Rattle.bridge_serve.proofs.lemmas.served.Halts.{stop-piece, stop-refused, stop-used, on-err, err-all}
use Rattle.bridge_serve.proofs.served.lent.hear.Goals as goal

pub returns-then-has_refusal-clause-acts : goal.returns-then-has_refusal-clause-acts
returns-then-has_refusal-clause-acts g c = λ first past stands.
    heard-refused g.G.Gadget.meaning first c.take.new.self past c.args.bytes.now c.in_ok-notes.notes c.args.out.now c.take.new.out (c.in_ok-notes.ensures.takes first past stands) (sym c.has_refusal.ensures ∙ c.if-has_refusal.true)

pub returns-clause-acts : goal.returns-clause-acts
returns-clause-acts g c =
    on-ok c.use_device.result _ _
    (λ uses first past stands.
    let t = c.in_ok-notes.ensures.takes first past stands in
    heard-used g.G.Gadget.meaning first c.take.new.self c.use_device.new.core past c.args.bytes.now c.in_ok-notes.notes c.args.out.now c.take.new.out c.use_device.new.out t (sym c.has_refusal.ensures ∙ c.if-has_refusal.false)
    (uses first (Piece c.args.bytes.now ∷ past) t.does.stands))
    c.use_device.ensures.acts

pub returns-in_err-notes-clause-stops : goal.returns-in_err-notes-clause-stops
returns-in_err-notes-clause-stops g c = err-all c.from_residual.result _ (λ first past stands.
    stop-piece g.G.Gadget.meaning first past c.args.bytes.now c.args.out.now c.take.new.out _ (c.in_err-notes.ensures.stops first past stands))

pub returns-in_err-push_refusals-clause-stops : goal.returns-in_err-push_refusals-clause-stops
returns-in_err-push_refusals-clause-stops g c = err-all c.from_residual-in_err-push_refusals.result _ (λ first past stands.
    stop-refused g.G.Gadget.meaning first c.take.new.self past c.args.bytes.now c.in_ok-notes.notes c.args.out.now c.take.new.out (c.in_ok-notes.ensures.takes first past stands) c.in_err-push_refusals.ensures.wants)

pub returns-clause-stops : goal.returns-clause-stops
returns-clause-stops g c =
    on-err c.use_device.result _ _
    (λ uses first past stands.
    let t = c.in_ok-notes.ensures.takes first past stands in
    stop-used g.G.Gadget.meaning first c.take.new.self past c.args.bytes.now c.in_ok-notes.notes c.args.out.now c.take.new.out c.use_device.new.out _ t (sym c.has_refusal.ensures ∙ c.if-has_refusal.false)
    (uses first (Piece c.args.bytes.now ∷ past) t.does.stands))
    c.use_device.ensures.stops
