use Rattle.std.proofs.Common.{is_some, refl, sym, ap, subst, ◌∙◌, rules}
use Rattle.gate_core.specs.declared.step.inner.Inner.{Inner}
use Rattle.gate_core.specs.inner.step.Steps.{kept_of}
use Rattle.gate_core.specs.step.Stands.{HasPast, piece_of}
use Rattle.gate_core.proofs.lemmas.step.Received.{incoming-tells, incoming-ready}
use Rattle.gate_core.proofs.gate.Gate.take_from.Goals as goal

-- the memory that streams keep is not seen
pub take_from-taken-requires-clause-past : goal.take_from-taken-requires-clause-past
take_from-taken-requires-clause-past g c =
    subst (λ (inner : Inner). HasPast (kept_of inner)) (sym c.keep_memory.ensures.stands) (c.self.invariant (search rules))

pub invariant_of-self : goal.invariant_of-self
invariant_of-self g c works =
    let same = (c.in_err-taken.ensures.none refl).0 ∙ c.keep_memory.ensures.stands in
    subst (λ (inner : Inner). HasPast (kept_of inner)) (sym same) (c.self.invariant (sym (ap (λ (inner : Inner). is_some inner.want) same) ∙ works))

-- it stands for one event more, or nothing came
pub invariant_of-self-2 : goal.invariant_of-self-2
invariant_of-self-2 g c =
    rw c.tell.ensures.kept (incoming-ready _ (piece_of c.args.side) c.args.limit c.in_ok-taken.field-0 _ _ _ _ _ _
    (subst (λ (inner : Inner). HasPast (kept_of inner)) (sym c.keep_memory.ensures.stands) (c.self.invariant (search rules))) c.in_ok-taken.ensures.came)

pub returns-clause-came : goal.returns-clause-came
returns-clause-came g c =
    let k = c.keep_memory.ensures in
    let x = c.exchange-2.ensures in
    let came = rw (k.stands, c.exchange.ensures.outputs, k.client, k.host, c.new-out.ensures) at c.in_ok-taken.ensures.came in
    rw (c.tell.ensures.told, c.tell.ensures.kept, x.client, x.host, x.outputs, sym c.self.view_is)
    (incoming-tells _ c.args.side c.args.limit c.in_ok-taken.field-0 c.self.inside.inner c.take_from-taken.new.self _ _ c.args.to_client.now c.args.to_host.now c.take_from-taken.new.out came)
