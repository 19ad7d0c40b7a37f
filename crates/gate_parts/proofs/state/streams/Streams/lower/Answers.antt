use Rattle.std.proofs.Common.{◌∙◌, get_or, set, length, sym, ap, arith}
use Rattle.std.proofs.lemmas.List.{length-map}
use Rattle.gate_history.specs.state.Ups.{unless, is_ended}
use Rattle.gate_parts.proofs.lemmas.state.Fronts.{mapped-none, mapped-next, mapped-all}
use Rattle.gate_parts.proofs.state.streams.Streams.lower.Goals as goal

pub loop-up-init : goal.loop-up-init
loop-up-init c = c.self.view_is ∙ sym (mapped-none (unless (is_ended c.args.by)) c.args.self.now)

pub loop-up-preserved : goal.loop-up-preserved
loop-up-preserved c =
    let f = unless (is_ended c.args.by) in
    let place = c.loop-up.up-index in
    let before = c.up-item.result in
    ap (set c.loop-up.up-items place) c.lower_ended.ensures
    ∙ (λ i. set (c.loop-up.invariant i) place (f (get_or (c.loop-up.invariant i) place before)))
    ∙ mapped-next f place c.args.self.now before (omega (arith, ap length c.self.view_is, c.self.invariant, c.loop-up-test.true))

pub returns : goal.returns
returns c =
    c.loop-up.invariant
    ∙ mapped-all (unless (is_ended c.args.by)) c.loop-up.up-index c.args.self.now (omega (arith, ap length c.self.view_is, c.self.invariant, c.loop-up-test.false))

pub invariant_of-self : goal.invariant_of-self
invariant_of-self c =
    let f = unless (is_ended c.args.by) in
    let all = c.loop-up.invariant ∙ mapped-all f c.loop-up.up-index c.args.self.now (omega (arith, ap length c.self.view_is, c.self.invariant, c.loop-up-test.false)) in
    ap length all ∙ length-map c.args.self.now f ∙ sym (ap length c.self.view_is) ∙ c.self.invariant
