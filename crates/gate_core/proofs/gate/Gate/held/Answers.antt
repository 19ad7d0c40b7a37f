use Rattle.std.proofs.Common.{ℕ, ◌+◌, length, ◌∙◌, ap, sym, subst, arith}
use Rattle.gate_core.specs.state.Kept.{GateKept}
use Rattle.gate_core.specs.step.Stands.{GateStands}
use Rattle.gate_core.specs.inner.step.Steps.{kept_of}
use Rattle.gate_history.proofs.lemmas.step.Rests.{rests-few}
use Rattle.gate_core.proofs.lemmas.step.Rests.{held-all}
use Rattle.gate_core.proofs.gate.Gate.held.Goals as goal

pub returns-clause-all : goal.returns-clause-all
returns-clause-all c first events stands =
    let g = c.self.inside.inner in
    let both = ap (λ (n : ℕ). n + c.held-2.result) c.held.ensures.held ∙ ap (λ (n : ℕ). length g.client.held + n) c.held-2.ensures.held in
    both ∙ held-all first (kept_of g) events (subst (λ (x : GateKept). GateStands first x events) (sym c.self.view_is) stands)

pub returns-clause-few : goal.returns-clause-few
returns-clause-few c first events stands =
    let g = c.self.inside.inner in
    let both = ap (λ (n : ℕ). n + c.held-2.result) c.held.ensures.held ∙ ap (λ (n : ℕ). length g.client.held + n) c.held-2.ensures.held in
    let is = both ∙ held-all first (kept_of g) events (subst (λ (x : GateKept). GateStands first x events) (sym c.self.view_is) stands) in
    omega (arith, is, rests-few first events stands.client.fits stands.host.fits)

pub returns-clause-held : goal.returns-clause-held
returns-clause-held c =
    let g = c.self.inside.inner in
    let both = ap (λ (n : ℕ). n + c.held-2.result) c.held.ensures.held ∙ ap (λ (n : ℕ). length g.client.held + n) c.held-2.ensures.held in
    both ∙ ap (λ (x : GateKept). length x.client.held + length x.host.held) c.self.view_is
