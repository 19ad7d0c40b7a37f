use Rattle.std.proofs.Common.{inl, inr, sym, ap, ◌∙◌, arith, Some}
use Rattle.urb_arena.specs.declared.cells.Links.{Links}
use Rattle.urb_arena.proofs.Views.{table_front}
use Rattle.urb_arena.proofs.table.Table.front.Goals as goal

pub returns-then-place-self : goal.returns-then-place-self
returns-then-place-self g c =
    let e = ap (λ (l : Links). l.next) c.link-place.ensures.value in let low = c.if-place-self.true in
    elim (table_front c.args.self.now c.requires.0 c.args.lane c.requires.1) [ inl h ↦ h.1 | inr h ↦ absurd (let far = h.0 in omega (arith, e, low, far)) ]

pub returns-else-place-self : goal.returns-else-place-self
returns-else-place-self g c =
    let e = ap (λ (l : Links). l.next) c.link-place.ensures.value in let high = c.if-place-self.false in
    elim (table_front c.args.self.now c.requires.0 c.args.lane c.requires.1) [ inl h ↦ absurd (let low = h.0 in omega (arith, e, high, low)) | inr h ↦ h.1 ∙ ap Some (sym e) ]
