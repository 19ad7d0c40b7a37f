use Rattle.std.proofs.Common.{inl, inr, sym, ap, refl, ◌∙◌, arith, Some}
use Rattle.std.proofs.lemmas.Bool.{iff_false}
use Rattle.urb_arena.specs.declared.cells.Links.{Links}
use Rattle.urb_arena.proofs.Views.{table_dead, table_next}
use Rattle.urb_arena.proofs.table.Table.next.Goals as goal

pub returns-then-not-is_live : goal.returns-then-not-is_live
returns-then-not-is_live g c = (table_dead c.args.self.now c.requires c.args.place (iff_false c.if-not-is_live.ensures refl)).1

pub returns-then-onward-self : goal.returns-then-onward-self
returns-then-onward-self g c =
    let e = ap (λ (l : Links). l.next) c.link-onward.ensures.value in let low = c.if-onward-self.true in
    elim (table_next c.args.self.now c.requires c.args.place (c.if-not-is_live.ensures.0 refl)) [ inl h ↦ h.1 | inr h ↦ absurd (let far = h.0 in omega (arith, e, low, far)) ]

pub returns-else-onward-self : goal.returns-else-onward-self
returns-else-onward-self g c =
    let e = ap (λ (l : Links). l.next) c.link-onward.ensures.value in let high = c.if-onward-self.false in
    elim (table_next c.args.self.now c.requires c.args.place (c.if-not-is_live.ensures.0 refl)) [ inl h ↦ absurd (let low = h.0 in omega (arith, e, high, low)) | inr h ↦ h.1 ∙ ap Some (sym e) ]
