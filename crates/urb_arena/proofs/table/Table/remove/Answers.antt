use Rattle.std.proofs.Common.{◌-◌, sym, ap, refl, ◌∙◌, arith}
use Rattle.std.proofs.lemmas.Bool.{iff_false}
use Rattle.urb_arena.specs.Inner.Turns.{moved}
use Rattle.urb_arena.proofs.Views.{table_dead, table_found, table_some, table_removed}
use Rattle.urb_arena.proofs.table.Table.remove.Goals as goal

pub returns-then-not-is_live-clause-value : goal.returns-then-not-is_live-clause-value
returns-then-not-is_live-clause-value g c = sym (table_dead c.args.self.now c.requires c.args.place (iff_false c.if-not-is_live.ensures refl)).0

pub returns-then-not-is_live-clause-lanes : goal.returns-then-not-is_live-clause-lanes
returns-then-not-is_live-clause-lanes g c = (table_dead c.args.self.now c.requires c.args.place (iff_false c.if-not-is_live.ensures refl)).2

pub overflow_sub-self : goal.overflow_sub-self
overflow_sub-self g c = table_some c.args.self.now c.requires c.args.place (c.if-not-is_live.ensures.0 refl)

pub returns-clause-table : goal.returns-clause-table
returns-clause-table g c =
    let t = c.args.self.now in let k = c.args.place in let live = c.if-not-is_live.ensures.0 refl in let some = table_some t c.requires k live in (
      (table_removed t c.requires k live (t.len - 1) (omega (arith, some)) c.shift.new.self (c.shift.ensures.rest.0 ∙ c.take-value.ensures.rest.0)
          (c.shift.ensures.links ∙ ap (λ ls. moved ls k t.lanes) c.take-value.ensures.rest.1) (c.shift.ensures.rest.1 ∙ c.take-value.ensures.rest.2)).0,
      refl,
      refl,
    )

pub returns-clause-value : goal.returns-clause-value
returns-clause-value g c = sym (table_found c.args.self.now c.requires c.args.place (c.if-not-is_live.ensures.0 refl) ∙ c.take-value.ensures.value)

pub returns-clause-lanes : goal.returns-clause-lanes
returns-clause-lanes g c =
    let t = c.args.self.now in let k = c.args.place in let live = c.if-not-is_live.ensures.0 refl in let some = table_some t c.requires k live in
    (table_removed t c.requires k live (t.len - 1) (omega (arith, some)) c.shift.new.self (c.shift.ensures.rest.0 ∙ c.take-value.ensures.rest.0)
    (c.shift.ensures.links ∙ ap (λ ls. moved ls k t.lanes) c.take-value.ensures.rest.1) (c.shift.ensures.rest.1 ∙ c.take-value.ensures.rest.2)).1

pub returns-clause-len : goal.returns-clause-len
returns-clause-len g c =
    let some = table_some c.args.self.now c.requires c.args.place (c.if-not-is_live.ensures.0 refl) in omega (arith, some)
