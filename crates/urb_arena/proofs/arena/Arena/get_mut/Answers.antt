use Rattle.std.proofs.Common.{sym, refl, ◌∙◌, inl}
use Rattle.std.proofs.lemmas.Bool.{iff_false}
use Rattle.urb_arena.specs.ArenaView.{arena_view}
use Rattle.urb_arena.proofs.Views.{table_dead, table_found, table_written}
use Rattle.urb_arena.proofs.arena.Arena.get_mut.Goals as goal

pub returns-then-not-is_live : goal.returns-then-not-is_live
returns-then-not-is_live g c =
    rw (← c.self.view_is, ← c.key.view_is) (refl, record { writes_back = tt; value = sym (table_dead c.self.inside.table c.self.invariant c.key.inside.place (iff_false c.if-not-is_live.ensures refl)).0 })

pub invariant_of-self-lent : goal.invariant_of-self-lent
invariant_of-self-lent g c = λ w. (table_written c.self.inside.table c.self.invariant c.key.inside.place (c.if-not-is_live.ensures.0 refl) w).0

pub returns : goal.returns
returns g c =
    let t = c.self.inside.table in let k = c.key.inside.place in let live = c.if-not-is_live.ensures.0 refl in
    rw (← c.self.view_is, ← c.key.view_is) (
      (λ i. inl (c.lend_mut.result.ghost_name, λ w. arena_view ((table_written t c.self.invariant k live w).1 i) t.capacity)),
      record { writes_back = tt; value = sym (table_found t c.self.invariant k live ∙ c.lend_mut.ensures.value) },
    )
