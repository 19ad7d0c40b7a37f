-- What a block ends as, once a `&mut` to a value in it has ended.
use Rattle.std.specs.Prelude.{ℕ, List, slice_set, Option, Some}
use Rattle.std.specs.Borrow.{Fml, RattleType, MutBor, Lends}
use Rattle.urb_arena.specs.declared.cells.Block.{Block}
use Rattle.urb_arena.specs.contracts.cells.Block.{the_row}

abbrev pub with_values : {X : Type 0} → Block X → List (Option X) → Block X
with_values c vs = record { mark = c.mark; at = c.at; links = c.links; values = vs }

abbrev pub lends_value : (R : RattleType) → MutBor (Block R.Denot) → ℕ → MutBor R.Denot → Fml
lends_value R c i r = Lends (the_row R) R c r (λ w. with_values c.now (slice_set c.now.values i (Some w)))
