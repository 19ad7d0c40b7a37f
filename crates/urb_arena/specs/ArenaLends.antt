-- What an arena ends as, once a `&mut` into it has ended.
use Rattle.std.specs.Prelude.{ℕ, map, Option}
use Rattle.std.specs.Borrow.{Fml, RattleType, MutBor, LendsIf}
use Rattle.urb_arena.specs.ArenaView.{ArenaView, arena_view}
use Rattle.urb_arena.specs.Lanes.{replaced}
use Rattle.urb_arena.specs.contracts.arena.Arena.{the_row}

-- the value of the key is the last one written, and at `None` the arena stays as it is
abbrev pub lends_at : (R : RattleType) → MutBor (ArenaView R.Denot) → ℕ → Option (MutBor R.Denot) → Fml
lends_at R b k r = LendsIf (the_row R) R b r (λ w. arena_view (map (replaced k w) b.now.lanes) b.now.capacity) b.now
