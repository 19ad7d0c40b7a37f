-- What both sides' end as, once a `&mut` to one side's has ended.
use Rattle.std.specs.Borrow.{Fml, RattleType, MutBor, Lends}
use Rattle.usb_base.specs.declared.side.Side.{Side}
use Rattle.gate_sockets.specs.inner.Both.{with_side}
use Rattle.gate_sockets.specs.declared.both.Both.{Both}
use Rattle.gate_sockets.specs.contracts.both.Both.{the_row}

-- the side's is the last one written, and the other side's stays as it is
abbrev pub lends_side : (T : RattleType) → MutBor (Both T.Denot) → Side → MutBor T.Denot → Fml
lends_side T s side r = Lends (the_row T) T s r (with_side s.now side)
