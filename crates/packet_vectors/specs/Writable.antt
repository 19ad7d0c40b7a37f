-- What a sender of usbredir may write, whether the packet moves data or not.
use Rattle.std.specs.Prelude.{ℕ}
use Rattle.redir_wire.specs.declared.packet.Caps.{Caps}
use Rattle.redir_wire.specs.declared.packet.Way.{Way}
use Rattle.redir_wire.specs.Written as control
use Rattle.redir_data.specs.Written as moving
use Rattle.redir_data.specs.declared.packet.RedirPacket.{RedirPacket}
use Rattle.redir_data.specs.declared.packet.RedirPacket.TheVariants.{Plain, Carrying}

abbrev pub CanWrite : ℕ → Way → Caps → RedirPacket → Type 0
CanWrite id way caps (Plain p) = control.CanWrite id caps p
CanWrite id way caps (Carrying d) = moving.CanWrite id way caps d
