-- All packets of a stream: those that move no data, whose numbers are below `FIRST_DATA`, and those that move some.
use Rattle.std.specs.Prelude.{ℕ, Bool, List, ◌⊎◌}
use Rattle.std.proofs.Common.{inl, inr}
use Rattle.std.specs.Int.{w32}
use Rattle.usb_base.specs.declared.reason.Reason.{Reason}
use Rattle.usb_base.specs.Number.{le_at}
use Rattle.packet_stream.specs.Format.{Format}
use Rattle.packet_stream.specs.Joined.{joined}
use Rattle.redir_wire.specs.declared.state.RedirState.{RedirState}
use Rattle.redir_wire.specs.declared.packet.Way.{Way}
use Rattle.redir_wire.specs.declared.packet.Header.{Header}
use Rattle.redir_wire.specs.declared.packet.RedirControl.{RedirControl}
use Rattle.redir_wire.specs.Plain.{is_plain, plain}
use Rattle.redir_wire.specs.Plain as wire
use Rattle.redir_data.specs.declared.packet.RedirData.{RedirData}
use Rattle.redir_data.specs.declared.packet.RedirPacket.{RedirPacket}
use Rattle.redir_data.specs.declared.packet.RedirPacket.TheVariants.{Plain, Carrying}
use Rattle.redir_data.specs.Carrying.{carrying, has_data}

abbrev pub begins_plain : List ℕ → Bool
begins_plain b = is_plain (le_at w32 0 b)

abbrev pub from_packet : Header × RedirPacket → (Header × RedirControl) ⊎ (Header × RedirData)
from_packet (h, Plain p) = inl (h, p)
from_packet (h, Carrying p) = inr (h, p)

-- the packets of a stream that goes this way: the hello, where it is still to come, or a later one with the agreed
-- capabilities
abbrev pub redir_packets : RedirState → Way → Format (Header × RedirPacket) Reason
redir_packets s way = joined begins_plain (λ p. (p.0, Plain p.1)) (λ p. (p.0, Carrying p.1)) from_packet (plain s way) (carrying s way)

-- only data, and the packets without data that lie on the heap, take memory
abbrev pub takes_memory : Header × RedirPacket → Bool
takes_memory (h, Plain p) = wire.takes_memory p
takes_memory (h, Carrying p) = has_data p
