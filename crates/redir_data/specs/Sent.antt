-- What a side sends: packets, each with its id.
use Rattle.std.specs.Prelude.{ℕ, List}
use Rattle.redir_wire.specs.declared.packet.Caps.{Caps}
use Rattle.redir_wire.specs.declared.packet.Header.{Header}
use Rattle.redir_wire.specs.declared.packet.Way.{Way}
use Rattle.redir_wire.specs.Spelling as wire
use Rattle.redir_wire.specs.State.{later}
use Rattle.redir_wire.specs.Written.{packet_bytes}
use Rattle.redir_data.specs.declared.packet.RedirPacket.{RedirPacket}
use Rattle.redir_data.specs.declared.packet.RedirPacket.TheVariants.{Plain, Carrying}
use Rattle.redir_data.specs.Spelling.{header_of}
use Rattle.redir_data.specs.Streams.{stream_format}
use Rattle.redir_data.specs.Written as carrying

-- its header, where these capabilities are agreed
abbrev pub sent_header : Caps → ℕ × RedirPacket → Header
sent_header caps (id, Plain p) = wire.header_of id caps p
sent_header caps (id, Carrying d) = header_of id caps d

-- its bytes
abbrev pub sent_packet_bytes : Caps → ℕ × RedirPacket → List ℕ
sent_packet_bytes caps (id, Plain p) = packet_bytes id caps p
sent_packet_bytes caps (id, Carrying d) = carrying.packet_bytes id caps d

-- spelled with these capabilities, it is read as it is by one who has them
abbrev pub CanBeRead : Way → Caps → ℕ × RedirPacket → Type 0
CanBeRead way caps p = (stream_format way (later caps)).Fits (sent_header caps p, p.1)
