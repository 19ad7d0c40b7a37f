-- How a guest's bytes are read: its hello, and then packets with the capabilities that are agreed.
use Rattle.std.specs.Prelude.{ℕ, List}
use Rattle.usb_base.specs.declared.reason.Reason.{Reason}
use Rattle.packet_stream.specs.Split.{Reader, Splitting, reads, split}
use Rattle.packet_stream.specs.Streams.{capped}
use Rattle.packet_stream.specs.Items.{items_of}
use Rattle.redir_wire.specs.declared.state.RedirState.{RedirState}
use Rattle.redir_wire.specs.declared.packet.Header.{Header}
use Rattle.redir_wire.specs.declared.packet.Way.TheVariants.{ToHost}
use Rattle.redir_data.specs.declared.packet.RedirPacket.{RedirPacket}
use Rattle.redir_data.specs.Streams.{after, stream_format, stream_start}
use Rattle.redir_host.specs.step.Items.{Item, Asked, Wrong}

abbrev pub guest_reader : Reader RedirState (Header × RedirPacket) Reason
guest_reader = reads (stream_format ToHost) after

abbrev pub guest_split : List ℕ → Splitting RedirState (Header × RedirPacket) Reason
guest_split bytes = split guest_reader stream_start bytes

-- the items of bytes
abbrev pub guest_items : List ℕ → List Item
guest_items bytes = items_of (λ place p. Asked p.0.id p.1) (λ place why. Wrong (capped place) why) (guest_split bytes)
