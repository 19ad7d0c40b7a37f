-- The history of a list of events: the items in the order in which packets become whole, with what each means.
use Rattle.std.specs.Prelude.{ℕ, ◌+◌, if◌then◌else◌, List, [], ◌∷◌, length}
use Rattle.usb_base.specs.declared.reason.Reason.{Reason}
use Rattle.packet_stream.specs.Split.{Splitting, split}
use Rattle.packet_stream.specs.Items.{items_of, added, onto}
use Rattle.redir_wire.specs.declared.state.RedirState.{RedirState}
use Rattle.redir_wire.specs.declared.packet.Header.{Header}
use Rattle.redir_data.specs.declared.packet.RedirPacket.{RedirPacket}
use Rattle.usbip_urb.specs.declared.client.ClientPacket.{ClientPacket}
use Rattle.gate_history.specs.step.Events.{PastEvent, ClientPiece, ClientEnd, HostPiece, HostEnd, client_bytes, host_bytes}
use Rattle.gate_history.specs.declared.item.Item.{Item}
use Rattle.gate_history.specs.declared.item.Item.TheVariants.{Asked, ClientWrong, ClientLeft, Told, HostWrong, HostLeft}
use Rattle.redir_data.specs.Streams.{stream_start}
use Rattle.gate_history.specs.step.Streams.{client_reader, client_start, host_reader}
use Rattle.gate_history.specs.step.Marks.{Mark}
use Rattle.gate_history.specs.state.Sides.{client_over, host_over}
use Rattle.gate_history.specs.step.Past.{past}

-- ---- the streams of both sides, split into their packets

abbrev pub client_split : List ℕ → Splitting (Unit {0}) ClientPacket Reason
client_split bytes = split client_reader client_start bytes

abbrev pub host_split : List ℕ → Splitting RedirState (Header × RedirPacket) Reason
host_split bytes = split host_reader stream_start bytes

-- the items of a client's bytes, and of the host's
abbrev pub client_items : List ℕ → List Item
client_items bytes = items_of Asked ClientWrong (client_split bytes)

abbrev pub host_items : List ℕ → List Item
host_items bytes = items_of (λ place p. Told place p.0 p.1) HostWrong (host_split bytes)

-- ---- the items of events

abbrev pub brought : List PastEvent → PastEvent → List Item
brought events (ClientPiece b) = added client_items (client_bytes events) b
brought events ClientEnd = ClientLeft ∷ []
brought events (HostPiece b) = added host_items (host_bytes events) b
brought events HostEnd = HostLeft ∷ []

-- all that came, the latest first
abbrev pub arrivals : List PastEvent → List Item
arrivals [] = []
arrivals (e ∷ events) = onto (brought events e) (arrivals events)

-- the ids of its packets begin with the first id
abbrev pub history : ℕ → List PastEvent → List Mark
history first events = past first (arrivals events)

-- ---- what is there of packets that aren't whole

-- the bytes of the present client and of the host, where they aren't over
abbrev pub rest_length : ℕ → List PastEvent → ℕ
rest_length first events =
    (if client_over (history first events) then 0 else length (client_split (client_bytes events)).rest)
    + (if host_over (history first events) then 0 else length (host_split (host_bytes events)).rest)
