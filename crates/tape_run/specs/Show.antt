-- The command `show`: a line for each packet of one side's stream, at its place. A wrong place has a line, too, which
-- is the last of its stream. Each client's stream is split by itself.
use Rattle.std.specs.Prelude.{ℕ, ◌||◌, Bool, false, if◌then◌else◌, List, [], ◌∷◌, ◌++◌, Option, Some, None, is_some}
use Rattle.std.specs.List.{flat_map}
use Rattle.usb_base.specs.declared.side.Side.{Side}
use Rattle.usb_base.specs.declared.side.Side.TheVariants.{Client, Host}
use Rattle.usb_base.specs.declared.reason.Reason.{Reason}
use Rattle.usb_base.specs.Refusal.{refusal_line}
use Rattle.packet_stream.specs.Split.{Reader, Position, Splitting, split}
use Rattle.packet_stream.specs.Streams.{capped}
use Rattle.usbip_urb.specs.declared.packet.UrbPacket.TheVariants as urb
use Rattle.usbip_urb.specs.declared.client.ClientPacket.{ClientPacket}
use Rattle.usbip_urb.specs.declared.client.ClientPacket.TheVariants.{Op, Urb}
use Rattle.redir_wire.specs.declared.packet.Header.{Header}
use Rattle.redir_data.specs.declared.packet.RedirPacket.{RedirPacket}
use Rattle.packet_show.specs.Client.{client_line}
use Rattle.packet_show.specs.Urb.{urb_line}
use Rattle.packet_show.specs.Redir.{redir_line}
use Rattle.gate_history.specs.step.Events.{PastEvent, client_bytes, host_bytes}
use Rattle.redir_data.specs.Streams.{stream_start}
use Rattle.gate_history.specs.step.Streams.{client_reader, client_start, host_reader}
use Rattle.tape_run.specs.tape.EventCommand.{EventCommand}
use Rattle.usb_base.specs.Lists.{gained}

-- how a side is shown
pub record Shown (S P : Type 0) : Type 0 where
  pub side : Side
  pub reader : Reader S P Reason
  pub start : Position S
  -- the bytes of the side's present stream
  pub bytes : List PastEvent → List ℕ
  -- the line of a packet at a place
  pub line : ℕ → P → List ℕ

-- ---- a stream

abbrev pub packet_lines : {S P : Type 0} → Shown S P → List (ℕ × P) → List ℕ
packet_lines shown packets = flat_map (λ i. shown.line (capped i.0) i.1) packets

abbrev pub wrong_line : Side → Option (ℕ × Reason) → List ℕ
wrong_line side None = []
wrong_line side (Some w) = refusal_line (record { side = side; place = capped w.0; reason = w.1; kept = None })

abbrev pub split_text : {S P : Type 0} → Shown S P → Splitting S P Reason → List ℕ
split_text shown x = packet_lines shown x.packets ++ wrong_line shown.side x.wrong

abbrev pub stream_split : {S P : Type 0} → Shown S P → List PastEvent → Splitting S P Reason
stream_split shown events = split shown.reader shown.start (shown.bytes events)

abbrev pub stream_text : {S P : Type 0} → Shown S P → List PastEvent → List ℕ
stream_text shown events = split_text shown (stream_split shown events)

-- ---- events

-- the side's present stream has met a wrong place
abbrev pub is_wrong : {S P : Type 0} → Shown S P → List PastEvent → Bool
is_wrong shown events = is_some (stream_split shown events).wrong

-- that one, or one before it
abbrev pub was_wrong : {S P : Type 0} → Shown S P → List PastEvent → Bool
was_wrong shown [] = false
was_wrong shown (e ∷ events) = was_wrong shown events || is_wrong shown (e ∷ events)

abbrev pub show_side : {S P : Type 0} → Shown S P → EventCommand
show_side shown = record {
  opening = [];
  text = λ events e. if is_wrong shown events then [] else gained (stream_text shown) events e;
  closing = λ events. [];
  refused = λ events. was_wrong shown events;
}

-- ---- both sides

-- a client sends requests alone, and an answer has no line
abbrev pub asked_line : ℕ → ClientPacket → List ℕ
asked_line place (Op packet) = client_line place packet
asked_line place (Urb (urb.Submit submit)) = urb_line place (urb.Submit submit)
asked_line place (Urb (urb.Unlink unlink)) = urb_line place (urb.Unlink unlink)
asked_line place packet = []

abbrev pub told_line : ℕ → Header × RedirPacket → List ℕ
told_line place packet = redir_line place packet.0 packet.1

abbrev pub show : Side → EventCommand
show Client = show_side (record { side = Client; reader = client_reader; start = client_start; bytes = client_bytes; line = asked_line })
show Host = show_side (record { side = Host; reader = host_reader; start = stream_start; bytes = host_bytes; line = told_line })
