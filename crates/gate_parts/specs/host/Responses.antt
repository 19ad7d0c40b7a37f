-- Answers as the code has them, and what a request in flight makes of them by its row.
use Rattle.std.specs.Prelude.{ℕ, Bool, true, false, if◌then◌else◌, List, [], ◌∷◌, length, filter, Option, Some, None, ◌≡◌}
use Rattle.usb_base.specs.declared.transfer.Outcome.{Outcome}
use Rattle.usb_base.specs.declared.transfer.StreamPacket.{StreamPacket}
use Rattle.usb_base.specs.Endpoint.{is_in_endpoint}
use Rattle.usb_base.specs.declared.status.UsbStatus.{UsbStatus}
use Rattle.usb_base.specs.Status.{status_of, is_success}
use Rattle.usbip_urb.specs.declared.client.ClientPacket.{ClientPacket}
use Rattle.redir_wire.specs.Table.{data_row, plain_row}
use Rattle.redir_data.specs.declared.packet.RedirData.{RedirData}
use Rattle.redir_data.specs.declared.packet.RedirData.TheVariants as data_packet
use Rattle.redir_data.specs.declared.stream_kind.StreamKind.TheVariants.{Iso, Interrupt}
use Rattle.unlink_race.specs.declared.live.Live.{Live}
use Rattle.unlink_race.specs.declared.live.LiveKind.{LiveKind}
use Rattle.unlink_race.specs.declared.live.LiveKind.TheVariants as live_kind
use Rattle.unlink_race.specs.declared.ending.Ending.{Ending}
use Rattle.unlink_race.specs.declared.ending.Ending.TheVariants.{Unlinked}
use Rattle.gate_parts.specs.declared.host.response.Response.{Response as RawResponse}
use Rattle.gate_parts.specs.declared.host.response.Response.TheVariants as raw
use Rattle.gate_parts.specs.declared.host.response.StreamIn.{StreamIn}
use Rattle.gate_history.specs.step.Marks.{Submission, Effect, Idle, Answers}
use Rattle.gate_history.specs.host.Responses.{Response, Data, Status, wire_answer, route_answer, route_gets, Expected, got, told_outcome}
use Rattle.gate_history.specs.write.All.{is_ret_submit, is_won_unlink}
use Rattle.gate_history.specs.write.Asked.{IsMoved}

abbrev pub response_view : RawResponse → Response
response_view (raw.Data endpoint length_place o) = Data endpoint length_place o
response_view (raw.Status status value) = Status status value

-- a status of success
abbrev pub has_succeeded : Response → Bool
has_succeeded (Status status value) = is_success (status_of status)
has_succeeded (Data endpoint length_place o) = false

-- what a status gives, with its value or without
abbrev pub status_outcome : UsbStatus → Bool → ℕ → Outcome
status_outcome status tells value = got status (if tells then value ∷ [] else [])

-- ---- packets of streams

-- the IN endpoint of whose stream a packet is, and the kind that it is of
abbrev pub stream_in : RedirData → Option StreamIn
stream_in (data_packet.Interrupt endpoint status length body) = if is_in_endpoint endpoint then Some (record { endpoint = endpoint; kind = Interrupt }) else None
stream_in (data_packet.Iso endpoint status length body) = if is_in_endpoint endpoint then Some (record { endpoint = endpoint; kind = Iso }) else None
stream_in _ = None

abbrev pub packet_in : RedirData → StreamPacket
packet_in (data_packet.Control endpoint request kind status value index length body) = record { status = status_of status; body = body }
packet_in (data_packet.Bulk endpoint status length stream body) = record { status = status_of status; body = body }
packet_in (data_packet.Interrupt endpoint status length body) = record { status = status_of status; body = body }
packet_in (data_packet.Iso endpoint status length body) = record { status = status_of status; body = body }

-- ---- by a row

-- the number of its answer's type
abbrev pub row_answer : LiveKind → ℕ
row_answer (live_kind.Wire ep kind) = (data_row (wire_answer kind)).number
row_answer (live_kind.Routed route) = (plain_row (route_answer route)).number
row_answer (live_kind.Stream ep interface) = 0

-- a route is a request of endpoint 0
abbrev pub row_ep : LiveKind → ℕ
row_ep (live_kind.Wire ep kind) = ep
row_ep (live_kind.Routed route) = 0
row_ep (live_kind.Stream ep interface) = ep

abbrev pub row_gets : LiveKind → Bool
row_gets (live_kind.Routed route) = route_gets route
row_gets _ = false

abbrev pub expected_by : Live → Expected
expected_by l = record { kind = row_answer l.kind; ep = row_ep l.kind; wanted = l.wanted }

-- its data are those of the request
abbrev pub IsAnswer : Live → Response → Type 0
IsAnswer l (Data endpoint length_place o) = IsMoved l.is_in o
IsAnswer l (Status status value) = Unit {0}

-- ---- what it does

-- an answer that is that of the request which waits for it, if one does
abbrev pub completes : ℕ → Response → Option Submission → Effect
completes id response None = Idle
completes id response (Some s) = Answers id (told_outcome s.request s.verdict response)

abbrev pub has_won : Ending → Bool
has_won (Unlinked by) = true
has_won _ = false

-- the answers of one request: its unlink has won, or it is answered itself
pub record IsCounted (packets : List ClientPacket) (ending : Ending) : Type 0 where
  pub answered : length (filter is_ret_submit packets) ≡ (if has_won ending then 0 else 1)
  pub unlinked : length (filter is_won_unlink packets) ≡ (if has_won ending then 1 else 0)
