-- The packets of the host that answer a request by its id: how far each must be that of its request, and what came of
-- the transfer.
use Rattle.std.specs.Prelude.{ℕ, ◌+◌, ◌==◌, ◌&&◌, nat_lt, not, Bool, true, false, if◌then◌else◌, List, [], ◌∷◌, length, take, Option, Some, None}
use Rattle.usb_base.specs.declared.endpoint.EpKind.{EpKind}
use Rattle.usb_base.specs.declared.endpoint.EpKind.TheVariants as ep_kind
use Rattle.usb_base.specs.declared.side.Side.TheVariants.{Host}
use Rattle.usb_base.specs.declared.reason.Reason.TheVariants.{Mismatch}
use Rattle.usb_base.specs.declared.refusal.Refusal.{Refusal}
use Rattle.usb_base.specs.declared.status.UsbStatus.{UsbStatus}
use Rattle.usb_base.specs.declared.transfer.Outcome.{Outcome}
use Rattle.usb_base.specs.Status.{status_of, is_success}
use Rattle.usb_base.specs.Endpoint.{is_in_endpoint}
use Rattle.redir_wire.specs.declared.kind.DataKind.{DataKind}
use Rattle.redir_wire.specs.declared.kind.DataKind.TheVariants as data_kind
use Rattle.redir_wire.specs.declared.kind.PlainKind.{PlainKind}
use Rattle.redir_wire.specs.declared.kind.PlainKind.TheVariants as plain_kind
use Rattle.redir_wire.specs.declared.packet.RedirControl.TheVariants as plain
use Rattle.redir_wire.specs.Table.{data_row, plain_row}
use Rattle.redir_data.specs.declared.packet.RedirData.TheVariants as data_packet
use Rattle.redir_data.specs.declared.packet.RedirPacket.{RedirPacket}
use Rattle.redir_data.specs.declared.packet.RedirPacket.TheVariants.{Plain, Carrying}
use Rattle.control_route.specs.declared.route.Route.{Route}
use Rattle.control_route.specs.declared.route.Route.TheVariants as route
use Rattle.usb_base.specs.Number.{capped}
use Rattle.gate_history.specs.declared.request.Request.{Request}
use Rattle.gate_history.specs.declared.verdict.Verdict.{Verdict}
use Rattle.gate_history.specs.declared.verdict.Verdict.TheVariants.{Wire, Routed}
use Rattle.gate_history.specs.client.Verdict.{pipe_kind}
use Rattle.gate_history.specs.step.Marks.{Submission}

pub data Response : Type 0 where
  -- a data packet, whose length stands so many bytes behind its header
  Data : (endpoint length_place : ℕ) → Outcome → Response
  -- the status of a configuration or an alternate setting, which tells its value
  Status : (status value : ℕ) → Response

abbrev pub outcome : ℕ → ℕ → List ℕ → Outcome
outcome status done body = record { status = status_of status; done = done; body = body }

-- an interrupt or isochronous packet of an IN endpoint is one of a stream, and goes by no id
abbrev pub response_of : RedirPacket → Option Response
response_of (Plain (plain.ConfigurationStatus status configuration)) = Some (Status status configuration)
response_of (Plain (plain.AltStatus status interface alt)) = Some (Status status alt)
response_of (Carrying (data_packet.Control endpoint request kind status value index length body)) = Some (Data endpoint 8 (outcome status length body))
response_of (Carrying (data_packet.Bulk endpoint status length stream body)) = Some (Data endpoint 2 (outcome status length body))
response_of (Carrying (data_packet.Interrupt endpoint status length body)) = if is_in_endpoint endpoint then None else Some (Data endpoint 2 (outcome status length body))
response_of _ = None

-- ---- whether it is the answer of the request that has its id

-- the type of the packet that answers a transfer on the wire, by the kind of its endpoint
abbrev pub wire_answer : EpKind → DataKind
wire_answer ep_kind.Control = data_kind.Control
wire_answer ep_kind.Interrupt = data_kind.Interrupt
wire_answer _ = data_kind.Bulk

-- that of the packet that answers those of a route
abbrev pub route_answer : Route → PlainKind
route_answer (route.SetAlt interface alt) = plain_kind.AltStatus
route_answer (route.GetAlt interface) = plain_kind.AltStatus
route_answer _ = plain_kind.ConfigurationStatus

-- its number; those that go by no id have none
abbrev pub answer_kind : Verdict → ℕ
answer_kind (Wire pipe) = (data_row (wire_answer (pipe_kind pipe))).number
answer_kind (Routed r) = (plain_row (route_answer r)).number
answer_kind _ = 0

abbrev pub mismatched : ℕ → ℕ → ℕ → Refusal
mismatched place expected came = record { side = Host; place = capped place; reason = Mismatch; kept = Some (expected, came) }

-- what the answer of a request is to be: the number of its type, its endpoint, and its length at most
pub record Expected : Type 0 where
  pub kind : ℕ
  pub ep : ℕ
  pub wanted : ℕ

abbrev pub expected_of : Submission → Expected
expected_of s = record { kind = answer_kind s.verdict; ep = s.request.transfer.ep; wanted = s.request.transfer.wanted }

-- the first that is wrong of its type, its endpoint and its length; the packet begins at `place`, and its header has
-- `head` bytes
abbrev pub mismatch : ℕ → ℕ → Expected → ℕ → Response → Option Refusal
mismatch place head e kind (Status status value) = if kind == e.kind then None else Some (mismatched place e.kind kind)
mismatch place head e kind (Data endpoint length_place o) =
    if not (kind == e.kind) then Some (mismatched place e.kind kind)
    else if not (endpoint == e.ep) then Some (mismatched (place + head) e.ep endpoint)
    else if nat_lt e.wanted o.done then Some (mismatched (place + head + length_place) e.wanted o.done)
    else None

-- ---- what came of the transfer

abbrev pub route_gets : Route → Bool
route_gets route.GetConfig = true
route_gets (route.GetAlt interface) = true
route_gets _ = false

-- the request asks for a value of one byte
abbrev pub gets : Verdict → Bool
gets (Routed r) = route_gets r
gets _ = false

abbrev pub got : UsbStatus → List ℕ → Outcome
got status body = record { status = status; done = length body; body = body }

abbrev pub told_outcome : Request → Verdict → Response → Outcome
told_outcome r v (Data endpoint length_place o) = o
told_outcome r v (Status status value) = got (status_of status) (if is_success (status_of status) && gets v then take r.transfer.wanted (value ∷ []) else [])
