-- A packet that moves data comes on an endpoint's stream, or as an answer.
use Rattle.std.proofs.Common.{◌≡◌, ℕ, Bool, true, false, cond, Option, Some, None, refl, ap, ◌∙◌}
use Rattle.usb_base.specs.Endpoint.{is_in_endpoint}
use Rattle.redir_wire.specs.declared.packet.Header.{Header}
use Rattle.redir_data.specs.declared.packet.RedirData.{RedirData}
use Rattle.redir_data.specs.declared.packet.RedirData.TheVariants as data_packet
use Rattle.redir_data.specs.declared.packet.RedirPacket.TheVariants.{Carrying}
use Rattle.redir_data.specs.declared.stream_kind.StreamKind.TheVariants.{Iso, Interrupt}
use Rattle.gate_history.specs.state.Ups.{stream_of}
use Rattle.gate_history.specs.step.Marks.{Effect, Idle}
use Rattle.gate_history.specs.state.State.{State}
use Rattle.gate_history.specs.host.Responses.{response_of}
use Rattle.gate_history.specs.step.Meaning.{arrives, by_arrival, by_response, told_meaning}
use Rattle.gate_parts.specs.declared.host.response.StreamIn.{StreamIn}
use Rattle.gate_parts.specs.host.Responses.{stream_in, packet_in}

-- what it means, by the stream that it comes on
abbrev sorted : State → ℕ → Header → RedirData → Option StreamIn → Effect
sorted st at h d None = by_response st at h (response_of (Carrying d))
sorted st at h d (Some x) = arrives st x.endpoint x.kind (packet_in d) (stream_of st.streams x.endpoint)

pub is-sorted : (st : State) (at : ℕ) (h : Header) (d : RedirData) → sorted st at h d (stream_in d) ≡ told_meaning st at h (Carrying d)
is-sorted st at h (data_packet.Control endpoint request kind status value index length body) = refl
is-sorted st at h (data_packet.Bulk endpoint status length stream body) = refl
is-sorted st at h (data_packet.Interrupt endpoint status length body) = go (is_in_endpoint endpoint)
  where
    go : (b : Bool) → sorted st at h (data_packet.Interrupt endpoint status length body) (cond b (Some (record { endpoint = endpoint; kind = Interrupt })) None) ≡ cond b (by_arrival st endpoint Interrupt status body) (by_response st at h (response_of (Carrying (data_packet.Interrupt endpoint status length body))))
    go true = refl
    go false = refl
is-sorted st at h (data_packet.Iso endpoint status length body) = go (is_in_endpoint endpoint)
  where
    go : (b : Bool) → sorted st at h (data_packet.Iso endpoint status length body) (cond b (Some (record { endpoint = endpoint; kind = Iso })) None) ≡ cond b (by_arrival st endpoint Iso status body) Idle
    go true = refl
    go false = refl

pub arrives-so : (st : State) (at : ℕ) (h : Header) (d : RedirData) (x : StreamIn) → Some x ≡ stream_in d → arrives st x.endpoint x.kind (packet_in d) (stream_of st.streams x.endpoint) ≡ told_meaning st at h (Carrying d)
arrives-so st at h d x e = ap (sorted st at h d) e ∙ is-sorted st at h d

pub responds-so : (st : State) (at : ℕ) (h : Header) (d : RedirData) → None ≡ stream_in d → by_response st at h (response_of (Carrying d)) ≡ told_meaning st at h (Carrying d)
responds-so st at h d e = ap (sorted st at h d) e ∙ is-sorted st at h d
