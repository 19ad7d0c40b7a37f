-- What an item means, by what the past says: its effect, the fact that it tells, and the ids of its packets.
use Rattle.std.specs.Prelude.{ℕ, ◌+◌, ◌&&◌, not, Bool, if◌then◌else◌, List, [], ◌∷◌, ◌++◌, length, map, filter, Option, Some, None, is_none}
use Rattle.std.specs.List.{find}
use Rattle.std.specs.Option.{option_map_or}
use Rattle.usb_base.specs.declared.side.Side.{Side}
use Rattle.usb_base.specs.declared.side.Side.TheVariants.{Client, Host}
use Rattle.usb_base.specs.declared.reason.Reason.{Reason}
use Rattle.usb_base.specs.declared.reason.Reason.TheVariants.{NotImported, AlreadyImported, DuplicateSeq}
use Rattle.usb_base.specs.declared.refusal.Refusal.{Refusal}
use Rattle.usb_base.specs.declared.transfer.Outcome.{Outcome}
use Rattle.usb_base.specs.declared.transfer.StreamPacket.{StreamPacket}
use Rattle.usb_base.specs.Endpoint.{row_of, is_in_endpoint}
use Rattle.stream_buffers.specs.Held.{is_full}
use Rattle.usb_base.specs.Status.{status_of, is_success}
use Rattle.usb_base.specs.Lists.{is_empty}
use Rattle.usbip_op.specs.declared.packet.OpPacket.TheVariants as op
use Rattle.usbip_urb.specs.declared.packet.UrbPacket.TheVariants as urb
use Rattle.redir_wire.specs.declared.packet.Connect.{Connect}
use Rattle.redir_wire.specs.declared.packet.Header.{Header}
use Rattle.redir_wire.specs.declared.packet.RedirControl.TheVariants as plain
use Rattle.redir_wire.specs.Capability.{announced, caps_of, agreed}
use Rattle.redir_wire.specs.Header.{head_size}
use Rattle.redir_data.specs.declared.packet.RedirData.TheVariants as data_packet
use Rattle.redir_data.specs.declared.packet.RedirPacket.{RedirPacket}
use Rattle.redir_data.specs.declared.packet.RedirPacket.TheVariants.{Plain, Carrying}
use Rattle.redir_data.specs.declared.stream_kind.StreamKind.{StreamKind}
use Rattle.redir_data.specs.declared.stream_kind.StreamKind.TheVariants.{Iso, Interrupt}
use Rattle.redir_data.specs.StreamKinds.{is_kind_of}
use Rattle.usbip_urb.specs.declared.client.ClientPacket.{ClientPacket}
use Rattle.usbip_urb.specs.declared.client.ClientPacket.TheVariants.{Op, Urb}
use Rattle.gate_history.specs.declared.item.Item.{Item}
use Rattle.gate_history.specs.declared.item.Item.TheVariants.{Asked, ClientWrong, ClientLeft, Told, HostWrong, HostLeft}
use Rattle.gate_history.specs.declared.request.Request.{Request}
use Rattle.gate_history.specs.client.Requests.{request_of}
use Rattle.gate_history.specs.declared.verdict.Situation.{Situation}
use Rattle.gate_history.specs.declared.verdict.Verdict.{Verdict}
use Rattle.gate_history.specs.declared.verdict.Verdict.TheVariants.{Stream}
use Rattle.gate_history.specs.client.Verdict.{verdict, goes_by_id}
use Rattle.gate_history.specs.step.Marks.{Submission, Fact, Connected, Interfaces, Endpoints, Configuration, Effect, Idle, Replies, Imports, Opens, Waits, Arrives, Unlinks, Agrees, Answers, StreamTold, Disconnects, Ends, Refuses, Mark}
use Rattle.gate_history.specs.state.Sides.{refusal}
use Rattle.gate_history.specs.state.Ids.{last_of}
use Rattle.gate_history.specs.host.Fillings.{fill, none_filled}
use Rattle.gate_history.specs.client.Ends.{has_id, waits_at}
use Rattle.gate_history.specs.state.Ups.{Up, stream_at, stream_of, held_of}
use Rattle.gate_history.specs.state.Flight.{wide_ids, wide_bulk}
use Rattle.gate_history.specs.state.State.{State, submits, next_ids, has_number, change_waits}
use Rattle.gate_history.specs.client.Replies.{list_reply, import_reply, failed_import, is_exported}
use Rattle.gate_history.specs.write.Packets.{packets_of, asked_packets}
use Rattle.gate_history.specs.host.Responses.{Response, response_of, expected_of, mismatch, told_outcome}
use Rattle.redir_wire.specs.EpTable.{table_of}

abbrev pub refused : Side → ℕ → Reason → Effect
refused side place reason = Refuses (refusal side place reason)

-- ---- imports

-- the device that an import of this bus id gets. An import waits until the host has answered all that an earlier client
-- left, and the last stop of its streams
abbrev pub importable : State → List ℕ → Option Connect
importable st busid = if is_exported busid && is_empty st.abandoned && is_none st.fence then st.facts.connect else None

abbrev pub imported_as : State → Option Connect → Effect
imported_as st connect = option_map_or (λ c. Imports (import_reply st.facts c)) connect (Replies failed_import)

-- ---- submits

-- what its verdict goes by
abbrev pub situation : State → Request → Situation
situation st r = record { lost = st.sides.lost; live = length st.live; changing = change_waits st; row = row_of st.facts.table r.transfer.ep; wide = wide_bulk st.sides.agreed }

abbrev pub verdict_of : State → Request → Verdict
verdict_of st r = verdict (situation st r) r

-- the ids of the packets that ask the host for it
abbrev pub drawn_for : State → Request → Verdict → List ℕ
drawn_for st r v = next_ids st (length (packets_of st.streams v r))

-- only some are answered by their ids
abbrev pub submission : State → Request → Verdict → List ℕ → Submission
submission st r v ids = record { place = st.items; request = r; verdict = v; id = if goes_by_id v then last_of 0 ids else 0 }

-- a stream that is up keeps its row
abbrev pub by_stream : Option Up → Verdict → Verdict
by_stream (Some up) (Stream row) = Stream up.row
by_stream up v = v

-- the requests that wait for packets of an endpoint's stream
abbrev pub waiting : State → ℕ → List Request
waiting st ep = map (λ s. s.request) (filter (waits_at ep) (submits st))

abbrev pub accepted_as : State → Submission → Verdict → Effect
accepted_as st s (Stream row) =
    let ep = s.request.transfer.ep in
    Waits s (fill row.max_packet (waiting st ep ++ s.request ∷ []) (held_of (stream_at st.streams ep)))
accepted_as st s v = Opens s

abbrev pub accepts : State → Request → Verdict → Effect
accepts st r v =
    let kept = by_stream (stream_at st.streams r.transfer.ep) v in
    accepted_as st (submission st r kept (drawn_for st r kept)) kept

-- ---- the client's packets

abbrev pub asked_meaning : State → ℕ → ClientPacket → Effect
asked_meaning st place (Op (op.ReqDevlist status)) = if st.sides.imported then refused Client place AlreadyImported else Replies (list_reply st.facts)
asked_meaning st place (Op (op.ReqImport status busid)) =
    if st.sides.imported then refused Client place AlreadyImported else imported_as st (importable st busid)
asked_meaning st place (Urb (urb.Submit s)) =
    if not st.sides.imported then refused Client place NotImported
    else if has_number st s.head.seqnum then refused Client (place + 4) DuplicateSeq
    else accepts st (request_of s) (verdict_of st (request_of s))
asked_meaning st place (Urb (urb.Unlink u)) = if not st.sides.imported then refused Client place NotImported else Unlinks u.head.seqnum u.target
asked_meaning st place _ = Idle

-- ---- the host's packets

abbrev pub answered_as : ℕ → Outcome → Option Refusal → Effect
answered_as id o wrong = option_map_or Refuses wrong (Answers id o)

-- an answer to nobody means nothing
abbrev pub answer_to : State → ℕ → Header → Response → Option Submission → Effect
answer_to st place h response asked =
    option_map_or (λ s. answered_as h.id (told_outcome s.request s.verdict response) (mismatch place (head_size (wide_ids st.sides.agreed)) (expected_of s) h.kind response)) asked Idle

abbrev pub by_response : State → ℕ → Header → Option Response → Effect
by_response st place h response = option_map_or (λ r. answer_to st place h r (find (has_id h.id) (submits st ++ st.abandoned))) response Idle

-- a packet of a stream is held where the stream is of its kind and has room; any other is lost
abbrev pub is_held : StreamKind → Up → Bool
is_held kind up = is_kind_of kind up.row.kind && not (is_full up.held)

abbrev pub arrives : State → ℕ → StreamKind → StreamPacket → Option Up → Effect
arrives st ep kind packet stream =
    option_map_or (λ up. Arrives ep (if is_held kind up then fill up.row.max_packet (waiting st ep) (up.held ++ packet ∷ []) else none_filled up.held)) stream Idle

abbrev pub by_arrival : State → ℕ → StreamKind → ℕ → List ℕ → Effect
by_arrival st ep kind status body = arrives st ep kind (record { status = status_of status; body = body }) (stream_of st.streams ep)

-- those of an IN endpoint's stream go by no id
abbrev pub told_meaning : State → ℕ → Header → RedirPacket → Effect
told_meaning st place h (Plain (plain.Hello hello)) = Agrees (agreed (caps_of hello) announced)
told_meaning st place h (Plain plain.Disconnect) = Disconnects h.id
told_meaning st place h (Plain (plain.IsoStatus status endpoint)) = StreamTold h.id endpoint (status_of status)
told_meaning st place h (Plain (plain.InterruptStatus status endpoint)) = StreamTold h.id endpoint (status_of status)
told_meaning st place h (Carrying (data_packet.Interrupt endpoint status length body)) =
    if is_in_endpoint endpoint then by_arrival st endpoint Interrupt status body
    else by_response st place h (response_of (Carrying (data_packet.Interrupt endpoint status length body)))
told_meaning st place h (Carrying (data_packet.Iso endpoint status length body)) = if is_in_endpoint endpoint then by_arrival st endpoint Iso status body else Idle
told_meaning st place h p = by_response st place h (response_of p)

abbrev pub meaning : State → Item → Effect
meaning st (Asked place packet) = asked_meaning st place packet
meaning st (ClientWrong place reason) = refused Client place reason
meaning st ClientLeft = Ends Client
meaning st (Told place header packet) = told_meaning st place header packet
meaning st (HostWrong place reason) = refused Host place reason
meaning st HostLeft = Ends Host

-- ---- the fact that it tells

abbrev pub fact_of : RedirPacket → Option Fact
fact_of (Plain (plain.Connect connect)) = Some (Connected connect)
fact_of (Plain (plain.InterfaceInfo info)) = Some (Interfaces info)
fact_of (Plain (plain.EpInfo info)) = Some (Endpoints (table_of info))
fact_of (Plain (plain.ConfigurationStatus status configuration)) = if is_success (status_of status) then Some (Configuration configuration) else None
fact_of _ = None

abbrev pub told_by : Item → Option Fact
told_by (Told place header packet) = fact_of packet
told_by _ = None

-- ---- the ids of its packets

abbrev pub drawn_by : State → Effect → List ℕ
drawn_by st e = next_ids st (length (asked_packets st.streams e))

abbrev pub mark_as : State → Effect → Option Fact → Mark
mark_as st e told = record { what = e; told = told; drawn = drawn_by st e }

abbrev pub mark_of : State → Item → Mark
mark_of st x = mark_as st (meaning st x) (told_by x)
