-- What a packet of the guest makes of its host.
use Rattle.std.specs.Prelude.{ℕ, ◌==◌, ◌&&◌, ◌||◌, not, Bool, true, if◌then◌else◌, List, [], ◌∷◌, ◌++◌, filter, Option, Some, None}
use Rattle.std.specs.List.{find}
use Rattle.usb_base.specs.Endpoint.{is_address, is_control, is_in_endpoint, row_of}
use Rattle.usb_base.specs.declared.endpoint.EpTable.{EpTable}
use Rattle.usb_base.specs.declared.status.UsbStatus.{UsbStatus}
use Rattle.usb_base.specs.declared.status.UsbStatus.TheVariants.{Success, Inval}
use Rattle.usb_base.specs.Status.{status_byte}
use Rattle.usb_base.specs.declared.transfer.Transfer.{Transfer}
use Rattle.redir_wire.specs.declared.packet.RedirControl.TheVariants as plain
use Rattle.redir_data.specs.declared.packet.RedirPacket.{RedirPacket}
use Rattle.redir_data.specs.declared.packet.RedirPacket.TheVariants.{Plain, Carrying}
use Rattle.redir_data.specs.Streams.{advanced}
use Rattle.redir_data.specs.declared.stream_kind.StreamKind.{StreamKind}
use Rattle.redir_data.specs.declared.stream_kind.StreamKind.TheVariants.{Iso, Interrupt}
use Rattle.redir_data.specs.StreamKinds.{is_kind_of}
use Rattle.control_route.specs.declared.route.Route.TheVariants as route
use Rattle.chapter9.specs.Standard.{ended}
use Rattle.model_device.specs.Meaning.{Meaning}
use Rattle.redir_host.specs.declared.state.host.Host.{Host}
use Rattle.redir_host.specs.declared.write.note.HostNote.TheVariants as note
use Rattle.redir_host.specs.declared.state.request.Asking.{Asking}
use Rattle.redir_host.specs.declared.state.request.Asking.TheVariants.{Nothing, Refuses, Asks}
use Rattle.redir_host.specs.declared.state.request.Form.{Form}
use Rattle.redir_host.specs.declared.state.request.Form.TheVariants as form
use Rattle.redir_host.specs.declared.state.request.Request.{Request}
use Rattle.redir_host.specs.declared.state.running.Running.{Running}
use Rattle.redir_host.specs.state.Queues.{is_cancelled_by, after_cancel, leaves_mark}
use Rattle.redir_host.specs.device.Facts.{connect_of, facts_of}
use Rattle.redir_host.specs.guest.Asking.{asking_of, routed}
use Rattle.redir_host.specs.write.Answers.{answer_by, cancelled}
use Rattle.redir_host.specs.step.Moves.{Move, quiet, replies}

-- ---- requests

-- the request joins its queue, as the last; a reset that waits marks the next one of endpoint 0
abbrev pub request : Bool → ℕ → Form → Transfer → Request
request reset id f t = record { id = id; form = f; transfer = t; reset = reset }

abbrev pub queued : {S : Type 0} → Host S → Bool → ℕ → Form → Transfer → Host S
queued h first id f t = record h { queue = h.queue ++ request (first && h.resets_next) id f t ∷ []; resets_next = not first && h.resets_next }

abbrev pub joins : {S : Type 0} → Host S → ℕ → Form → Transfer → Move S
joins h id f t = quiet (queued h (is_control t.ep) id f t)

-- what can't be asked is refused at once
abbrev pub data_move : {S : Type 0} → Host S → ℕ → Asking → Move S
data_move h id Nothing = quiet h
data_move h id (Refuses f ep) = replies h (id, answer_by 0 f ep (ended Inval))
data_move h id (Asks f t) = joins h id f t

-- ---- cancels

abbrev pub cancel_move : {S : Type 0} → Host S → ℕ → Option Request → Move S
cancel_move h id None = quiet h
cancel_move {S = S} h id (Some q) =
    let left : Host S = record h { queue = after_cancel id h.queue; resets_next = leaves_mark id h.queue || h.resets_next } in
    record (replies left (cancelled q)) { notes = note.Cancelled id ∷ [] }

-- ---- streams

-- an IN endpoint of the stream's kind
abbrev pub can_start : EpTable → StreamKind → ℕ → Bool
can_start table k ep = is_address ep && (is_in_endpoint ep && is_kind_of k (row_of table ep).kind)

abbrev pub runs_at : ℕ → Running → Bool
runs_at ep s = s.ep == ep

abbrev pub stopped : ℕ → List Running → List Running
stopped ep running = filter (λ s. not (runs_at ep s)) running

abbrev pub started : StreamKind → ℕ → List Running → List Running
started k ep running = stopped ep running ++ record { ep = ep; kind = k } ∷ []

-- how a start or a stop went
abbrev pub status_of : StreamKind → UsbStatus → ℕ → RedirPacket
status_of Iso status ep = Plain (plain.IsoStatus (status_byte status) ep)
status_of Interrupt status ep = Plain (plain.InterruptStatus (status_byte status) ep)

abbrev pub start_move : {S : Type 0} → Bool → Host S → ℕ → StreamKind → ℕ → Move S
start_move can h id k ep =
    if can then replies (record h { running = started k ep h.running }) (id, status_of k Success ep)
    else replies h (id, status_of k Inval ep)

-- a stop of either type ends the endpoint's stream
abbrev pub stop_move : {S : Type 0} → Host S → ℕ → StreamKind → ℕ → Move S
stop_move h id k ep = replies (record h { running = stopped ep h.running }) (id, status_of k Success ep)

-- ---- all packets

-- the guest is told of the device
abbrev pub greets : {S : Type 0} → Meaning S → Host S → Move S
greets m h = record { host = h; sent = facts_of h.guest.caps m h.gadget ++ (0, Plain (plain.Connect (connect_of h.guest.caps m.identity))) ∷ []; notes = [] }

abbrev pub packet_move_by : {S : Type 0} → Meaning S → Host S → ℕ → RedirPacket → Move S
packet_move_by m h id (Plain (plain.Hello x)) = greets m h
packet_move_by m h id (Plain plain.Reset) = quiet (record h { resets_next = true })
packet_move_by m h id (Plain (plain.SetConfiguration configuration)) = joins h id (form.SetConfiguration configuration) (routed (route.SetConfig configuration))
packet_move_by m h id (Plain plain.GetConfiguration) = joins h id form.GetConfiguration (routed route.GetConfig)
packet_move_by m h id (Plain (plain.SetAlt interface alt)) = joins h id (form.SetAlt interface alt) (routed (route.SetAlt interface alt))
packet_move_by m h id (Plain (plain.GetAlt interface)) = joins h id (form.GetAlt interface) (routed (route.GetAlt interface))
packet_move_by m h id (Plain (plain.StartIso ep pkts_per_urb no_urbs)) = start_move (can_start (m.table h.gadget) Iso ep) h id Iso ep
packet_move_by m h id (Plain (plain.StopIso ep)) = stop_move h id Iso ep
packet_move_by m h id (Plain (plain.StartInterrupt ep)) = start_move (can_start (m.table h.gadget) Interrupt ep) h id Interrupt ep
packet_move_by m h id (Plain (plain.StopInterrupt ep)) = stop_move h id Interrupt ep
packet_move_by m h id (Plain plain.Cancel) = cancel_move h id (find (is_cancelled_by id) h.queue)
packet_move_by m h id (Plain _) = quiet h
packet_move_by m h id (Carrying d) = data_move h id (asking_of d)

-- an unplugged host answers nothing, but reads on
abbrev pub packet_move : {S : Type 0} → Meaning S → Host S → ℕ → RedirPacket → Move S
packet_move {S = S} m h id p =
    let g : Host S = record h { guest = advanced h.guest p } in
    if h.unplugged then quiet g else packet_move_by m g id p
