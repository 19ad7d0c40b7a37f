-- What an offer of an endpoint's stream makes, and the end of the device.
use Rattle.std.specs.Prelude.{ℕ, true, false, if◌then◌else◌, [], ◌∷◌, length, Option, Some, None, is_some}
use Rattle.std.specs.List.{find}
use Rattle.std.specs.Option.{option_map_or}
use Rattle.usb_base.specs.Status.{status_byte}
use Rattle.usb_base.specs.declared.transfer.StreamPacket.{StreamPacket}
use Rattle.redir_wire.specs.declared.packet.RedirControl.TheVariants as plain
use Rattle.redir_data.specs.declared.packet.RedirData.TheVariants as moving
use Rattle.redir_data.specs.declared.packet.RedirPacket.{RedirPacket}
use Rattle.redir_data.specs.declared.packet.RedirPacket.TheVariants.{Plain, Carrying}
use Rattle.redir_data.specs.declared.stream_kind.StreamKind.{StreamKind}
use Rattle.redir_data.specs.declared.stream_kind.StreamKind.TheVariants.{Iso, Interrupt}
use Rattle.model_device.specs.Meaning.{Meaning}
use Rattle.redir_host.specs.declared.state.host.Host.{Host}
use Rattle.redir_host.specs.declared.write.note.Offered.{Offered}
use Rattle.redir_host.specs.declared.write.note.Offered.TheVariants.{Sent, Nothing, Closed, Unplugged}
use Rattle.redir_host.specs.declared.state.running.Running.{Running}
use Rattle.redir_host.specs.step.Moves.{Move, quiet, replies}
use Rattle.redir_host.specs.guest.Packets.{runs_at}

-- ---- offers

-- a packet that the device sends by itself has id 0
abbrev pub stream_packet : StreamKind → ℕ → StreamPacket → ℕ × RedirPacket
stream_packet Iso ep p = (0, Carrying (moving.Iso ep (status_byte p.status) (length p.body) p.body))
stream_packet Interrupt ep p = (0, Carrying (moving.Interrupt ep (status_byte p.status) (length p.body) p.body))

abbrev pub offered_by : {S : Type 0} → Host S → ℕ → StreamKind → Option (S × StreamPacket) → Move S
offered_by h ep k sent = option_map_or (λ s. replies (record h { gadget = s.0 }) (stream_packet k ep s.1)) sent (quiet h)

abbrev pub offered_on : {S : Type 0} → Meaning S → Host S → ℕ → Option Running → Move S
offered_on m h ep stream = option_map_or (λ (s : Running). offered_by h ep s.kind (m.offer h.gadget ep)) stream (quiet h)

-- a host that is unplugged runs no stream
abbrev pub offer_move : {S : Type 0} → Meaning S → Host S → ℕ → Move S
offer_move m h ep = if h.unplugged then quiet h else offered_on m h ep (find (runs_at ep) h.running)

abbrev pub told_offered_by : {S : Type 0} → Meaning S → Host S → ℕ → Option Running → Offered
told_offered_by m h ep None = Closed
told_offered_by m h ep (Some s) = if is_some (m.offer h.gadget ep) then Sent else Nothing

abbrev pub told_offered : {S : Type 0} → Meaning S → Host S → ℕ → Offered
told_offered m h ep = if h.unplugged then Unplugged else told_offered_by m h ep (find (runs_at ep) h.running)

-- ---- the end

-- the guest is told, where it has sent its hello
abbrev pub unplug_move : {S : Type 0} → Host S → Move S
unplug_move h =
    if h.unplugged then quiet h
    else record (quiet (record h { queue = []; resets_next = false; running = []; unplugged = true })) { sent = if h.guest.first then [] else (0, Plain plain.Disconnect) ∷ [] }
