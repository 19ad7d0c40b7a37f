-- What calls make of a host and its output, and what they need.
use Rattle.std.specs.Prelude.{◌≡◌, ℕ, ◌≤◌, false, List, ◌++◌, length, map, filter, Option}
use Rattle.std.specs.List.{flat_map, AllByRecursion}
use Rattle.usb_base.specs.declared.endpoint.EpTable.{EpTable}
use Rattle.usb_base.specs.declared.transfer.Outcome.{Outcome}
use Rattle.redir_wire.specs.declared.packet.Caps.{Caps}
use Rattle.redir_wire.specs.declared.state.RedirState.{RedirState}
use Rattle.redir_wire.specs.declared.packet.Header.{Header}
use Rattle.redir_wire.specs.declared.packet.Way.TheVariants.{ToGuest, ToHost}
use Rattle.redir_wire.specs.declared.packet.RedirControl.{RedirControl}
use Rattle.redir_wire.specs.declared.packet.TheConstants.Caps.{WIDE_BULK_LENGTH}
use Rattle.redir_wire.specs.Capability.{has}
use Rattle.redir_wire.specs.State.{wide_ids}
use Rattle.redir_wire.specs.Header.{IdFits}
use Rattle.redir_wire.specs.Spelling.{is_hello}
use Rattle.redir_data.specs.declared.packet.RedirPacket.{RedirPacket}
use Rattle.redir_data.specs.Ranges.{BulkLengthFits}
use Rattle.redir_data.specs.Spelling.{data_count}
use Rattle.redir_data.specs.Streams.{stream_format}
use Rattle.control_route.specs.declared.route.Route.{Route}
use Rattle.redir_host.specs.declared.state.host.Host.{Host}
use Rattle.usb_base.specs.declared.limits.TheConstants.{MAX_TRANSFER}
use Rattle.redir_host.specs.declared.write.note.HostNote.{HostNote}
use Rattle.redir_host.specs.declared.write.note.Performed.{Performed}
use Rattle.redir_host.specs.declared.state.request.Form.{Form}
use Rattle.redir_host.specs.declared.state.request.Form.TheVariants as form
use Rattle.redir_host.specs.declared.state.request.Request.{Request}
use Rattle.redir_host.specs.write.Answers.{cancelled}
use Rattle.redir_host.specs.device.Changes.{touched}
use Rattle.redir_data.specs.Sent.{sent_packet_bytes}
use Rattle.redir_host.specs.step.Machine.{bytes_of}
use Rattle.redir_host.specs.step.Moves.{Move}
use Rattle.redir_host.specs.device.Performing.{told_performed_by, perform_move_by}
use Rattle.redir_host.specs.write.Readable.{InRange}
use Rattle.redir_host.specs.state.Sound.{DoneFits}

-- the host is that of the move, and the output gained its bytes
pub record Makes {S : Type 0} (v : Move S) (new : Host S) (old_out new_out : List ℕ) : Type 0 where
  pub host : new ≡ v.host
  pub sent : new_out ≡ old_out ++ bytes_of v

-- and what it sends of the device is in range
pub record Tells {S : Type 0} (v : Move S) (new : Host S) (old_out new_out : List ℕ) : Type 0 where
  pub makes : Makes v new old_out new_out
  pub in_range : AllByRecursion InRange v.sent

-- the host is that of the move, and the output and the notes gained what it sends and tells
pub record TakesMove {S : Type 0} (v : Move S) (new : Host S) (old_out new_out : List ℕ) (old_notes new_notes : List HostNote) : Type 0 where
  pub makes : Makes v new old_out new_out
  pub notes : new_notes ≡ old_notes ++ v.notes

-- this was told of a request that was performed, or of none
pub record TellsPerformed {S : Type 0} (o : Option (ℕ × Move S)) (old new : Host S) (answered : Performed) (old_out new_out : List ℕ) : Type 0 where
  pub told : answered ≡ told_performed_by false o
  pub tells : Tells (perform_move_by old o) new old_out new_out

-- the packet is one that its guest can send now
abbrev pub IsTaken : RedirState → Header → RedirPacket → Type 0
IsTaken guest h p = (stream_format ToHost guest).Fits (h, p)

-- only a hello may have an id of another width
abbrev pub IdFitsOf : Caps → ℕ → RedirControl → Type 0
IdFitsOf caps id p = is_hello p ≡ false → IdFits (wide_ids caps) id

-- the bytes of the answers of those that a change flushes
abbrev pub flushed_bytes : Caps → Route → EpTable → List Request → List ℕ
flushed_bytes caps r table queue = flat_map (sent_packet_bytes caps) (map cancelled (filter (touched r table) queue))

-- the answer of a request of this form and endpoint can be written
abbrev pub LengthFits : Caps → Form → ℕ → Type 0
LengthFits caps (form.Bulk stream) done = BulkLengthFits (has caps WIDE_BULK_LENGTH) done
LengthFits caps _ done = Unit {0}

pub record AnswerFits (caps : Caps) (f : Form) (ep : ℕ) (o : Outcome) : Type 0 where
  pub done : DoneFits f o.done
  pub length_fits : LengthFits caps f o.done
  pub data_there : length o.body ≡ data_count ToGuest ep o.done
  pub few_bytes : length o.body ≤ MAX_TRANSFER
