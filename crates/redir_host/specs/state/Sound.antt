-- What is known of a host whatever its guest sends: its requests are transfers, and their answers can be written.
use Rattle.std.specs.Prelude.{◌≡◌, ℕ, ◌<◌, ◌≤◌, ◌^◌, true, false}
use Rattle.std.specs.List.{AllByRecursion}
use Rattle.usb_base.specs.Endpoint.{is_control, is_in_endpoint}
use Rattle.redir_wire.specs.declared.packet.Caps.{Caps}
use Rattle.redir_wire.specs.declared.packet.Way.TheVariants.{ToGuest}
use Rattle.redir_wire.specs.declared.packet.TheConstants.Caps.{WIDE_BULK_LENGTH}
use Rattle.redir_wire.specs.declared.state.RedirState.{RedirState}
use Rattle.redir_wire.specs.Capability.{has}
use Rattle.redir_wire.specs.State.{wide_ids}
use Rattle.redir_wire.specs.Header.{IdFits}
use Rattle.redir_wire.specs.Written.{CanWrite}
use Rattle.redir_data.specs.declared.packet.RedirPacket.{RedirPacket}
use Rattle.redir_data.specs.declared.packet.RedirPacket.TheVariants.{Plain, Carrying}
use Rattle.redir_data.specs.Ranges.{BulkLengthFits}
use Rattle.redir_data.specs.Written as carrying
use Rattle.model_device.specs.Transfer.{IsTransfer}
use Rattle.redir_host.specs.declared.state.host.Host.{Host}
use Rattle.usb_base.specs.declared.limits.TheConstants.{MAX_TRANSFER}
use Rattle.redir_host.specs.declared.state.request.Form.{Form}
use Rattle.redir_host.specs.declared.state.request.Form.TheVariants as form
use Rattle.redir_host.specs.declared.state.request.Request.{Request}
use Rattle.redir_host.specs.declared.state.running.Running.{Running}

-- the guest can be told this packet
abbrev pub CanTell : Caps → ℕ → RedirPacket → Type 0
CanTell caps id (Plain p) = CanWrite id caps p
CanTell caps id (Carrying d) = carrying.CanWrite id ToGuest caps d

-- the length field of an answer has room for it
abbrev pub DoneFits : Form → ℕ → Type 0
DoneFits (form.Control setup) done = done < 2 ^ 16
DoneFits form.Interrupt done = done < 2 ^ 16
DoneFits _ done = Unit {0}

-- the length field of its packet has room for what it wants, and a bulk transfer is within its limit
abbrev pub WantedFits : Caps → Form → ℕ → Type 0
WantedFits caps (form.Bulk stream) wanted = (wanted ≤ MAX_TRANSFER) × BulkLengthFits (has caps WIDE_BULK_LENGTH) wanted
WantedFits caps _ wanted = wanted < 2 ^ 16

-- the fields of its answer have room for the setup's value and index, or for the stream
abbrev pub FormFits : Form → Type 0
FormFits (form.Control setup) = (setup.value < 2 ^ 16) × (setup.index < 2 ^ 16)
FormFits (form.Bulk stream) = stream < 2 ^ 32
FormFits _ = Unit {0}

pub record IsGuestRequest (guest : RedirState) (q : Request) : Type 0 where
  -- a request comes behind the hello
  pub greeted : guest.first ≡ false
  pub id_fits : IdFits (wide_ids guest.caps) q.id
  pub transfer : IsTransfer q.transfer
  pub wanted_fits : WantedFits guest.caps q.form q.transfer.wanted
  pub form_fits : FormFits q.form
  -- only requests of endpoint 0 are marked
  pub marked : q.reset ≡ true → is_control q.transfer.ep ≡ true

pub record IsRunning (guest : RedirState) (s : Running) : Type 0 where
  pub greeted : guest.first ≡ false
  pub in_endpoint : is_in_endpoint s.ep ≡ true

pub record IsSound {S : Type 0} (h : Host S) : Type 0 where
  pub requests : AllByRecursion (IsGuestRequest h.guest) h.queue
  pub streams : AllByRecursion (IsRunning h.guest) h.running
