-- What holds of every device.
use Rattle.std.specs.Prelude.{◌≡◌, ◌≢◌, ℕ, ◌<◌, ◌≤◌, ◌==◌, ◌&&◌, min, Bool, true, false, [], ◌∷◌, length, take, get_or, Some, IsSome, IfSome}
use Rattle.usb_base.specs.Endpoint.{is_control, no_endpoint}
use Rattle.usb_base.specs.declared.endpoint.EpKind.TheVariants.{Iso}
use Rattle.usb_base.specs.Status.{status_of, status_byte}
use Rattle.usb_base.specs.declared.setup.Setup.{Setup}
use Rattle.usb_base.specs.declared.status.UsbStatus.{UsbStatus}
use Rattle.usb_base.specs.declared.status.UsbStatus.TheVariants.{Success}
use Rattle.usb_base.specs.declared.transfer.Transfer.{Transfer}
use Rattle.redir_wire.specs.declared.packet.TheConstants.{MAX_INTERFACES}
use Rattle.chapter9.specs.Requests.{is_request}
use Rattle.chapter9.specs.Standard.{success}
use Rattle.model_device.specs.declared.gadget.TheConstants.{MAX_STREAM_PACKET}
use Rattle.model_device.specs.Transfer.{IsTransfer, IsOutcome, asks_change}
use Rattle.model_device.specs.Meaning.{Meaning}

-- in both states the device has the same configuration, interfaces and endpoints
pub record SameFacts {S : Type 0} (m : Meaning S) (old new : S) : Type 0 where
  pub configuration : m.configuration new ≡ m.configuration old
  pub interfaces : m.interfaces new ≡ m.interfaces old
  pub table : m.table new ≡ m.table old

-- the reset of a port, and GET_CONFIGURATION of any wLength
abbrev pub is_port_reset : Setup → Bool
is_port_reset r = is_request r 0x23 3 && r.value == 4 && r.length == 0

abbrev pub is_get_configuration : Setup → Bool
is_get_configuration r = is_request r 0x80 8

-- a status that its own byte names: `Other` of a byte that has a name is none, since it would be read as that name
abbrev pub IsNamed : UsbStatus → Type 0
IsNamed status = status_of (status_byte status) ≡ status

pub record IsGadget {S : Type 0} (m : Meaning S) : Type 0 where
  -- a transfer of endpoint 0 is always ready
  pub ready : (s : S) (t : Transfer) → IsTransfer t → is_control t.ep ≡ true → IsSome (m.perform s t)
  -- a reset of the port succeeds
  pub resets : (s : S) (t : Transfer) (r : Setup) → IsTransfer t → t.setup ≡ Some r → is_port_reset r ≡ true → IfSome (m.perform s t) (λ done. done.1.status ≡ Success)
  -- GET_CONFIGURATION gives the configuration, and changes nothing
  pub tells : (s : S) (t : Transfer) (r : Setup) → IsTransfer t → t.setup ≡ Some r → is_get_configuration r ≡ true → m.perform s t ≡ Some (s, success (take (min t.wanted r.length) (m.configuration s ∷ [])))
  -- what isn't a change keeps the configuration, the interfaces and the endpoints
  pub keeps : (s : S) (t : Transfer) → IsTransfer t → asks_change t ≡ false → IfSome (m.perform s t) (λ done. SameFacts m s done.0)
  pub offer_keeps : (s : S) (ep : ℕ) → IfSome (m.offer s ep) (λ sent. SameFacts m s sent.0)
  -- a change that doesn't succeed changes nothing
  pub refuses : (s : S) (t : Transfer) → IsTransfer t → asks_change t ≡ true → IfSome (m.perform s t) (λ done. done.1.status ≢ Success → done.0 ≡ s)
  -- no endpoint to the device is isochronous
  pub no_iso_out : (s : S) (i : ℕ) → i < 16 → (get_or (m.table s).rows i no_endpoint).kind ≢ Iso
  pub few_interfaces : (s : S) → (m.interfaces s).count ≤ MAX_INTERFACES
  pub outcomes : (s : S) (t : Transfer) → IsTransfer t → IfSome (m.perform s t) (λ done. IsOutcome t done.1)
  -- a packet has at most the bytes that its length field can tell
  pub packets : (s : S) (ep : ℕ) → IfSome (m.offer s ep) (λ sent. length sent.1.body ≤ MAX_STREAM_PACKET)
  -- a status is read as it was written
  pub named : (s : S) (t : Transfer) → IsTransfer t → IfSome (m.perform s t) (λ done. IsNamed done.1.status)
  pub offer_named : (s : S) (ep : ℕ) → IfSome (m.offer s ep) (λ sent. IsNamed sent.1.status)
