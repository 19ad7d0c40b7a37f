-- What holds of every function.
use Rattle.std.specs.Prelude.{◌≡◌, ℕ, ◌≤◌, ◌||◌, not, Bool, true, List, length, None, IfSome}
use Rattle.std.specs.List.{list_all}
use Rattle.usb_base.specs.Endpoint.{is_in_endpoint, is_iso}
use Rattle.usb_base.specs.declared.endpoint.EpKind.{EpKind}
use Rattle.usb_base.specs.declared.transfer.Transfer.{Transfer}
use Rattle.chapter9.specs.declared.part.Part.{Part}
use Rattle.chapter9.specs.declared.part.Part.TheVariants.{Endpoint}
use Rattle.chapter9.specs.Descriptors.{wrong_place}
use Rattle.model_device.specs.declared.gadget.TheConstants.{MAX_STREAM_PACKET}
use Rattle.model_device.specs.Transfer.{IsTransfer, IsOutcome}
use Rattle.model_device.specs.Gadget.{IsNamed}
use Rattle.model_device.specs.Device.{Device, device_parts}

-- an endpoint from the device, or one that isn't isochronous
abbrev pub is_fine : ℕ → EpKind → Bool
is_fine ep kind = is_in_endpoint ep || not (is_iso kind)

abbrev pub is_fine_part : Part → Bool
is_fine_part (Endpoint ep kind max_packet interval) = is_fine ep kind
is_fine_part _ = true

abbrev pub no_iso_out : List Part → Bool
no_iso_out parts = list_all is_fine_part parts

-- its configuration has no wrong descriptor; outcomes and packets are in their bounds, with statuses that their bytes
-- name; and no endpoint to it is isochronous
pub record IsFunction {X : Type 0} (d : Device X) : Type 0 where
  pub configuration : wrong_place d.set.config ≡ None
  pub outcomes : (x : X) (t : Transfer) → IsTransfer t → t.setup ≡ None → IfSome (d.transfer x t) (λ done. IsOutcome t done.1)
  pub packets : (x : X) (ep : ℕ) → IfSome (d.packet x ep) (λ sent. length sent.1.body ≤ MAX_STREAM_PACKET)
  pub named : (x : X) (t : Transfer) → IfSome (d.transfer x t) (λ done. IsNamed done.1.status)
  pub packets_named : (x : X) (ep : ℕ) → IfSome (d.packet x ep) (λ sent. IsNamed sent.1.status)
  pub endpoints : no_iso_out (device_parts d) ≡ true
