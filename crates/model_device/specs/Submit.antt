-- The transfer that a request of a client asks of a device, and what the client sees of its outcome. A setup whose
-- route has a packet of its own isn't given to the device as it came, but as the route alone has it.
use Rattle.std.specs.Prelude.{◌≡◌, ◌≢◌, ℕ, ◌+◌, ◌<◌, ◌==◌, Bool, true, false, List, [], ◌∷◌, length, take, Option, Some, None, if◌then◌else◌, slice_index}
use Rattle.usb_base.specs.Status.{is_success}
use Rattle.usb_base.specs.declared.setup.Setup.{Setup}
use Rattle.usb_base.specs.declared.transfer.Transfer.{Transfer}
use Rattle.usb_base.specs.declared.transfer.Outcome.{Outcome}
use Rattle.control_route.specs.Changes.{is_change}
use Rattle.control_route.specs.declared.route.Route.{Route}
use Rattle.control_route.specs.declared.route.Route.TheVariants.{SetConfig, GetConfig, SetAlt, GetAlt, Reset}
use Rattle.chapter9.specs.Standard.{ended}
use Rattle.usb_base.specs.Setup.{is_in_setup}
use Rattle.model_device.specs.Transfer.{IsTransfer}

-- ---- what is asked

-- the setup of a route, with wLength 1 where a byte comes back and 0 elsewhere
abbrev pub setup_of : Route → Option Setup
setup_of (SetConfig configuration) = Some (record { kind = 0x00; request = 9; value = configuration; index = 0; length = 0 })
setup_of GetConfig = Some (record { kind = 0x80; request = 8; value = 0; index = 0; length = 1 })
setup_of (SetAlt interface alt) = Some (record { kind = 0x01; request = 11; value = alt; index = interface; length = 0 })
setup_of (GetAlt interface) = Some (record { kind = 0x81; request = 10; value = 0; index = interface; length = 1 })
setup_of Reset = Some (record { kind = 0x23; request = 3; value = 4; index = 0; length = 0 })
setup_of _ = None

-- a transfer of endpoint 0, whose direction is its setup's
abbrev pub control_transfer : Setup → ℕ → List ℕ → Transfer
control_transfer r wanted body = record { ep = if is_in_setup r then 128 else 0; setup = Some r; wanted = wanted; body = body }

-- a transfer of another endpoint
abbrev pub data_transfer : ℕ → Bool → ℕ → List ℕ → Transfer
data_transfer number is_in wanted body = record { ep = if is_in then 128 + number else number; setup = None; wanted = wanted; body = body }

abbrev pub normal_by : Option Setup → Setup → ℕ → Bool → ℕ → List ℕ → Transfer
normal_by (Some routed) r number is_in wanted body = control_transfer routed routed.length []
normal_by None r number is_in wanted body = if number == 0 then control_transfer r wanted body else data_transfer number is_in wanted body

-- of a request with this route, setup, endpoint number, direction, length and body
abbrev pub normal : Route → Setup → ℕ → Bool → ℕ → List ℕ → Transfer
normal route r number is_in wanted body = normal_by (setup_of route) r number is_in wanted body

-- a body only to the device, of the length that is asked; and on endpoint 0, unless nothing is asked, the direction of
-- the setup
pub record IsAsked (r : Setup) (number : ℕ) (is_in : Bool) (wanted : ℕ) (body : List ℕ) : Type 0 where
  pub endpoint : number < 16
  pub from_device : is_in ≡ true → body ≡ []
  pub to_device : is_in ≡ false → wanted ≡ length body
  pub direction : number ≡ 0 → wanted ≢ 0 → is_in_setup r ≡ is_in

abbrev pub AsksTransfer : Type 0
AsksTransfer = (route : Route) (r : Setup) (number : ℕ) (is_in : Bool) (wanted : ℕ) (body : List ℕ) → IsAsked r number is_in wanted body → IsTransfer (normal route r number is_in wanted body)

-- ---- what is seen

-- one byte, cut to the wLength that the client asked with
abbrev pub byte_seen : ℕ → ℕ → Outcome → Outcome
byte_seen len byte o = if is_success o.status then record { status = o.status; done = length (take len (byte ∷ [])); body = take len (byte ∷ []) } else ended o.status

-- the outcome of a transfer with this route and setup, after which the device has this configuration; the byte of an
-- alternate setting is the first one that came, or 0
abbrev pub routed_outcome : Route → Setup → ℕ → Outcome → Outcome
routed_outcome GetConfig r configuration o = byte_seen r.length configuration o
routed_outcome (GetAlt interface) r configuration o = byte_seen r.length (slice_index o.body 0) o
routed_outcome route r configuration o = if is_change route then ended o.status else o
