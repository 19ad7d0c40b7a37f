-- What a device with one configuration and one interface answers on endpoint 0, and what it changes (USB 2.0, 9.4; the
-- port reset is that of 11.24.2.13, and resets the device itself).
use Rattle.std.specs.Prelude.{ℕ, ◌%◌, ◌==◌, ◌&&◌, nat_lt, min, Bool, true, false, List, [], ◌∷◌, length, take, Option, Some, None, is_some, unwrap_or, if◌then◌else◌}
use Rattle.std.specs.Option.{option_map_or}
use Rattle.usb_base.specs.Endpoint.{endpoint_index, is_address, row_of}
use Rattle.usb_base.specs.declared.endpoint.EpKind.{EpKind}
use Rattle.usb_base.specs.declared.endpoint.EpKind.TheVariants.{Invalid}
use Rattle.usb_base.specs.declared.setup.Setup.{Setup}
use Rattle.usb_base.specs.declared.status.UsbStatus.{UsbStatus}
use Rattle.usb_base.specs.declared.status.UsbStatus.TheVariants.{Success, Stall}
use Rattle.usb_base.specs.declared.transfer.Transfer.{Transfer}
use Rattle.usb_base.specs.declared.transfer.Outcome.{Outcome}
use Rattle.chapter9.specs.declared.part.Part.{Part}
use Rattle.chapter9.specs.declared.state.DevState.{DevState}
use Rattle.chapter9.specs.declared.standard_requests.DescriptorSet.{DescriptorSet}
use Rattle.chapter9.specs.declared.requests.ControlRead.{ControlRead}
use Rattle.chapter9.specs.declared.requests.ControlRead.TheVariants.{DeviceStatus, InterfaceStatus, EndpointStatus, GetDescriptor, GetConfiguration, GetInterface}
use Rattle.chapter9.specs.declared.requests.ControlWrite.{ControlWrite}
use Rattle.chapter9.specs.declared.requests.ControlWrite.TheVariants.{ClearHalt, SetHalt, SetAddress, SetConfiguration, SetInterface, ResetPort}
use Rattle.chapter9.specs.declared.requests.Request.{Request}
use Rattle.chapter9.specs.declared.requests.Request.TheVariants.{Read, Write}
use Rattle.chapter9.specs.State.{cleared, halted_bit, is_configured, unconfigured, with_halt}
use Rattle.chapter9.specs.Table.{class_of, table_of}
use Rattle.chapter9.specs.Requests.{request_of}

-- ---- what requests name

-- the type of descriptor is wValue's high byte, its index the low one; string 0 has the one language 0x0409
abbrev pub descriptor_of : DescriptorSet → ℕ → Option (List ℕ)
descriptor_of set value =
    if value == 0x0100 then Some set.device
    else if value == 0x0200 then Some set.config
    else if value == 0x0300 then Some (4 ∷ 3 ∷ 9 ∷ 4 ∷ [])
    else if value == 0x0301 then Some set.name
    else None

abbrev pub is_valid : EpKind → Bool
is_valid Invalid = false
is_valid _ = true

-- wIndex is the address of an endpoint that the device has
abbrev pub is_endpoint : List Part → DevState → ℕ → Bool
is_endpoint parts s index = nat_lt index 256 && is_address index && is_valid (row_of (table_of parts s) index).kind

-- wValue is an alternate setting that the interface has
abbrev pub is_setting : List Part → ℕ → Bool
is_setting parts value = nat_lt value 256 && is_some (class_of value parts)

-- ---- requests whose data go to the host: what is given, or none where the request is refused

abbrev pub given_by : DescriptorSet → List Part → DevState → Setup → ControlRead → Option (List ℕ)
given_by set parts s r DeviceStatus = Some (0 ∷ 0 ∷ [])
given_by set parts s r InterfaceStatus = if is_configured s && r.index == 0 then Some (0 ∷ 0 ∷ []) else None
given_by set parts s r EndpointStatus = if is_endpoint parts s r.index then Some (halted_bit s r.index ∷ 0 ∷ []) else None
given_by set parts s r GetDescriptor = descriptor_of set r.value
given_by set parts s r GetConfiguration = Some (s.configuration ∷ [])
given_by set parts s r GetInterface = if is_configured s && r.index == 0 then Some (s.alt ∷ []) else None

-- ---- requests without data: the state after them, or none where the request is refused

-- endpoint 0 is never halted
abbrev pub halted : DevState → ℕ → DevState
halted s ep = if endpoint_index ep % 16 == 0 then s else with_halt s ep

abbrev pub changed_by : List Part → DevState → Setup → ControlWrite → Option DevState
changed_by parts s r ClearHalt = if is_endpoint parts s r.index then Some (cleared s r.index) else None
changed_by parts s r SetHalt = if is_endpoint parts s r.index then Some (halted s r.index) else None
changed_by parts s r SetAddress = if r.length == 0 then Some s else None
changed_by parts s r SetConfiguration = if r.length == 0 && nat_lt r.value 2 then Some (record { configuration = r.value; alt = 0; halted = 0 }) else None
changed_by parts s r SetInterface = if r.length == 0 && is_configured s && r.index == 0 && is_setting parts r.value then Some (record { configuration = s.configuration; alt = r.value; halted = 0 }) else None
changed_by parts s r ResetPort = if r.length == 0 then Some unconfigured else None

-- ---- the answer

-- it ended with this status, and moved nothing
abbrev pub ended : UsbStatus → Outcome
ended status = record { status = status; done = 0; body = [] }

abbrev pub stall : Outcome
stall = ended Stall

abbrev pub success : List ℕ → Outcome
success body = record { status = Success; done = length body; body = body }

-- of a transfer to the device this many bytes were taken
abbrev pub taken : ℕ → Outcome
taken count = record { status = Success; done = count; body = [] }

-- what is given is cut to wLength, and to what the transfer wants
abbrev pub read_outcome : ℕ → ℕ → Option (List ℕ) → Outcome
read_outcome len wanted given = option_map_or (λ bytes. success (take (min wanted len) bytes)) given stall

abbrev pub write_outcome : Option DevState → Outcome
write_outcome changed = if is_some changed then success [] else stall

abbrev pub outcome_by : DescriptorSet → List Part → DevState → Setup → ℕ → Option Request → Outcome
outcome_by set parts s r wanted None = stall
outcome_by set parts s r wanted (Some (Read read)) = read_outcome r.length wanted (given_by set parts s r read)
outcome_by set parts s r wanted (Some (Write write)) = write_outcome (changed_by parts s r write)

abbrev pub state_by : List Part → DevState → Setup → Option Request → DevState
state_by parts s r (Some (Write write)) = unwrap_or (changed_by parts s r write) s
state_by parts s r _ = s

-- of a transfer with this setup; without one, which isn't a transfer of endpoint 0, nothing is answered but a stall
abbrev pub outcome_of : DescriptorSet → List Part → DevState → Transfer → Outcome
outcome_of set parts s t = option_map_or (λ r. outcome_by set parts s r t.wanted (request_of r)) t.setup stall

abbrev pub state_after : List Part → DevState → Transfer → DevState
state_after parts s t = option_map_or (λ r. state_by parts s r (request_of r)) t.setup s
