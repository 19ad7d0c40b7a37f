-- A device that answers endpoint 0 by its descriptors, and its other endpoints in a way of its own.
use Rattle.std.specs.Prelude.{ℕ, ◌+◌, ◌*◌, ◌&&◌, not, Bool, List, [], ◌∷◌, length, replicate, slice_set, Option, Some, None, is_some, option_map, if◌then◌else◌}
use Rattle.std.specs.Int.{w16}
use Rattle.std.specs.List.{flat_map}
use Rattle.usb_base.specs.Status.{is_success}
use Rattle.usb_base.specs.Endpoint.{row_of}
use Rattle.usb_base.specs.Number.{byte_at, le_at}
use Rattle.usb_base.specs.Speed.{redir_speed}
use Rattle.usb_base.specs.declared.speed.Speed.{Speed}
use Rattle.usb_base.specs.declared.transfer.Transfer.{Transfer}
use Rattle.usb_base.specs.declared.transfer.Outcome.{Outcome}
use Rattle.usb_base.specs.declared.transfer.StreamPacket.{StreamPacket}
use Rattle.redir_wire.specs.declared.packet.TheConstants.{INTERFACE_CELLS}
use Rattle.redir_wire.specs.declared.packet.Connect.{Connect}
use Rattle.redir_wire.specs.declared.packet.InterfaceInfo.{InterfaceInfo}
use Rattle.chapter9.specs.declared.part.Part.{Part}
use Rattle.chapter9.specs.declared.state.DevState.{DevState}
use Rattle.chapter9.specs.declared.standard_requests.DescriptorSet.{DescriptorSet}
use Rattle.chapter9.specs.declared.table.InterfaceClass.{InterfaceClass}
use Rattle.chapter9.specs.Descriptors.{parts_of}
use Rattle.chapter9.specs.State.{is_configured, is_halted, unconfigured}
use Rattle.chapter9.specs.Table.{class_of, table_of}
use Rattle.chapter9.specs.Standard.{is_valid, outcome_of, stall, state_after}
use Rattle.model_device.specs.Transfer.{asks_change}
use Rattle.model_device.specs.Meaning.{Meaning}

-- the state that its requests change, and what it keeps beside that
pub record State (X : Type 0) : Type 0 where
  pub device : DevState
  pub kept : X

pub record Device (X : Type 0) : Type 0 where
  pub set : DescriptorSet
  pub speed : Speed
  -- what it keeps at first, and after each change that succeeds
  pub first : X
  -- a transfer of an endpoint other than 0 that is there and isn't halted
  pub transfer : X → Transfer → Option (X × Outcome)
  -- a packet of an endpoint that is there and isn't halted
  pub packet : X → ℕ → Option (X × StreamPacket)

abbrev pub device_parts : {X : Type 0} → Device X → List Part
device_parts d = parts_of d.set.config

-- ---- what it tells

-- the device descriptor (USB 2.0, table 9-8) of the product of this number
abbrev pub device_bytes : ℕ → List ℕ
device_bytes product =
    -- bLength, bDescriptorType, bcdUSB 2.00, no class, bMaxPacketSize0
    0x12 ∷ 0x01 ∷ 0x00 ∷ 0x02 ∷ 0x00 ∷ 0x00 ∷ 0x00 ∷ 0x40 ∷
    -- idVendor, idProduct, bcdDevice 1.00
    0xF0 ∷ 0xFF ∷ product ∷ 0x00 ∷ 0x00 ∷ 0x01 ∷
    -- iManufacturer, iProduct, iSerialNumber, bNumConfigurations
    0x00 ∷ 0x01 ∷ 0x00 ∷ 0x01 ∷ []

-- configuration 1 with one interface (table 9-10), bus-powered, 100 mA
abbrev pub config_of : List ℕ → List ℕ
config_of interface = 0x09 ∷ 0x02 ∷ (9 + length interface) ∷ 0x00 ∷ 0x01 ∷ 0x01 ∷ 0x00 ∷ 0x80 ∷ 0x32 ∷ interface

-- a string (table 9-16), of characters of two bytes
abbrev pub string_of : List ℕ → List ℕ
string_of text = (2 + 2 * length text) ∷ 0x03 ∷ flat_map (λ letter. letter ∷ 0x00 ∷ []) text

-- the descriptors of a product with this number and name, and these descriptors of its interface
abbrev pub set_of : ℕ → List ℕ → List ℕ → DescriptorSet
set_of product name interface = record { device = device_bytes product; config = config_of interface; name = string_of name }

-- the fields of its device descriptor (USB 2.0, table 9-8), and its speed
abbrev pub identity_of : Speed → DescriptorSet → Connect
identity_of speed set = record {
  speed = redir_speed speed;
  class = byte_at 4 set.device;
  subclass = byte_at 5 set.device;
  protocol = byte_at 6 set.device;
  vendor = le_at w16 8 set.device;
  product = le_at w16 10 set.device;
  version = le_at w16 12 set.device;
}

abbrev pub no_bytes : List ℕ
no_bytes = replicate INTERFACE_CELLS 0

abbrev pub no_interface : InterfaceInfo
no_interface = record { count = 0; interface = no_bytes; class = no_bytes; subclass = no_bytes; protocol = no_bytes }

-- one interface, whose number is 0, of this class
abbrev pub one_interface : Option InterfaceClass → InterfaceInfo
one_interface None = record no_interface { count = 1 }
one_interface (Some c) = record { count = 1; interface = no_bytes; class = slice_set no_bytes 0 c.class; subclass = slice_set no_bytes 0 c.subclass; protocol = slice_set no_bytes 0 c.protocol }

abbrev pub interfaces_of : List Part → DevState → InterfaceInfo
interfaces_of parts s = if is_configured s then one_interface (class_of s.alt parts) else no_interface

-- ---- what it does

-- the endpoint is there and isn't halted
abbrev pub is_running : List Part → DevState → ℕ → Bool
is_running parts s ep = is_valid (row_of (table_of parts s) ep).kind && not (is_halted s ep)

abbrev pub with_kept : {X A : Type 0} → DevState → Option (X × A) → Option (State X × A)
with_kept s made = option_map (λ r. (record { device = s; kept = r.0 }, r.1)) made

-- a transfer of endpoint 0; nothing that was kept is left by a change that succeeds
abbrev pub control : {X : Type 0} → Device X → State X → Transfer → State X × Outcome
control d s t =
    let o = outcome_of d.set (device_parts d) s.device t in
    (record { device = state_after (device_parts d) s.device t; kept = if asks_change t && is_success o.status then d.first else s.kept }, o)

abbrev pub perform : {X : Type 0} → Device X → State X → Transfer → Option (State X × Outcome)
perform d s t =
    if is_some t.setup then Some (control d s t)
    else if is_running (device_parts d) s.device t.ep then with_kept s.device (d.transfer s.kept t)
    else Some (s, stall)

abbrev pub offer : {X : Type 0} → Device X → State X → ℕ → Option (State X × StreamPacket)
offer d s ep = if is_running (device_parts d) s.device ep then with_kept s.device (d.packet s.kept ep) else None

abbrev pub meaning_of : {X : Type 0} → Device X → Meaning (State X)
meaning_of d = record {
  identity = identity_of d.speed d.set;
  configuration = λ s. s.device.configuration;
  interfaces = λ s. interfaces_of (device_parts d) s.device;
  table = λ s. table_of (device_parts d) s.device;
  perform = perform d;
  offer = offer d;
}

abbrev pub first_state : {X : Type 0} → Device X → State X
first_state d = record { device = unconfigured; kept = d.first }
