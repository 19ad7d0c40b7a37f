-- Which fields packets may have.
use Rattle.std.specs.Prelude.{◌≡◌, ◌≢◌, ◌↔◌, ℕ, ◌≤◌, ◌<◌, ◌^◌, List, [], length, IsSome, IfSome, All}
use Rattle.usbip_op.specs.declared.code.TheConstants.{BUS_ID_SIZE, MAX_DEVICES, PATH_SIZE}
use Rattle.usbip_op.specs.declared.packet.DeviceRow.{DeviceRow}
use Rattle.usbip_op.specs.declared.packet.Listed.{Listed}
use Rattle.usbip_op.specs.declared.packet.OpPacket.{OpPacket}
use Rattle.usbip_op.specs.declared.packet.OpPacket.TheVariants.{ReqDevlist, ReqImport, RepDevlist, RepImport}
use Rattle.usbip_op.specs.declared.packet.OpWay.{OpWay}
use Rattle.usbip_op.specs.declared.packet.OpWay.TheVariants.{Request, Reply}

-- ---- the ranges that the types of the code have

pub record IsDevice (d : DeviceRow) : Type 0 where
  pub path_length : length d.path ≡ PATH_SIZE
  pub busid_length : length d.busid ≡ BUS_ID_SIZE
  pub busnum_fits : d.busnum < 2 ^ 32
  pub devnum_fits : d.devnum < 2 ^ 32
  pub speed_fits : d.speed < 2 ^ 32
  pub vendor_fits : d.vendor < 2 ^ 16
  pub product_fits : d.product < 2 ^ 16
  pub version_fits : d.version < 2 ^ 16

abbrev pub IsInRange : OpPacket → Type 0
IsInRange (ReqDevlist status) = status < 2 ^ 32
IsInRange (ReqImport status busid) = (status < 2 ^ 32) × (length busid ≡ BUS_ID_SIZE)
IsInRange (RepDevlist status devices) = (status < 2 ^ 32) × All (λ l. IsDevice l.device) devices
IsInRange (RepImport status device) = (status < 2 ^ 32) × IfSome device IsDevice

-- ---- what a sender keeps to beside them

-- a device is followed by as many interfaces as it says
abbrev pub HasItsInterfaces : Listed → Type 0
HasItsInterfaces l = l.device.interfaces ≡ length l.interfaces

-- a list has at most 1,024 devices, and with a status other than 0 none
pub record IsWritableList (status : ℕ) (devices : List Listed) : Type 0 where
  pub few : length devices ≤ MAX_DEVICES
  pub none : status ≢ 0 → devices ≡ []
  pub counted : All HasItsInterfaces devices

-- an import tells a device exactly where its status is 0
abbrev pub IsWritable : OpPacket → Type 0
IsWritable (RepDevlist status devices) = IsWritableList status devices
IsWritable (RepImport status device) = IsSome device ↔ (status ≡ 0)
IsWritable _ = Unit {0}

-- ---- which way a packet goes

abbrev pub way_of : OpPacket → OpWay
way_of (ReqDevlist status) = Request
way_of (ReqImport status busid) = Request
way_of _ = Reply

-- a packet that goes this way, in the ranges of its types, which a sender may write
abbrev pub IsPacket : OpWay → OpPacket → Type 0
IsPacket way p = (way_of p ≡ way) × IsInRange p × IsWritable p

-- a device as it stands in a list
abbrev pub IsListed : Listed → Type 0
IsListed l = IsDevice l.device × HasItsInterfaces l
