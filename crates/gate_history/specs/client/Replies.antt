-- The replies to list and import requests: the one device, as it was told, or none.
use Rattle.std.specs.Prelude.{ℕ, ◌==◌, not, Bool, List, [], ◌∷◌, ◌++◌, length, take, take_while, map, codes, bytes_eq, Option, Some, None}
use Rattle.std.specs.Option.{option_map_or, option_to_list}
use Rattle.usb_base.specs.Speed.{speed_of, usbip_speed}
use Rattle.usb_base.specs.Text.{padded}
use Rattle.usbip_op.specs.declared.code.TheConstants.{BUS_ID_SIZE, PATH_SIZE, ST_NA, ST_OK}
use Rattle.usbip_op.specs.declared.exported.TheConstants.{BUS_ID, BUS_NUMBER, DEVICE_NUMBER}
use Rattle.usbip_op.specs.declared.packet.OpPacket.{OpPacket}
use Rattle.usbip_op.specs.declared.packet.OpPacket.TheVariants.{RepDevlist, RepImport}
use Rattle.usbip_op.specs.declared.packet.DeviceRow.{DeviceRow}
use Rattle.usbip_op.specs.declared.packet.IfaceRow.{IfaceRow}
use Rattle.redir_wire.specs.declared.packet.Connect.{Connect}
use Rattle.redir_wire.specs.declared.packet.InterfaceInfo.{InterfaceInfo}
use Rattle.gate_history.specs.declared.facts.Facts.{Facts}

-- rows of class, subclass and protocol
abbrev pub rows : List ℕ → List ℕ → List ℕ → List IfaceRow
rows (c ∷ cs) (s ∷ ss) (p ∷ ps) = record { class = c; subclass = s; protocol = p; pad = 0 } ∷ rows cs ss ps
rows _ _ _ = []

-- the first rows of an interface_info, as many as its count, which is at most 32; none before one is told
abbrev pub interface_rows : Option InterfaceInfo → List IfaceRow
interface_rows info = option_map_or (λ i. take i.count (rows i.class i.subclass i.protocol)) info []

abbrev pub device_row : Facts → Connect → DeviceRow
device_row f c = record {
  path = padded PATH_SIZE (codes "/usbredir/" ++ BUS_ID);
  busid = padded BUS_ID_SIZE BUS_ID;
  busnum = BUS_NUMBER;
  devnum = DEVICE_NUMBER;
  speed = usbip_speed (speed_of c.speed);
  vendor = c.vendor;
  product = c.product;
  version = c.version;
  class = c.class;
  subclass = c.subclass;
  protocol = c.protocol;
  configuration = f.configuration;
  configurations = 1;
  interfaces = length (interface_rows f.interfaces);
}

-- ---- a list request

abbrev pub list_reply : Facts → OpPacket
list_reply f = RepDevlist ST_OK (map (λ c. record { device = device_row f c; interfaces = interface_rows f.interfaces }) (option_to_list f.connect))

-- ---- an import request

-- a text ends at its first zero
abbrev pub is_exported : List ℕ → Bool
is_exported busid = bytes_eq (take_while (λ b. not (b == 0)) busid) BUS_ID

-- any status other than 0 says that there is no such device to import
abbrev pub failed_import : OpPacket
failed_import = RepImport ST_NA None

abbrev pub import_reply : Facts → Connect → OpPacket
import_reply f c = RepImport ST_OK (Some (device_row f c))
