-- The bytes of what is told of a device.
use Rattle.std.specs.Prelude.{ℕ, List, ◌++◌}
use Rattle.usb_base.specs.declared.endpoint.EpTable.{EpTable}
use Rattle.redir_wire.specs.declared.packet.Caps.{Caps}
use Rattle.redir_wire.specs.declared.packet.Connect.{Connect}
use Rattle.redir_wire.specs.declared.packet.InterfaceInfo.{InterfaceInfo}
use Rattle.redir_wire.specs.declared.packet.RedirControl.TheVariants as plain
use Rattle.redir_wire.specs.Written.{packet_bytes}
use Rattle.redir_host.specs.device.Facts.{connect_of, ep_info_of}

abbrev pub facts_bytes : Caps → EpTable → InterfaceInfo → List ℕ
facts_bytes caps table interfaces = packet_bytes 0 caps (plain.EpInfo (ep_info_of caps table)) ++ packet_bytes 0 caps (plain.InterfaceInfo interfaces)

abbrev pub connect_bytes : Caps → Connect → List ℕ
connect_bytes caps c = packet_bytes 0 caps (plain.Connect (connect_of caps c))
