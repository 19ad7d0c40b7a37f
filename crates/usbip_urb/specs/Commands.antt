-- Which packet a request is, by its command.
use Rattle.usbip_urb.specs.declared.command.UrbCommand.{UrbCommand}
use Rattle.usbip_urb.specs.declared.command.UrbCommand.TheVariants as command
use Rattle.usbip_urb.specs.declared.packet.UrbPacket.{UrbPacket}
use Rattle.usbip_urb.specs.declared.packet.UrbPacket.TheVariants as urb

abbrev pub packet_of : UrbCommand → UrbPacket
packet_of (command.Submit s) = urb.Submit s
packet_of (command.Unlink u) = urb.Unlink u
