-- The bytes of list and import packets, fields in wire order ("usbip_protocol", OP_REQ_DEVLIST to OP_REP_IMPORT).
use Rattle.std.specs.Prelude.{ℕ, ◌==◌, if◌then◌else◌, List, [], ◌∷◌, ◌++◌, length, flat_map}
use Rattle.std.specs.Option.{option_map_or}
use Rattle.std.specs.Int.{w16, w32}
use Rattle.usb_base.specs.Number.{be}
use Rattle.usbip_op.specs.declared.code.TheConstants.{OP_REP_DEVLIST, OP_REP_IMPORT, OP_REQ_DEVLIST, OP_REQ_IMPORT, USBIP_VERSION}
use Rattle.usbip_op.specs.declared.packet.DeviceRow.{DeviceRow}
use Rattle.usbip_op.specs.declared.packet.IfaceRow.{IfaceRow}
use Rattle.usbip_op.specs.declared.packet.Listed.{Listed}
use Rattle.usbip_op.specs.declared.packet.OpPacket.{OpPacket}
use Rattle.usbip_op.specs.declared.packet.OpPacket.TheVariants.{ReqDevlist, ReqImport, RepDevlist, RepImport}

-- version 1.1.1, the packet's code, its status
abbrev pub head_bytes : ℕ → ℕ → List ℕ
head_bytes code status = be w16 USBIP_VERSION ++ be w16 code ++ be w32 status

abbrev pub numbers_bytes : DeviceRow → List ℕ
numbers_bytes d = be w32 d.busnum ++ be w32 d.devnum ++ be w32 d.speed ++ be w16 d.vendor ++ be w16 d.product ++ be w16 d.version

abbrev pub classes_bytes : DeviceRow → List ℕ
classes_bytes d = d.class ∷ d.subclass ∷ d.protocol ∷ d.configuration ∷ d.configurations ∷ d.interfaces ∷ []

-- the 312 bytes of a device
abbrev pub device_bytes : DeviceRow → List ℕ
device_bytes d = d.path ++ d.busid ++ numbers_bytes d ++ classes_bytes d

abbrev pub interface_bytes : IfaceRow → List ℕ
interface_bytes i = i.class ∷ i.subclass ∷ i.protocol ∷ i.pad ∷ []

abbrev pub listed_bytes : Listed → List ℕ
listed_bytes l = device_bytes l.device ++ flat_map interface_bytes l.interfaces

-- with a status other than 0 a list reply ends after its head
abbrev pub devices_bytes : ℕ → List Listed → List ℕ
devices_bytes status devices = if status == 0 then be w32 (length devices) ++ flat_map listed_bytes devices else []

abbrev pub spelling : OpPacket → List ℕ
spelling (ReqDevlist status) = head_bytes OP_REQ_DEVLIST status
spelling (ReqImport status busid) = head_bytes OP_REQ_IMPORT status ++ busid
spelling (RepDevlist status devices) = head_bytes OP_REP_DEVLIST status ++ devices_bytes status devices
spelling (RepImport status device) = head_bytes OP_REP_IMPORT status ++ option_map_or device_bytes device []
