-- The commands that the disk knows (SPC-4, 6; SBC-3, 5). Their fields are big-endian.
use Rattle.std.specs.Prelude.{ℕ, ◌%◌, ◌==◌, List, if◌then◌else◌}
use Rattle.std.specs.Int.{w16, w32}
use Rattle.usb_base.specs.Number.{be_at, byte_at}
use Rattle.disk_gadget.specs.declared.command.Command.{Command}
use Rattle.disk_gadget.specs.declared.command.Command.TheVariants.{TestUnitReady, RequestSense, Inquiry, ReadCapacity, Read, Write, Unknown}
use Rattle.disk_gadget.specs.declared.command.Extent.{Extent}

-- READ (10) and WRITE (10): LOGICAL BLOCK ADDRESS at byte 2, TRANSFER LENGTH at byte 7
abbrev pub extent_of : List ℕ → Extent
extent_of bytes = record { block = be_at w32 2 bytes; count = be_at w16 7 bytes }

-- by its OPERATION CODE; EVPD of INQUIRY is bit 0 of byte 1
abbrev pub command_of : List ℕ → Command
command_of bytes =
    let code = byte_at 0 bytes in
    if code == 0x00 then TestUnitReady
    else if code == 0x03 then RequestSense (byte_at 4 bytes)
    else if code == 0x12 then Inquiry (byte_at 1 bytes % 2 == 1) (be_at w16 3 bytes)
    else if code == 0x25 then ReadCapacity
    else if code == 0x28 then Read (extent_of bytes)
    else if code == 0x2A then Write (extent_of bytes)
    else Unknown
