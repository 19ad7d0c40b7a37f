-- Command block wrappers (Bulk-Only Transport, 5.1). Their integers are little-endian.
use Rattle.std.specs.Prelude.{ℕ, ◌==◌, ◌&&◌, nat_lt, not, Bool, List, length, Option, Some, None, if◌then◌else◌}
use Rattle.std.specs.Int.{w32}
use Rattle.usb_base.specs.Number.{byte_at, le_at, part}
use Rattle.disk_gadget.specs.declared.wrapper.TheConstants.{WRAPPER_SIZE, MOST_COMMAND, MOST_MOVED}
use Rattle.disk_gadget.specs.declared.wrapper.Wrapper.{Wrapper}
use Rattle.disk_gadget.specs.Commands.{command_of}

-- dCBWSignature is `USBC`, dCBWDataTransferLength is no more than may be moved, bCBWLUN names unit 0, and bCBWCBLength
-- tells how long the command block is, from 1 to 16 bytes
abbrev pub is_wrapper : List ℕ → Bool
is_wrapper bytes =
    length bytes == WRAPPER_SIZE
    && le_at w32 0 bytes == 0x43425355
    && not (nat_lt MOST_MOVED (le_at w32 8 bytes))
    && byte_at 13 bytes == 0
    && not (byte_at 14 bytes == 0)
    && not (nat_lt MOST_COMMAND (byte_at 14 bytes))

-- dCBWTag, dCBWDataTransferLength, bit 7 of bmCBWFlags, and the command block
abbrev pub wrapper_of : List ℕ → Option Wrapper
wrapper_of bytes =
    if is_wrapper bytes
    then Some (record { tag = le_at w32 4 bytes; length = le_at w32 8 bytes; is_in = not (nat_lt (byte_at 12 bytes) 128); command = command_of (part 15 MOST_COMMAND bytes) })
    else None
