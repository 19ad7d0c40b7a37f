-- What a command does, once the host's data are whole, and what it answers.
use Rattle.std.specs.Prelude.{ℕ, ◌+◌, ◌-◌, ◌*◌, ◌==◌, ◌&&◌, ◌++◌, nat_lt, not, Bool, false, List, [], ◌∷◌, take, codes, Option, Some, None, if◌then◌else◌}
use Rattle.std.specs.Int.{w32}
use Rattle.usb_base.specs.Number.{be}
use Rattle.disk_gadget.specs.declared.command.Command.{Command}
use Rattle.disk_gadget.specs.declared.command.Command.TheVariants.{TestUnitReady, RequestSense, Inquiry, ReadCapacity, Read, Write, Unknown}
use Rattle.disk_gadget.specs.declared.command.Extent.{Extent}
use Rattle.disk_gadget.specs.declared.wrapper.Wrapper.{Wrapper}
use Rattle.disk_gadget.specs.declared.report.Status.{Status}
use Rattle.disk_gadget.specs.declared.report.Status.TheVariants.{Passed, Failed, PhaseError}
use Rattle.disk_gadget.specs.declared.sense.Sense.{Sense}
use Rattle.disk_gadget.specs.declared.sense.Sense.TheVariants.{InvalidCommand, OutOfRange, InvalidField}
use Rattle.disk_gadget.specs.declared.stage.Answer.{Answer}
use Rattle.disk_gadget.specs.declared.stage.Answer.TheVariants.{Text, Blocks}
use Rattle.disk_gadget.specs.declared.medium.TheConstants.{BLOCK_SIZE}
use Rattle.disk_gadget.specs.Accesses.{Access, ReadOf, WriteOf}
use Rattle.disk_gadget.specs.Reports.{sense_bytes}

-- how a command ends, what it answers, the sense after it, and the access that it is if it passes
pub record Act : Type 0 where
  pub status : Status
  pub answer : Answer
  pub sense : Option Sense
  pub access : Option Access

-- standard INQUIRY data (SPC-4, 6.4.2): a removable direct-access device; vendor, product, revision
abbrev pub inquiry_bytes : List ℕ
inquiry_bytes =
    0x00 ∷ 0x80 ∷ 0x04 ∷ 0x02 ∷ 0x1F ∷ 0x00 ∷ 0x00 ∷ 0x00 ∷ codes "USBGATE MODEL DISK      1.0 "

abbrev pub failed : Sense → Act
failed why = record { status = Failed; answer = Text []; sense = Some why; access = None }

abbrev pub answered : Option Sense → List ℕ → Act
answered sense bytes = record { status = Passed; answer = Text bytes; sense = sense; access = None }

-- some of its blocks stand behind the last of the disk
abbrev pub is_past_end : ℕ → Extent → Bool
is_past_end blocks e = nat_lt blocks (e.block + e.count)

-- of a command that moves `len` bytes, which are these where they come from the host
abbrev pub command_act : ℕ → Option Sense → ℕ → List ℕ → Command → Act
command_act blocks sense len bytes TestUnitReady = answered sense []
command_act blocks sense len bytes (RequestSense most) = answered None (take most (sense_bytes sense))
command_act blocks sense len bytes (Inquiry vital most) = if vital then failed InvalidField else answered sense (take most inquiry_bytes)
command_act blocks sense len bytes ReadCapacity = answered sense (be w32 (blocks - 1) ++ be w32 BLOCK_SIZE)
command_act blocks sense len bytes (Read e) =
    if is_past_end blocks e then failed OutOfRange
    else record { status = Passed; answer = Blocks e.block 0 (BLOCK_SIZE * e.count); sense = sense; access = Some (ReadOf e.block e.count) }
command_act blocks sense len bytes (Write e) =
    if is_past_end blocks e then failed OutOfRange
    else if len == BLOCK_SIZE * e.count then record { status = Passed; answer = Text []; sense = sense; access = Some (WriteOf e.block bytes) }
    else failed InvalidField
command_act blocks sense len bytes Unknown = failed InvalidCommand

-- a command's data go the other way than a wrapper's
abbrev pub goes_against : Bool → Command → Bool
goes_against is_in TestUnitReady = false
goes_against is_in (Write e) = is_in
goes_against is_in Unknown = false
goes_against is_in _ = not is_in

-- and the wrapper moves some (Bulk-Only Transport, 6.7, cases 8 and 10)
abbrev pub is_crossed : Wrapper → Bool
is_crossed w = not (w.length == 0) && goes_against w.is_in w.command

abbrev pub act_of : ℕ → Option Sense → Wrapper → List ℕ → Act
act_of blocks sense w bytes =
    if is_crossed w then record { status = PhaseError; answer = Text []; sense = sense; access = None }
    else command_act blocks sense w.length bytes w.command
