-- What stands in the blocks, by the writes that passed. Lists of transfers and of accesses have the latest first.
use Rattle.std.specs.Prelude.{◌≡◌, ℕ, ◌+◌, ◌-◌, ◌*◌, ◌<◌, nat_lt, not, ◌&&◌, Bool, List, [], ◌∷◌, length, replicate, get_or, Option, Some, None, IfSome, if◌then◌else◌}
use Rattle.std.specs.List.{cons_option}
use Rattle.usb_base.specs.Number.{part}
use Rattle.usb_base.specs.declared.status.UsbStatus.TheVariants.{Success}
use Rattle.usb_base.specs.declared.transfer.Transfer.{Transfer}
use Rattle.chapter9.specs.State.{unconfigured}
use Rattle.model_device.specs.Device.{State}
use Rattle.model_device.specs.Meaning.{state_in}
use Rattle.disk_gadget.specs.declared.stage.Course.{Course}
use Rattle.disk_gadget.specs.declared.medium.TheConstants.{BLOCK_SIZE}
use Rattle.disk_gadget.specs.Accesses.{Access, ReadOf, WriteOf}
use Rattle.disk_gadget.specs.Descriptors.{fresh}
use Rattle.disk_gadget.specs.DiskStep.{DiskState, Step, disk_step, first_disk, step}
use Rattle.disk_gadget.specs.Turns.{Reply, Plain, OfBlocks}

-- the disk that was plugged in with so many blocks, after these transfers
abbrev pub disk_after : ℕ → List Transfer → DiskState
disk_after blocks [] = first_disk blocks
disk_after blocks (t ∷ past) = state_in (disk_after blocks past) (disk_step (disk_after blocks past) t)

-- ---- without any byte of the blocks: the transfers alone say what passed

abbrev pub stepped : State Course → Option Step → State Course
stepped s None = s
stepped s (Some done) = done.state

abbrev pub course_after : ℕ → List Transfer → State Course
course_after blocks [] = record { device = unconfigured; kept = fresh }
course_after blocks (t ∷ past) = stepped (course_after blocks past) (step blocks (course_after blocks past) t)

abbrev pub with_passed : Option Step → List Access → List Access
with_passed None accesses = accesses
with_passed (Some done) accesses = cons_option done.access accesses

-- the reads and writes that passed
abbrev pub passed : ℕ → List Transfer → List Access
passed blocks [] = []
passed blocks (t ∷ past) = with_passed (step blocks (course_after blocks past) t) (passed blocks past)

-- ---- what was written

abbrev pub covers : ℕ → List ℕ → ℕ → Bool
covers first bytes block = not (nat_lt block first) && nat_lt (BLOCK_SIZE * block) (BLOCK_SIZE * first + length bytes)

-- what the last write that covers a block gave it, else zeros
abbrev pub last_written : List Access → ℕ → List ℕ
last_written [] block = replicate BLOCK_SIZE 0
last_written (ReadOf first count ∷ older) block = last_written older block
last_written (WriteOf first bytes ∷ older) block = if covers first bytes block then part (BLOCK_SIZE * (block - first)) BLOCK_SIZE bytes else last_written older block

-- ---- the law: a transfer that gives bytes of a read gives of each block what was written to it last

abbrev pub GivesWritten : List Access → ℕ → ℕ → List ℕ → Type 0
GivesWritten accesses first given bytes =
    (block place i : ℕ) → place < BLOCK_SIZE → i < length bytes → BLOCK_SIZE * first + given + i ≡ BLOCK_SIZE * block + place
    → get_or bytes i 0 ≡ get_or (last_written accesses block) place 0

abbrev pub ReplyIsWritten : ℕ → List Transfer → Transfer → Reply → Type 0
ReplyIsWritten blocks past t (Plain outcome) = Unit {0}
ReplyIsWritten blocks past t (OfBlocks first given count) =
    IfSome (disk_step (disk_after blocks past) t) (λ done. (done.1.status ≡ Success) × (done.1.done ≡ count) × (length done.1.body ≡ count) × GivesWritten (passed blocks past) first given done.1.body)

abbrev pub ReadsWhatWasWritten : Type 0
ReadsWhatWasWritten = (blocks : ℕ) (past : List Transfer) (t : Transfer) → IfSome (step blocks (course_after blocks past) t) (λ done. ReplyIsWritten blocks past t done.reply)
