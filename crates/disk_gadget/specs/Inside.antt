-- What a turn, a command and a request make of each part that the code keeps of the disk.
use Rattle.std.specs.Prelude.{ℕ, Bool, List, Option, Some, None, if◌then◌else◌}
use Rattle.usb_base.specs.declared.transfer.Outcome.{Outcome}
use Rattle.usb_base.specs.declared.setup.Setup.{Setup}
use Rattle.usb_base.specs.declared.transfer.Transfer.{Transfer}
use Rattle.model_device.specs.Device.{State}
use Rattle.chapter9.specs.declared.state.DevState.{DevState}
use Rattle.disk_gadget.specs.declared.report.Report.{Report}
use Rattle.disk_gadget.specs.declared.wrapper.Wrapper.{Wrapper}
use Rattle.disk_gadget.specs.declared.stage.Course.{Course}
use Rattle.disk_gadget.specs.Accesses.{blocks_after}
use Rattle.disk_gadget.specs.DiskStep.{both_halted, class_request, outcome_in, setup_done}
use Rattle.disk_gadget.specs.Acts.{Act}
use Rattle.disk_gadget.specs.Turns.{Turn, report_of}

abbrev pub turn_outcome : List ℕ → Option Turn → Option Outcome
turn_outcome blocks None = None
turn_outcome blocks (Some turn) = Some (outcome_in blocks turn.reply)

abbrev pub turn_course : Course → Option Turn → Course
turn_course c None = c
turn_course c (Some turn) = turn.course

abbrev pub turn_blocks : List ℕ → Option Turn → List ℕ
turn_blocks blocks None = blocks
turn_blocks blocks (Some turn) = blocks_after blocks turn.access

abbrev pub turn_device : DevState → Option Turn → DevState
turn_device device None = device
turn_device device (Some turn) = if turn.halts then both_halted device else device

-- the report of a command that acts here
abbrev pub report_due : Bool → Wrapper → Act → Option Report
report_due whole w act = if whole then Some (report_of w act.status) else None

-- a transfer of endpoint 0
abbrev pub request_done : DevState → Course → Transfer → Setup → State Course × Outcome
request_done device course t r = setup_done (record { device = device; kept = course }) t r (class_request r)
