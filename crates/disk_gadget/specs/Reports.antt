-- How a command ended: the command status wrapper (Bulk-Only Transport, 5.2), and sense data (SPC-4, 4.5.3).
use Rattle.std.specs.Prelude.{ℕ, ◌++◌, List, [], ◌∷◌, Option, Some, None, is_some, if◌then◌else◌}
use Rattle.std.specs.Int.{w32}
use Rattle.usb_base.specs.Number.{le}
use Rattle.disk_gadget.specs.declared.report.Report.{Report}
use Rattle.disk_gadget.specs.declared.report.Status.{Status}
use Rattle.disk_gadget.specs.declared.report.Status.TheVariants.{Passed, Failed, PhaseError}
use Rattle.disk_gadget.specs.declared.sense.Sense.{Sense}
use Rattle.disk_gadget.specs.declared.sense.Sense.TheVariants.{InvalidCommand, OutOfRange, InvalidField}

-- bCSWStatus
abbrev pub status_code : Status → ℕ
status_code Passed = 0
status_code Failed = 1
status_code PhaseError = 2

-- how many bytes a status has
abbrev pub status_size : ℕ
status_size = 13

-- `USBS`, dCSWTag, dCSWDataResidue, bCSWStatus
abbrev pub status_bytes : Report → List ℕ
status_bytes r = le w32 0x53425355 ++ le w32 r.tag ++ le w32 r.residue ++ (status_code r.status ∷ [])

-- ADDITIONAL SENSE CODE
abbrev pub code_of : Option Sense → ℕ
code_of None = 0
code_of (Some InvalidCommand) = 0x20
code_of (Some OutOfRange) = 0x21
code_of (Some InvalidField) = 0x24

-- fixed format, current errors: 18 bytes; SENSE KEY is no sense, or illegal request
abbrev pub sense_bytes : Option Sense → List ℕ
sense_bytes s = 0x70 ∷ 0 ∷ (if is_some s then 5 else 0) ∷ 0 ∷ 0 ∷ 0 ∷ 0 ∷ 0x0A ∷ 0 ∷ 0 ∷ 0 ∷ 0 ∷ code_of s ∷ 0 ∷ 0 ∷ 0 ∷ 0 ∷ 0 ∷ []
