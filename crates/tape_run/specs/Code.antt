-- The exit codes.
use Rattle.std.specs.Prelude.{ℕ}
use Rattle.tape_run.specs.declared.status.Status.{Status}
use Rattle.tape_run.specs.declared.status.Status.TheVariants.{Done, Usage, Refused, ReadFault, WriteFault, LinkFault, OutOfMemory, BadTape, Idle, Spent}

abbrev pub code_of : Status → ℕ
code_of Done = 0
code_of Usage = 1
code_of Refused = 2
code_of ReadFault = 3
code_of WriteFault = 4
code_of (LinkFault side) = 5
code_of OutOfMemory = 6
code_of (BadTape number) = 7
code_of Idle = 8
code_of Spent = 9
