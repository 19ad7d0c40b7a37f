-- Which commands record, why a recording wasn't begun, and what serving counts.
use Rattle.std.specs.Prelude.{◌≡◌, ◌≢◌, ◌⊎◌, ℕ, Bool, false, List, Option, IfSome, is_some}
use Rattle.usb_base.specs.Writes.{Begins}
use Rattle.usb_base.specs.declared.side.Side.TheVariants.{Client, Host}
use Rattle.gate_outside.specs.Faults.{Rose}
use Rattle.session_tape.specs.Lines.{first_comment}
use Rattle.session_tape.specs.Tapes.{Counts, OneFault, WasThere}
use Rattle.bridge_run.specs.course.Outside.{Outside, Faults, OneRose}
use Rattle.usbgate_commands.specs.declared.words.command.Command.{Command}
use Rattle.usbgate_commands.specs.declared.words.command.Command.TheVariants.{Serve}
use Rattle.tape_run.specs.declared.status.Status.{Status}
use Rattle.tape_run.specs.declared.status.Status.TheVariants.{Usage, ReadFault, WriteFault, LinkFault, OutOfMemory}

-- a file to record in is asked for
abbrev pub records : Command → Bool
records (Serve asked) = is_some asked.recording
records _ = false

-- there was a file of that name, it can't be made or written, or memory ran out
abbrev pub IsUnmade : Status → Counts → Counts → Type 0
IsUnmade Usage old new = WasThere old new
IsUnmade WriteFault old new = OneFault old new
IsUnmade OutOfMemory old new = new ≡ old
IsUnmade status old new = ⊥

-- such a recording has what it had before, or, where its first line couldn't be written, a front of that line
abbrev pub IsUnbegun : ℕ → Status → Option (List ℕ) → Option (List ℕ) → Type 0
IsUnbegun first_id status old new = (new ≡ old) ⊎ ((status ≡ WriteFault) × IfSome new (λ held. Begins held (first_comment first_id)))

-- the causes of serving's ends, by counts
pub record HasServed (status : Status) (old new : Outside) (faults_old faults_new : Faults) : Type 0 where
  pub usage : status ≡ Usage → (faults_new.sink ≡ faults_old.sink) × WasThere faults_old.tape faults_new.tape
  pub write_fault : status ≡ WriteFault → OneRose faults_old faults_new
  pub stand : status ≢ Usage → status ≢ WriteFault → faults_new ≡ faults_old
  pub reads : status ≢ ReadFault
  pub client_fault : status ≡ LinkFault Client → Rose old.client.faults new.client.faults
  pub host_fault : status ≡ LinkFault Host → Rose old.host.faults new.host.faults
  pub client_stands : status ≢ LinkFault Client → new.client.faults ≡ old.client.faults
  pub host_stands : status ≢ LinkFault Host → new.host.faults ≡ old.host.faults
