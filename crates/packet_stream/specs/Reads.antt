-- What the answer of a reader tells.
use Rattle.std.specs.Prelude.{◌≡◌, ℕ, Bool, true, List, ◌++◌, drop, codes, Result, Ok, Err, Option, Some, None}
use Rattle.std.specs.Fmt.{decimal}
use Rattle.usb_base.specs.Reason.{name_of}
use Rattle.usb_base.specs.declared.reason.Reason.{Reason}
use Rattle.packet_stream.specs.Format.{Found, Whole, Short, Wrong}
use Rattle.packet_stream.specs.declared.read.Read.{Read}
use Rattle.packet_stream.specs.declared.read.Read.TheVariants as read
use Rattle.packet_stream.specs.declared.read.ReadError.{ReadError}
use Rattle.packet_stream.specs.declared.read.ReadError.TheVariants as error

-- what was found, and nothing where memory was wanting
abbrev pub told : {P : Type 0} → Result (Read P) ReadError → Option (Found P Reason)
told (Ok (read.Whole p n)) = Some (Whole p n)
told (Ok read.Short) = Some Short
told (Err (error.Refused place reason)) = Some (Wrong place reason)
told (Err (error.Memory memory)) = None

-- P holds of what was found, unless memory was wanting
abbrev pub IfTold : {P : Type 0} → Result (Read P) ReadError → (Found P Reason → Type 0) → Type 0
IfTold (Ok (read.Whole p n)) Holds = Holds (Whole p n)
IfTold (Ok read.Short) Holds = Holds Short
IfTold (Err (error.Refused place reason)) Holds = Holds (Wrong place reason)
IfTold (Err (error.Memory memory)) Holds = Unit {0}

-- a whole packet is found that takes memory
abbrev pub WantsMemory : {P : Type 0} → (P → Bool) → Found P Reason → Type 0
WantsMemory takes (Whole p n) = takes p ≡ true
WantsMemory takes _ = ⊥

-- the answer is what was found; memory is wanting only where a whole packet takes some
abbrev pub Answers : {P : Type 0} → (P → Bool) → Result (Read P) ReadError → Found P Reason → Type 0
Answers takes (Ok (read.Whole p n)) found = found ≡ Whole p n
Answers takes (Ok read.Short) found = found ≡ Short
Answers takes (Err (error.Refused place reason)) found = found ≡ Wrong place reason
Answers takes (Err (error.Memory memory)) found = WantsMemory takes found

-- a packet that was read is no more among the bytes, and else they stay
abbrev pub bytes_left : {P : Type 0} → Result (Read P) ReadError → List ℕ → List ℕ
bytes_left (Ok (read.Whole p n)) bytes = drop n bytes
bytes_left _ bytes = bytes

-- how an error is printed
abbrev pub error_text : ReadError → List ℕ
error_text (error.Refused place reason) = name_of reason ++ codes " at " ++ decimal place
error_text (error.Memory memory) = codes "out of memory"
