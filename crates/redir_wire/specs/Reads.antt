-- What the answer of the body's reader tells.
use Rattle.std.specs.Prelude.{◌≡◌, Bool, false, Result, Ok, Err, Option, Some, None}
use Rattle.usb_base.specs.declared.reason.Reason.{Reason}
use Rattle.packet_stream.specs.Format.{Found, Whole, Short, Wrong}
use Rattle.packet_stream.specs.Reads.{WantsMemory}
use Rattle.packet_stream.specs.declared.read.ReadError.{ReadError}
use Rattle.packet_stream.specs.declared.read.ReadError.TheVariants as error
use Rattle.redir_wire.specs.declared.packet.Header.{Header}

-- the answer for the bytes behind this header is what was found there; memory is wanting only where a whole packet
-- takes some
abbrev pub AnswersBehind : {P : Type 0} → Header → (P → Bool) → Result (Option P) ReadError → Found P Reason → Type 0
AnswersBehind h takes (Ok (Some p)) found = found ≡ Whole p h.length
AnswersBehind h takes (Ok None) found = found ≡ Short
AnswersBehind h takes (Err (error.Refused place reason)) found = found ≡ Wrong place reason
AnswersBehind h takes (Err (error.Memory memory)) found = WantsMemory takes found

-- reading never takes memory
abbrev pub never : {P : Type 0} → P → Bool
never p = false
