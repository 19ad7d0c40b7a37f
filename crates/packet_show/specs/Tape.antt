-- The lines of a tape, each without its LF. Empty lines and those that begin with `#` say nothing. A tape to replay has
-- `c HEX` and `h HEX`, pieces of the client's and the host's stream, and `c.` and `h.`, their ends. A tape for a
-- modelled host has `c HEX` and `c.`, `g N` and `h N`, bytes that go to the host and to the gateway, `p EP` and `o EP`,
-- a transfer that is performed and a packet that is offered, and `x`, the unplugging.
use Rattle.std.specs.Prelude.{ℕ, ◌==◌, Bool, true, false, if◌then◌else◌, List, [], ◌∷◌, Option, Some, None, option_map, Result, Ok, codes}
use Rattle.hex.specs.Hex.{decode_of, decode_sized}
use Rattle.usb_base.specs.Endpoint.{is_address}
use Rattle.usb_base.specs.declared.memory.Memory.{Memory}
use Rattle.hex.specs.declared.error.FromHexError.{FromHexError}
use Rattle.packet_show.specs.declared.tape.ReplayLine.{ReplayLine}
use Rattle.packet_show.specs.declared.tape.ReplayLine.TheVariants as replay
use Rattle.packet_show.specs.declared.tape.ModelLine.{ModelLine}
use Rattle.packet_show.specs.declared.tape.ModelLine.TheVariants as model
use Rattle.packet_show.specs.declared.tape.LineError.{LineError}
use Rattle.packet_show.specs.declared.tape.LineError.TheVariants as error
use Rattle.packet_show.specs.Line.{SPACE, letter}
use Rattle.packet_show.specs.Number.{number_of}

-- ---- what stands behind a letter

-- HEX: the hexadecimal digits, of either case, of a byte at least
abbrev pub some_bytes : Result (List ℕ) FromHexError → Option (List ℕ)
some_bytes (Ok (b ∷ bs)) = Some (b ∷ bs)
some_bytes _ = None

abbrev pub bytes_of : List ℕ → Option (List ℕ)
bytes_of digits = some_bytes (decode_of digits)

-- EP: the two hexadecimal digits of an endpoint's address, whose bits 4 to 6 are all 0
abbrev pub address : Result (List ℕ) FromHexError → Option ℕ
address (Ok (byte ∷ bytes)) = if is_address byte then Some byte else None
address _ = None

abbrev pub endpoint_of : List ℕ → Option ℕ
endpoint_of digits = address (decode_sized digits 1)

-- nothing
abbrev pub alone : {L : Type 0} → L → List ℕ → Option L
alone line [] = Some line
alone line (b ∷ bs) = None

-- a space and an argument
abbrev pub with_argument : {L : Type 0} → (List ℕ → Option L) → List ℕ → Option L
with_argument line [] = None
with_argument line (b ∷ bs) = if b == SPACE then line bs else None

-- a space and a piece of a stream, or a `.` and nothing
abbrev pub of_stream : {L : Type 0} → (List ℕ → L) → L → List ℕ → Option L
of_stream piece end [] = None
of_stream piece end (b ∷ bs) = if b == SPACE then option_map piece (bytes_of bs) else if b == letter (codes ".") then alone end bs else None

-- ---- what a line says, or none where it isn't a line of such a tape

abbrev pub replay_line : List ℕ → Option ReplayLine
replay_line [] = Some replay.Skip
replay_line (b ∷ bs) =
    if b == letter (codes "#") then Some replay.Skip
    else if b == letter (codes "c") then of_stream replay.Client replay.ClientEnd bs
    else if b == letter (codes "h") then of_stream replay.Host replay.HostEnd bs
    else None

-- a step of the wires or of the device
abbrev pub step_line : List ℕ → Option ModelLine
step_line [] = None
step_line (b ∷ bs) =
    if b == letter (codes "g") then with_argument (λ text. option_map model.ToHost (number_of text)) bs
    else if b == letter (codes "h") then with_argument (λ text. option_map model.ToGate (number_of text)) bs
    else if b == letter (codes "p") then with_argument (λ digits. option_map model.Perform (endpoint_of digits)) bs
    else if b == letter (codes "o") then with_argument (λ digits. option_map model.Offer (endpoint_of digits)) bs
    else if b == letter (codes "x") then alone model.Unplug bs
    else None

abbrev pub model_line : List ℕ → Option ModelLine
model_line [] = Some model.Skip
model_line (b ∷ bs) =
    if b == letter (codes "#") then Some model.Skip else if b == letter (codes "c") then of_stream model.Client model.ClientEnd bs else step_line (b ∷ bs)

-- ---- which lines bring bytes, for which memory is needed

abbrev pub replay_has_bytes : ReplayLine → Bool
replay_has_bytes (replay.Client bytes) = true
replay_has_bytes (replay.Host bytes) = true
replay_has_bytes _ = false

abbrev pub model_has_bytes : ModelLine → Bool
model_has_bytes (model.Client bytes) = true
model_has_bytes _ = false

abbrev pub takes_memory : {L : Type 0} → (L → Bool) → Option L → Bool
takes_memory has_bytes None = false
takes_memory has_bytes (Some line) = has_bytes line

-- ---- errors

-- want of memory is one value, whichever call has told it
abbrev pub want : Memory
want = record { 0 = tt }

-- how an error is printed
abbrev pub error_text : LineError → List ℕ
error_text error.Bad = codes "not a line of such a tape"
error_text (error.Memory memory) = codes "out of memory"
