-- What is found behind a header, as a packet's, whose places count from its start.
use Rattle.std.specs.Prelude.{ℕ, ◌+◌, ◌≤◌, List, drop, if◌then◌else◌, Option, Some, None, Result, Ok, Err}
use Rattle.usb_base.specs.declared.reason.Reason.{Reason}
use Rattle.packet_stream.specs.Format.{Found, Whole, Short, Wrong, reading}
use Rattle.packet_stream.specs.declared.read.ReadError.{ReadError}
use Rattle.packet_stream.specs.declared.read.ReadError.TheVariants as error
use Rattle.redir_wire.specs.declared.packet.Caps.{Caps}
use Rattle.redir_wire.specs.declared.packet.Way.{Way}
use Rattle.redir_wire.specs.declared.packet.Header.{Header}
use Rattle.redir_wire.specs.Bodies.{behind}
use Rattle.redir_wire.specs.Plain.{controls, is_plain}
use Rattle.redir_data.specs.declared.packet.RedirData.{RedirData}
use Rattle.redir_data.specs.declared.packet.RedirData.TheVariants as moving
use Rattle.redir_data.specs.declared.packet.RedirPacket.{RedirPacket}
use Rattle.redir_data.specs.declared.packet.RedirPacket.TheVariants.{Plain, Carrying}
use Rattle.redir_data.specs.Carrying.{transfers}

abbrev pub packet_past : {P : Type 0} → (P → RedirPacket) → ℕ → Header → Found P Reason → Found (Header × RedirPacket) Reason
packet_past wrap size h (Whole p n) = Whole (h, wrap p) (size + n)
packet_past wrap size h Short = Short
packet_past wrap size h (Wrong place reason) = Wrong (size + place) reason

abbrev pub past_found : Caps → Way → ℕ → Header → List ℕ → Found (Header × RedirPacket) Reason
past_found caps way size h b =
    if is_plain h.kind then packet_past Plain size h (reading (behind (controls caps) h) b) else packet_past Carrying size h (reading (behind (transfers caps way) h) b)

abbrev pub error_past : ℕ → ReadError → ReadError
error_past size (error.Refused place reason) = error.Refused (size + place) reason
error_past size (error.Memory memory) = error.Memory memory

-- a packet is refused within its fixed fields
abbrev pub IsNear : ReadError → Type 0
IsNear (error.Refused place reason) = place ≤ 8
IsNear (error.Memory memory) = Unit {0}

-- a packet that was read is with its header no more among the bytes, and else they stay
abbrev pub behind_left : {P : Type 0} → ℕ → Header → Result (Option P) ReadError → List ℕ → List ℕ
behind_left size h (Ok (Some p)) b = drop (size + h.length) b
behind_left size h (Ok None) b = b
behind_left size h (Err e) b = b

-- the fields of a packet that moves data, with these data
abbrev pub with_body : RedirData → List ℕ → RedirData
with_body (moving.Control endpoint request kind status value index length old) body = moving.Control endpoint request kind status value index length body
with_body (moving.Bulk endpoint status length stream old) body = moving.Bulk endpoint status length stream body
with_body (moving.Iso endpoint status length old) body = moving.Iso endpoint status length body
with_body (moving.Interrupt endpoint status length old) body = moving.Interrupt endpoint status length body
