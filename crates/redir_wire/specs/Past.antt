-- A packet is its header, and then what is found behind it.
use Rattle.std.specs.Prelude.{◌≡◌, ℕ, ◌+◌, Bool, true, List, ◌++◌}
use Rattle.usb_base.specs.declared.reason.Reason.{Reason}
use Rattle.packet_stream.specs.Format.{Found, Whole, Short, Wrong, IsSound, reading}
use Rattle.redir_wire.specs.declared.state.RedirState.{RedirState}
use Rattle.redir_wire.specs.declared.packet.Way.{Way}
use Rattle.redir_wire.specs.declared.packet.Header.{Header}
use Rattle.redir_wire.specs.State.{is_wide}
use Rattle.redir_wire.specs.Header.{head_size, head_bytes, IsHeader, headers}
use Rattle.redir_wire.specs.Bodies.{behind}
use Rattle.redir_wire.specs.Plain.{controls, is_plain, plain}

-- what is found behind this header, as a packet's, whose places count from its start
abbrev pub found_past : {P : Type 0} → Bool → Header → Found P Reason → Found (Header × P) Reason
found_past wide h (Whole p n) = Whole (h, p) (head_size wide + n)
found_past wide h Short = Short
found_past wide h (Wrong place reason) = Wrong (head_size wide + place) reason

-- ---- laws

abbrev pub HeadersSound : Type 0
HeadersSound = (s : RedirState) (way : Way) → IsSound (headers s way)

abbrev pub ReadByParts : Type 0
ReadByParts =
    (s : RedirState) (way : Way) (h : Header) (b : List ℕ) → IsHeader s way h → is_plain h.kind ≡ true →
    reading (plain s way) (head_bytes (is_wide s) h ++ b) ≡ found_past (is_wide s) h (reading (behind (controls s.caps) h) b)
