-- The packets that move no data of a transfer.
use Rattle.std.specs.Prelude.{ℕ, List, ◌==◌, nat_le, nat_lt, Bool, true, false, [], ◌∷◌}
use Rattle.std.specs.Int.{w32}
use Rattle.std.specs.Option.{option_map_or}
use Rattle.usb_base.specs.declared.reason.Reason.{Reason}
use Rattle.usb_base.specs.declared.reason.Reason.TheVariants.{Count}
use Rattle.usb_base.specs.Number.{le_at}
use Rattle.packet_stream.specs.Format.{Format}
use Rattle.redir_wire.specs.declared.packet.TheConstants.{MAX_INTERFACES}
use Rattle.redir_wire.specs.declared.kind.TheConstants.{FIRST_DATA, INTERFACE_INFO}
use Rattle.redir_wire.specs.declared.packet.Caps.{Caps}
use Rattle.redir_wire.specs.declared.state.RedirState.{RedirState}
use Rattle.redir_wire.specs.declared.packet.Way.{Way}
use Rattle.redir_wire.specs.declared.packet.Header.{Header}
use Rattle.redir_wire.specs.declared.packet.RedirControl.{RedirControl}
use Rattle.redir_wire.specs.declared.packet.RedirControl.TheVariants.{Hello, InterfaceInfo, EpInfo, Disconnect}
use Rattle.redir_wire.specs.Bodies.{BodyCheck, Bodies, packets}
use Rattle.redir_wire.specs.Spelling.{fields, number_of}
use Rattle.redir_wire.specs.Ranges.{IsControl}
use Rattle.redir_wire.specs.Table.{fields_at, plain_numbered}

-- the numbers of the types that move no data are below those of the types that move some
abbrev pub is_plain : ℕ → Bool
is_plain number = nat_lt number FIRST_DATA

-- an interface_info has no more interfaces than its fields have cells
abbrev pub count_check : BodyCheck
count_check = record { place = 0; needed = 4; tried = λ number. number == INTERFACE_INFO; passes = λ h b. nat_le (le_at w32 0 b) MAX_INTERFACES; reason = Count }

-- no header that passes its checks has another number than a type's
abbrev pub control_at : Caps → Header → List ℕ → RedirControl
control_at caps h b = option_map_or (λ k. fields_at caps h.length k b) (plain_numbered h.kind) Disconnect

abbrev pub controls : Caps → Bodies RedirControl
controls caps = record {
  owns = is_plain;
  checks = count_check ∷ [];
  fields = control_at caps;
  number = number_of;
  spelling = fields caps;
  Fits = IsControl caps;
}

-- the packets of a stream that goes this way, the first one or a later one, with the capabilities that are agreed
abbrev pub plain : RedirState → Way → Format (Header × RedirControl) Reason
plain s way = packets (controls s.caps) s way

-- a hello, an interface_info and an ep_info lie on the heap
abbrev pub takes_memory : RedirControl → Bool
takes_memory (Hello h) = true
takes_memory (InterfaceInfo i) = true
takes_memory (EpInfo e) = true
takes_memory _ = false
