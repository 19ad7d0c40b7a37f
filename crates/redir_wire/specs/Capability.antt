-- Capabilities: which are there, which are agreed, and which the first word of a hello tells ("Capabilities
-- negotiation").
use Rattle.std.specs.Prelude.{ℕ, ◌≡◌, ◌==◌, ◌&&◌, Bool, List, [], ◌∷◌, get_or}
use Rattle.std.specs.Int.RustNames.{bit_and}
use Rattle.usb_base.specs.Text.{padded}
use Rattle.redir_wire.specs.declared.packet.Caps.{Caps}
use Rattle.redir_wire.specs.declared.packet.Hello.{Hello}
use Rattle.redir_wire.specs.declared.packet.TheConstants.Caps.{ANNOUNCED}

-- each capability of these is there
abbrev pub has : Caps → Caps → Bool
has caps flag = bit_and caps.0 flag.0 == flag.0

-- what both sides have is agreed
abbrev pub agreed : Caps → Caps → Caps
agreed a b = record { 0 = bit_and a.0 b.0 }

abbrev pub HasBoth : Caps → Caps → Caps → Type 0
HasBoth a b both = (flag : Caps) → has both flag ≡ (has a flag && has b flag)

abbrev pub no_caps : Caps
no_caps = record { 0 = 0 }

-- those of the first word; a hello may have none
abbrev pub caps_of : Hello → Caps
caps_of h = record { 0 = get_or h.words 0 0 }

-- the hello of a program that is called so and has these capabilities
abbrev pub hello_of : List ℕ → Caps → Hello
hello_of name caps = record { version = padded 64 name; words = caps.0 ∷ [] }

-- what the gateway announces: the version of a device_connect, the acknowledgement of a disconnect, max packet sizes,
-- 64-bit ids and 32-bit bulk lengths
abbrev pub announced : Caps
announced = ANNOUNCED
