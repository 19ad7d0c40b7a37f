-- What a stream has told so far decides how its next packet is read.
use Rattle.std.specs.Prelude.{Bool, true, false, not, ◌&&◌}
use Rattle.redir_wire.specs.declared.packet.Caps.{Caps}
use Rattle.redir_wire.specs.declared.packet.Hello.{Hello}
use Rattle.redir_wire.specs.declared.packet.TheConstants.Caps.{WIDE_IDS}
use Rattle.redir_wire.specs.declared.state.RedirState.{RedirState}
use Rattle.redir_wire.specs.Capability.{has, agreed, announced, no_caps, caps_of}

-- the hello is still to come, and nothing is agreed
abbrev pub start : RedirState
start = record { first = true; caps = no_caps }

-- the hello has come, and these capabilities are agreed
abbrev pub later : Caps → RedirState
later caps = record { first = false; caps = caps }

-- a hello's capabilities are agreed where the gateway announces them, too
abbrev pub after_hello : Hello → RedirState
after_hello h = later (agreed (caps_of h) announced)

-- `usb_redir_cap_64bits_ids`: ids have 64 bits where that is agreed
abbrev pub wide_ids : Caps → Bool
wide_ids caps = has caps WIDE_IDS

-- but never a hello's, which comes first
abbrev pub is_wide : RedirState → Bool
is_wide s = not s.first && wide_ids s.caps
