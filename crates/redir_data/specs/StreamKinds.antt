-- The kinds of streams, by the types of endpoints.
use Rattle.std.specs.Prelude.{Bool, true, false}
use Rattle.usb_base.specs.declared.endpoint.EpKind.{EpKind}
use Rattle.usb_base.specs.declared.endpoint.EpKind.TheVariants as kind
use Rattle.redir_data.specs.declared.stream_kind.StreamKind.{StreamKind}
use Rattle.redir_data.specs.declared.stream_kind.StreamKind.TheVariants.{Iso, Interrupt}

-- a stream of this kind is one of an endpoint of this type; no other type has streams
abbrev pub is_kind_of : StreamKind → EpKind → Bool
is_kind_of Iso kind.Iso = true
is_kind_of Interrupt kind.Interrupt = true
is_kind_of _ _ = false
