-- In which lane of the arena a request stands.
use Rattle.std.specs.Prelude.{ℕ}
use Rattle.usb_base.specs.Endpoint.{endpoint_index}
use Rattle.unlink_race.specs.declared.live.LiveKind.{LiveKind}
use Rattle.unlink_race.specs.declared.live.LiveKind.TheVariants.{Wire, Routed, Stream}

-- that of its endpoint, and the first for what went by a route
abbrev pub lane_of : LiveKind → ℕ
lane_of (Wire ep kind) = endpoint_index ep
lane_of (Routed route) = 0
lane_of (Stream ep interface) = endpoint_index ep
