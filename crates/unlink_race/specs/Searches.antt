-- What a request in flight is found by.
use Rattle.std.specs.Prelude.{ℕ, Bool, true, false, not, ◌&&◌, ◌==◌}
use Rattle.control_route.specs.Changes.{touches, is_change as is_change_route}
use Rattle.control_route.specs.declared.route.Route.{Route}
use Rattle.unlink_race.specs.declared.live.Live.{Live}
use Rattle.unlink_race.specs.declared.live.LiveKind.{LiveKind}
use Rattle.unlink_race.specs.declared.live.LiveKind.TheVariants.{Routed, Stream}
use Rattle.unlink_race.specs.declared.live.StreamEnd.{StreamEnd}
use Rattle.unlink_race.specs.declared.live.StreamEnd.TheVariants.{ClientGone, Told, Change}

-- ---- by its kind

-- it waits for packets of a stream
abbrev pub is_stream : LiveKind → Bool
is_stream (Stream ep interface) = true
is_stream _ = false

-- for those of this endpoint's
abbrev pub waits_at : ℕ → LiveKind → Bool
waits_at at (Stream ep interface) = ep == at
waits_at at _ = false

-- for those of a stream that ends once the route is carried out
abbrev pub is_touched_by : Route → LiveKind → Bool
is_touched_by by (Stream ep interface) = touches by interface
is_touched_by by _ = false

-- for those of a stream that ends so
abbrev pub ends_with : StreamEnd → LiveKind → Bool
ends_with ClientGone kind = is_stream kind
ends_with (Told ep) kind = waits_at ep kind
ends_with (Change route) kind = is_touched_by route kind

-- it changes the device's interfaces
abbrev pub is_change : LiveKind → Bool
is_change (Routed route) = is_change_route route
is_change _ = false

-- ---- as a request

abbrev pub has_number : ℕ → Live → Bool
has_number seqnum live = live.seqnum == seqnum

-- an answer with its id ends it: it is a wire or a route request
abbrev pub goes_by_id : Live → Bool
goes_by_id live = not (is_stream live.kind)

-- a stream request has no id
abbrev pub has_id : ℕ → Live → Bool
has_id id live = goes_by_id live && (live.id == id)

abbrev pub waits_for : ℕ → Live → Bool
waits_for ep live = waits_at ep live.kind

abbrev pub ended_by : StreamEnd → Live → Bool
ended_by end live = ends_with end live.kind

abbrev pub changes : Live → Bool
changes live = is_change live.kind
