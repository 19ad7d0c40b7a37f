-- Which routes change the device's interfaces, and whose.
use Rattle.std.specs.Prelude.{ℕ, ◌==◌, Bool, true, false}
use Rattle.control_route.specs.declared.route.Route.{Route}
use Rattle.control_route.specs.declared.route.Route.TheVariants.{SetConfig, SetAlt, Reset}

-- the endpoints that the device has may be others afterwards
abbrev pub is_change : Route → Bool
is_change (SetConfig configuration) = true
is_change (SetAlt interface alt) = true
is_change Reset = true
is_change _ = false

-- this interface's transfers end: a new configuration and a reset are for all, an alternate setting for its own
abbrev pub touches : Route → ℕ → Bool
touches (SetAlt interface alt) i = interface == i
touches r i = is_change r
