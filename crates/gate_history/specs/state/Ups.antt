-- The streams of a device's endpoints that are up, by the endpoints' places in its table. A stream keeps the row that
-- its endpoint had when it went up, and holds packets.
use Rattle.std.specs.Prelude.{ℕ, Bool, true, if◌then◌else◌, List, [], ◌||◌, map, replicate, get_or, slice_set, Option, Some, None, is_some}
use Rattle.std.specs.Option.{option_map, option_and_then, option_map_or}
use Rattle.usb_base.specs.declared.transfer.StreamPacket.{StreamPacket}
use Rattle.usb_base.specs.Endpoint.{endpoint_index, is_address}
use Rattle.usb_base.specs.Status.{is_success}
use Rattle.control_route.specs.declared.route.Route.{Route}
use Rattle.control_route.specs.Changes.{touches}
pub use Rattle.stream_buffers.specs.Held.{Up}
use Rattle.packet_stream.specs.Folds.{rfold}
use Rattle.usb_base.specs.declared.endpoint.TheConstants.{ENDPOINTS}
use Rattle.gate_history.specs.declared.verdict.Verdict.{Verdict}
use Rattle.gate_history.specs.declared.verdict.Verdict.TheVariants.{Routed, IsoOut, Stream}
use Rattle.gate_history.specs.step.Marks.{Effect, Opens, Waits, Arrives, StreamTold, Mark}
use Rattle.gate_history.specs.state.Sides.{leaves, is_loss}

-- none is up
abbrev pub no_streams : List (Option Up)
no_streams = replicate ENDPOINTS None

-- that of an endpoint
abbrev pub stream_at : List (Option Up) → ℕ → Option Up
stream_at ups ep = get_or ups (endpoint_index ep) None

-- that of the endpoint with this address; a byte that is no address is that of no endpoint
abbrev pub stream_of : List (Option Up) → ℕ → Option Up
stream_of ups byte = if is_address byte then stream_at ups byte else None

abbrev pub held_of : Option Up → List StreamPacket
held_of up = option_map_or (λ u. u.held) up []

-- ---- they go up and down

-- one that is up stays as it is
abbrev pub raise : Up → List (Option Up) → List (Option Up)
raise up ups = if is_some (stream_at ups up.ep) then ups else slice_set ups (endpoint_index up.ep) (Some up)

abbrev pub unless : (Up → Bool) → Option Up → Option Up
unless test up = option_and_then (λ u. if test u then None else Some u) up

-- those that pass the test go down
abbrev pub lower : (Up → Bool) → List (Option Up) → List (Option Up)
lower test ups = map (unless test) ups

-- that of this endpoint goes down; a byte that is no address is that of no endpoint
abbrev pub lower_at : ℕ → List (Option Up) → List (Option Up)
lower_at byte ups = if is_address byte then slice_set ups (endpoint_index byte) None else ups

-- that of this endpoint holds these packets
abbrev pub hold : ℕ → List StreamPacket → List (Option Up) → List (Option Up)
hold ep packets ups = slice_set ups (endpoint_index ep) (option_map (λ (up : Up). record up { held = packets }) (stream_at ups ep))

-- a stream ends with a route that touches its interface; no route means that the client is gone, with which each ends
abbrev pub is_ended : Option Route → Up → Bool
is_ended route up = option_map_or (λ r. touches r up.row.interface) route true

-- ---- by what an item means

-- a change ends those that it touches, and a transfer by a stream needs one
abbrev pub opened_streams : Verdict → ℕ → List (Option Up) → List (Option Up)
opened_streams (Routed r) ep ups = lower (is_ended (Some r)) ups
opened_streams (IsoOut row) ep ups = raise (record { ep = ep; row = row; held = [] }) ups
opened_streams (Stream row) ep ups = raise (record { ep = ep; row = row; held = [] }) ups
opened_streams _ ep ups = ups

-- where the client stays and the device isn't lost
abbrev pub moved_streams : Effect → List (Option Up) → List (Option Up)
moved_streams (Opens s) ups = opened_streams s.verdict s.request.transfer.ep ups
moved_streams (Waits s fill) ups = hold s.request.transfer.ep fill.left (opened_streams s.verdict s.request.transfer.ep ups)
moved_streams (Arrives ep fill) ups = hold ep fill.left ups
moved_streams (StreamTold id ep status) ups = if is_success status then ups else lower_at ep ups
moved_streams _ ups = ups

abbrev pub streams_after : Effect → List (Option Up) → List (Option Up)
streams_after e ups = if leaves e || is_loss e then no_streams else moved_streams e ups

abbrev pub streams : List Mark → List (Option Up)
streams ms = rfold (λ ups m. streams_after m.what ups) no_streams ms
