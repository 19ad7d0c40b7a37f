-- The packets by which the host is asked for a transfer, and those that start and stop the streams of endpoints. Each
-- takes an id of its own.
use Rattle.std.specs.Prelude.{ℕ, ◌≤◌, Bool, if◌then◌else◌, List, [], ◌∷◌, ◌++◌, length, map, unwrap_or, Option, Some, None, is_some}
use Rattle.std.specs.List.{flat_map}
use Rattle.std.specs.Option.{option_map_or}
use Rattle.usb_base.specs.Number.{part}
use Rattle.usb_base.specs.declared.setup.Setup.{Setup}
use Rattle.usb_base.specs.declared.endpoint.EpRow.{EpRow}
use Rattle.usb_base.specs.declared.transfer.Transfer.{Transfer}
use Rattle.redir_wire.specs.declared.packet.RedirControl.TheVariants as plain
use Rattle.redir_data.specs.declared.packet.RedirData.TheVariants as data_packet
use Rattle.redir_data.specs.declared.packet.RedirPacket.{RedirPacket}
use Rattle.redir_data.specs.declared.packet.RedirPacket.TheVariants.{Plain, Carrying}
use Rattle.control_route.specs.declared.route.Route.{Route}
use Rattle.control_route.specs.declared.route.Route.TheVariants as route
use Rattle.gate_history.specs.declared.request.Request.{Request}
use Rattle.gate_history.specs.declared.sent.TheConstants.{PACKETS_PER_URB, STREAM_URBS}
use Rattle.gate_history.specs.declared.verdict.Pipe.{Pipe}
use Rattle.gate_history.specs.declared.verdict.Pipe.TheVariants.{Control, Bulk, InterruptOut}
use Rattle.gate_history.specs.declared.verdict.Verdict.{Verdict}
use Rattle.gate_history.specs.declared.verdict.Verdict.TheVariants.{Now, Wire, Routed, IsoOut, Stream}
use Rattle.usb_base.specs.Endpoint.{is_iso}
use Rattle.gate_history.specs.step.Marks.{Effect, Opens, Waits}
use Rattle.gate_history.specs.state.Sides.{leaves}
use Rattle.gate_history.specs.state.Ups.{Up, stream_at, is_ended}

-- every control transfer has a setup
abbrev pub no_setup : Setup
no_setup = record { kind = 0; request = 0; value = 0; index = 0; length = 0 }

abbrev pub wire_packet : Pipe → Transfer → RedirPacket
wire_packet Control t = let s = unwrap_or t.setup no_setup in Carrying (data_packet.Control t.ep s.request s.kind 0 s.value s.index t.wanted t.body)
wire_packet Bulk t = Carrying (data_packet.Bulk t.ep 0 t.wanted 0 t.body)
wire_packet InterruptOut t = Carrying (data_packet.Interrupt t.ep 0 t.wanted t.body)

-- a reset has no answer: what the configuration is after it is asked for, and that is its answer
abbrev pub route_packets : Route → List RedirPacket
route_packets (route.SetConfig configuration) = Plain (plain.SetConfiguration configuration) ∷ []
route_packets route.GetConfig = Plain plain.GetConfiguration ∷ []
route_packets (route.SetAlt interface alt) = Plain (plain.SetAlt interface alt) ∷ []
route_packets (route.GetAlt interface) = Plain (plain.GetAlt interface) ∷ []
route_packets route.Reset = Plain plain.Reset ∷ Plain plain.GetConfiguration ∷ []
route_packets _ = []

-- it goes as some packets where it goes by its route
abbrev pub HasRoute : Verdict → Type 0
HasRoute (Routed r) = 1 ≤ length (route_packets r)
HasRoute _ = Unit {0}

-- ---- streams

abbrev pub start_packet : ℕ → EpRow → RedirPacket
start_packet ep row = Plain (if is_iso row.kind then plain.StartIso ep PACKETS_PER_URB STREAM_URBS else plain.StartInterrupt ep)

-- a stream that is up isn't started again
abbrev pub starts : Option Up → ℕ → EpRow → List RedirPacket
starts up ep row = if is_some up then [] else start_packet ep row ∷ []

abbrev pub stop_packet : Up → RedirPacket
stop_packet up = Plain (if is_iso up.row.kind then plain.StopIso up.ep else plain.StopInterrupt up.ep)

abbrev pub stop_of : (Up → Bool) → Option Up → List RedirPacket
stop_of test up = option_map_or (λ u. if test u then stop_packet u ∷ [] else []) up []

-- of those that pass the test, by their places
abbrev pub stops : (Up → Bool) → List (Option Up) → List RedirPacket
stops test ups = flat_map (stop_of test) ups

-- an isochronous packet to the device has its stretch of the buffer
abbrev pub iso_packets : Request → List RedirPacket
iso_packets r = map (λ d. Carrying (data_packet.Iso r.transfer.ep 0 d.length (part d.offset d.length r.transfer.body))) r.descs

-- ---- of a submit, and of an item

abbrev pub packets_of : List (Option Up) → Verdict → Request → List RedirPacket
packets_of ups (Now status) r = []
packets_of ups (Wire pipe) r = wire_packet pipe r.transfer ∷ []
packets_of ups (Routed route) r = stops (is_ended (Some route)) ups ++ route_packets route
packets_of ups (IsoOut row) r = starts (stream_at ups r.transfer.ep) r.transfer.ep row ++ iso_packets r
packets_of ups (Stream row) r = starts (stream_at ups r.transfer.ep) r.transfer.ep row

-- with its client gone each stream is stopped
abbrev pub asked_packets : List (Option Up) → Effect → List RedirPacket
asked_packets ups (Opens s) = packets_of ups s.verdict s.request
asked_packets ups (Waits s fill) = packets_of ups s.verdict s.request
asked_packets ups e = if leaves e then stops (is_ended None) ups else []
