-- The ids of the packets that start and stop the streams of endpoints: of each endpoint's place in the table its last
-- start, and the last stop after that.
use Rattle.std.specs.Prelude.{ℕ, ◌==◌, if◌then◌else◌, List, [], ◌∷◌, ◌++◌, replicate, slice_set, zip, fold, Option, Some, None}
use Rattle.std.specs.List.{flat_map, last_or}
use Rattle.std.specs.Option.{option_to_list, option_and_then}
use Rattle.usb_base.specs.Endpoint.{endpoint_index}
use Rattle.redir_wire.specs.declared.packet.RedirControl.TheVariants as plain
use Rattle.redir_data.specs.declared.packet.RedirPacket.{RedirPacket}
use Rattle.redir_data.specs.declared.packet.RedirPacket.TheVariants.{Plain}
use Rattle.usb_base.specs.declared.endpoint.TheConstants.{ENDPOINTS}
use Rattle.packet_stream.specs.Folds.{rfold}
use Rattle.gate_history.specs.step.Marks.{Effect, StreamTold, Mark}
use Rattle.gate_history.specs.state.Sides.{leaves, is_loss}
use Rattle.gate_history.specs.state.Ups.{Up, streams}
use Rattle.gate_history.specs.write.Packets.{asked_packets}

pub record StreamIds : Type 0 where
  pub started : List (Option ℕ)
  pub stopped : List (Option ℕ)

abbrev pub no_stream_ids : StreamIds
no_stream_ids = record { started = replicate ENDPOINTS None; stopped = replicate ENDPOINTS None }

abbrev pub started : ℕ → ℕ → StreamIds → StreamIds
started ep id c = record { started = slice_set c.started (endpoint_index ep) (Some id); stopped = slice_set c.stopped (endpoint_index ep) None }

abbrev pub stopped : ℕ → ℕ → StreamIds → StreamIds
stopped ep id c = record { started = c.started; stopped = slice_set c.stopped (endpoint_index ep) (Some id) }

-- by a packet that was sent with this id
abbrev pub stream_ids_by : ℕ → RedirPacket → StreamIds → StreamIds
stream_ids_by id (Plain (plain.StartIso endpoint pkts_per_urb no_urbs)) c = started endpoint id c
stream_ids_by id (Plain (plain.StartInterrupt endpoint)) c = started endpoint id c
stream_ids_by id (Plain (plain.StopIso endpoint)) c = stopped endpoint id c
stream_ids_by id (Plain (plain.StopInterrupt endpoint)) c = stopped endpoint id c
stream_ids_by id _ c = c

-- by several, the first that was sent first
abbrev pub stream_ids_after : List (ℕ × RedirPacket) → StreamIds → StreamIds
stream_ids_after ps c = fold (λ before p. stream_ids_by p.0 p.1 before) c ps

-- the packets of an item that have ids of their own
abbrev pub asking : List (Option Up) → Mark → List (ℕ × RedirPacket)
asking ups m = zip m.drawn (asked_packets ups m.what)

abbrev pub stream_ids : List Mark → StreamIds
stream_ids [] = no_stream_ids
stream_ids (m ∷ ms) = stream_ids_after (asking (streams ms) m) (stream_ids ms)

abbrev pub ids_of_streams : StreamIds → List ℕ
ids_of_streams c = flat_map option_to_list c.started ++ flat_map option_to_list c.stopped

-- ---- the fence: the last stop that a client's leaving sent, until the host's word on it has come or the device is
-- lost. What that client's streams still send comes before that word

abbrev pub lifted : ℕ → Option ℕ → Option ℕ
lifted id fence = option_and_then (λ f. if f == id then None else Some f) fence

abbrev pub moved_fence : Effect → Option ℕ → Option ℕ
moved_fence (StreamTold id ep status) fence = lifted id fence
moved_fence _ fence = fence

-- of a leaving, `drawn` are the ids of its stops
abbrev pub fence_after : Effect → List ℕ → Option ℕ → Option ℕ
fence_after e drawn fence = if leaves e then last_or fence drawn else if is_loss e then None else moved_fence e fence

abbrev pub fence : List Mark → Option ℕ
fence ms = rfold (λ before m. fence_after m.what m.drawn before) None ms
