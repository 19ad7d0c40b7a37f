-- What is drawn and sent for streams, by what is kept.
use Rattle.std.specs.Prelude.{◌≡◌, ℕ, if◌then◌else◌, List, [], ◌++◌, length, zip, unwrap_or, Option, Some, None, is_some}
use Rattle.std.specs.Option.{option_map_or}
use Rattle.redir_data.specs.declared.packet.RedirPacket.{RedirPacket}
use Rattle.control_route.specs.declared.route.Route.{Route}
use Rattle.usb_base.specs.declared.endpoint.EpRow.{EpRow}
use Rattle.gate_core.specs.declared.state.kept.Kept.{Kept}
use Rattle.gate_parts.specs.declared.state.stream_ids.SentIds.{SentIds}
use Rattle.gate_history.specs.state.Ids.{draw, draws, greatest, last_of}
use Rattle.gate_history.specs.state.Ups.{stream_at, raise, is_ended}
use Rattle.gate_history.specs.write.Packets.{starts, stops}
use Rattle.gate_history.specs.state.StreamIds.{StreamIds, started, stream_ids_after, ids_of_streams}
use Rattle.std.specs.List.{flat_map, last_or}
use Rattle.redir_data.specs.Sent.{sent_packet_bytes}
use Rattle.gate_history.specs.state.Flight.{wide_ids}
use Rattle.gate_parts.specs.state.Ids.{ids_in}

abbrev pub flying_in : Kept → List ℕ
flying_in t = ids_in t.lives ++ ids_of_streams t.stream_ids

-- the ids of so many packets, the first of them after this one
abbrev pub ids_after : Kept → ℕ → ℕ → List ℕ
ids_after t last n = draws (greatest (wide_ids t.sides.agreed)) (flying_in t) last n

-- packets with their ids
abbrev pub with_ids : Kept → ℕ → List RedirPacket → List (ℕ × RedirPacket)
with_ids t last ps = zip (ids_after t last (length ps)) ps

abbrev pub stops_of : Kept → Option Route → List RedirPacket
stops_of t by = stops (is_ended by) t.streams

abbrev pub starts_of : Kept → ℕ → EpRow → List RedirPacket
starts_of t ep row = starts (stream_at t.streams ep) ep row

-- nothing more was started or stopped
abbrev pub sent_ids_of : Kept → SentIds
sent_ids_of t = record { stream_ids = t.stream_ids; last = t.last; fence = t.fence }

-- these stops were sent more
abbrev pub after_stops : Kept → SentIds → List RedirPacket → SentIds
after_stops t c ps = record {
  stream_ids = stream_ids_after (with_ids t c.last ps) c.stream_ids;
  last = last_of c.last (ids_after t c.last (length ps));
  fence = last_or c.fence (ids_after t c.last (length ps));
}

abbrev pub bytes_of : Kept → ℕ → List RedirPacket → List ℕ
bytes_of t last ps = flat_map (sent_packet_bytes t.sides.agreed) (with_ids t last ps)

-- ---- a start

-- its id, none where the stream is up
abbrev pub start_id : Kept → ℕ → Option ℕ
start_id t ep = if is_some (stream_at t.streams ep) then None else Some (draw (greatest (wide_ids t.sides.agreed)) (flying_in t) t.last)

abbrev pub started_with : ℕ → Option ℕ → StreamIds → StreamIds
started_with ep id ids = option_map_or (λ n. started ep n ids) id ids

-- an endpoint's stream is up, and its start was sent with this id
pub record HasRaised (ep : ℕ) (row : EpRow) (id : Option ℕ) (old new : Kept) : Type 0 where
  pub is : new ≡ record old {
    streams = raise (record { ep = ep; row = row; held = [] }) old.streams;
    stream_ids = started_with ep id old.stream_ids;
    last = unwrap_or id old.last;
  }
