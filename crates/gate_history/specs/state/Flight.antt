-- The ids in flight, and those that an item draws.
use Rattle.std.specs.Prelude.{ℕ, ◌-◌, Bool, List, ◌++◌, map, filter}
use Rattle.redir_wire.specs.declared.packet.Caps.{Caps}
use Rattle.redir_wire.specs.declared.packet.TheConstants.Caps.{WIDE_BULK_LENGTH}
use Rattle.redir_wire.specs.Capability.{has}
pub use Rattle.redir_wire.specs.State.{wide_ids}
use Rattle.packet_stream.specs.Folds.{rfold}
use Rattle.gate_history.specs.state.Ids.{last_of}
use Rattle.gate_history.specs.client.Verdict.{goes_by_id}
use Rattle.gate_history.specs.step.Marks.{Submission, Mark}
use Rattle.gate_history.specs.client.Submits.{live, abandoned}
use Rattle.gate_history.specs.state.StreamIds.{stream_ids, ids_of_streams}

-- `usb_redir_cap_32bits_bulk_length`: bulk packets have 32 bits for their lengths
abbrev pub wide_bulk : Caps → Bool
wide_bulk caps = has caps WIDE_BULK_LENGTH

abbrev pub ids_of : List Submission → List ℕ
ids_of ss = map (λ s. s.id) (filter (λ s. goes_by_id s.verdict) ss)

abbrev pub in_flight : List Mark → List ℕ
in_flight ms = ids_of (live ms) ++ ids_of (abandoned ms) ++ ids_of_streams (stream_ids ms)

-- the last id that was drawn; the first of all is the first id, which stands after `first - 1`
abbrev pub last_drawn : ℕ → List Mark → ℕ
last_drawn first ms = rfold (λ last m. last_of last m.drawn) (first - 1) ms
