-- The ids of starts and stops, and the fence between two clients.
use Rattle.std.specs.Prelude.{◌≡◌, ℕ, ◌+◌, ◌≤◌, ◌==◌, ◌||◌, Bool, true, false, if◌then◌else◌, List, [], ◌∷◌, ◌++◌, Option, Some, None, is_some, get_or}
use Rattle.std.specs.List.{AllByRecursion}
use Rattle.usb_base.specs.Endpoint.{endpoint_index}
use Rattle.redir_data.specs.declared.packet.RedirPacket.{RedirPacket}
use Rattle.gate_history.specs.state.StreamIds.{StreamIds}
use Rattle.gate_history.specs.state.Ids.{times}
use Rattle.direct_proof.specs.Running.{passes, stream_endpoint}
use Rattle.direct_proof.specs.Tagged.{Stated, Tagged}

abbrev pub stream_id : ℕ × RedirPacket → List ℕ
stream_id (id, p) = if is_some (stream_endpoint p) then id ∷ [] else []

abbrev pub status_id : Tagged → List ℕ
status_id (Stated k id ep status) = id ∷ []
status_id _ = []

abbrev pub stream_ids_on : List (ℕ × RedirPacket) → List ℕ
stream_ids_on [] = []
stream_ids_on (p ∷ ps) = stream_id p ++ stream_ids_on ps

abbrev pub statuses_on : List Tagged → List ℕ
statuses_on [] = []
statuses_on (b ∷ bs) = status_id b ++ statuses_on bs

-- the id is one that the gateway keeps for the endpoint
abbrev pub IdIsKept : StreamIds → ℕ → ℕ → Type 0
IdIsKept c id ep = (passes (λ kept. kept == id) (get_or c.started (endpoint_index ep) None) || passes (λ kept. kept == id) (get_or c.stopped (endpoint_index ep) None)) ≡ true

abbrev pub StreamIdIsKept : StreamIds → ℕ → Option ℕ → Type 0
StreamIdIsKept c id None = Unit {0}
StreamIdIsKept c id (Some ep) = IdIsKept c id ep

abbrev pub StatusIsKept : StreamIds → Tagged → Type 0
StatusIsKept c (Stated k id ep status) = IdIsKept c id ep
StatusIsKept c _ = Unit {0}

pub record Controls (c : StreamIds) (to_host : List (ℕ × RedirPacket)) (back : List Tagged) : Type 0 where
  pub once : (id : ℕ) → times id (stream_ids_on to_host) + times id (statuses_on back) ≤ 1
  pub stream_ids_kept : AllByRecursion (λ (p : ℕ × RedirPacket). StreamIdIsKept c p.0 (stream_endpoint p.1)) to_host
  pub statuses_kept : AllByRecursion (StatusIsKept c) back

-- the fence's stop is to come, or its status is on the wire
abbrev pub Fenced : Option ℕ → Bool → List (ℕ × RedirPacket) → List Tagged → Type 0
Fenced None fenced to_host back = fenced ≡ false
Fenced (Some fence) fenced to_host back = (1 ≤ times fence (stream_ids_on to_host) → fenced ≡ true) × (fenced ≡ true → times fence (statuses_on back) ≡ 0)
