-- What happens to the gateway, and the bytes of each side so far. Lists of events have the latest first.
use Rattle.std.specs.Prelude.{ℕ, List, [], ◌∷◌, ◌++◌}
use Rattle.gate_history.specs.declared.event.Event.{Event}
use Rattle.gate_history.specs.declared.event.Event.TheVariants as raw

pub data PastEvent : Type 0 where
  ClientPiece : List ℕ → PastEvent
  ClientEnd : PastEvent
  HostPiece : List ℕ → PastEvent
  HostEnd : PastEvent

-- an event as the code lends it
abbrev pub event_of : Event → PastEvent
event_of (raw.ClientPiece b) = ClientPiece b.now
event_of raw.ClientEnd = ClientEnd
event_of (raw.HostPiece b) = HostPiece b.now
event_of raw.HostEnd = HostEnd

-- all that the present client has sent, which began at the start or after the last client's end
abbrev pub client_bytes : List PastEvent → List ℕ
client_bytes [] = []
client_bytes (ClientPiece b ∷ past) = client_bytes past ++ b
client_bytes (ClientEnd ∷ past) = []
client_bytes (_ ∷ past) = client_bytes past

-- all that the host has sent
abbrev pub host_bytes : List PastEvent → List ℕ
host_bytes [] = []
host_bytes (HostPiece b ∷ past) = host_bytes past ++ b
host_bytes (_ ∷ past) = host_bytes past
