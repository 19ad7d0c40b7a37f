-- What is held is the rest of each side that isn't over.
use Rattle.std.proofs.Common.{◌≡◌, ℕ, ◌+◌, Bool, true, false, cond, List, length, refl, ap, ◌∙◌}
use Rattle.usb_base.specs.declared.reason.Reason.{Reason}
use Rattle.packet_stream.specs.Split.{Reader, Position, split}
use Rattle.packet_stream.specs.Streams.{StreamView}
use Rattle.gate_history.specs.step.Events.{PastEvent, client_bytes, host_bytes}
use Rattle.redir_data.specs.Streams.{stream_start}
use Rattle.gate_history.specs.step.Streams.{client_reader, client_start, host_reader}
use Rattle.gate_history.specs.state.Sides.{client_over, host_over}
use Rattle.gate_history.specs.step.History.{history, arrivals, rest_length}
use Rattle.gate_core.specs.state.Kept.{GateKept}
use Rattle.gate_history.specs.step.Came.{asked, told}
use Rattle.gate_core.specs.step.Stands.{HasAll, GateStands}

held-by : {S P : Type 0} (r : Reader S P Reason) (start : Position S) (kept : StreamView S) (bytes : List ℕ) (given : List (ℕ × P)) (over : Bool) → HasAll r start kept bytes given over →
    length kept.held ≡ cond over 0 (length (split r start bytes).rest)
held-by r start kept bytes given true all = ap length (all.none refl)
held-by r start kept bytes given false all = ap length (all.whole refl ∙ (all.drained refl).rest)

pub held-all : (first : ℕ) (g : GateKept) (events : List PastEvent) → GateStands first g events → length g.client.held + length g.host.held ≡ rest_length first events
held-all first g events stands =
    let client = held-by client_reader client_start g.client (client_bytes events) (asked (arrivals events)) (client_over (history first events)) stands.client in
    let host = held-by host_reader stream_start g.host (host_bytes events) (told (arrivals events)) (host_over (history first events)) stands.host in
    λ i. client i + host i
