-- That the host can read what the gate sends it.
use Rattle.std.specs.Prelude.{ℕ, List, []}
use Rattle.std.specs.List.{flat_map, AllByRecursion}
use Rattle.usb_base.specs.Number.{AreBytes}
use Rattle.redir_wire.specs.declared.packet.Way.TheVariants.{ToHost}
use Rattle.redir_data.specs.Sent.{CanBeRead}
use Rattle.gate_history.specs.step.Events.{PastEvent, ClientPiece, ClientEnd, HostPiece, HostEnd}
use Rattle.gate_history.specs.state.State.{state_of}
use Rattle.gate_history.specs.step.History.{history}
use Rattle.gate_history.specs.write.Output.{to_host}
use Rattle.gate_history.specs.write.All.{all_of}

-- the bytes that an event brings
abbrev pub piece_bytes : PastEvent → List ℕ
piece_bytes (ClientPiece b) = b
piece_bytes (HostPiece b) = b
piece_bytes _ = []

-- of events whose bytes are bytes, each packet to the host can be read with the capabilities that are agreed
abbrev pub SentCanBeRead : Type 0
SentCanBeRead =
    (first : ℕ) (events : List PastEvent) → AreBytes (flat_map piece_bytes events) →
    AllByRecursion (CanBeRead ToHost (state_of first (history first events)).sides.agreed) (all_of to_host first (history first events))
