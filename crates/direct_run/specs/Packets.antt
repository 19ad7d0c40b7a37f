-- The packets behind a course's bytes: those that each side has sent, and those that the bytes that came are read as.
use Rattle.std.specs.Prelude.{ℕ, List, map}
use Rattle.redir_wire.specs.declared.packet.Caps.{Caps}
use Rattle.redir_wire.specs.declared.packet.Header.{Header}
use Rattle.redir_wire.specs.Capability.{agreed, announced}
use Rattle.redir_data.specs.declared.packet.RedirPacket.{RedirPacket}
use Rattle.gate_history.specs.write.All.{all_of}
use Rattle.gate_history.specs.step.Events.{host_bytes}
use Rattle.gate_history.specs.step.History.{history, host_split}
use Rattle.gate_history.specs.write.Output.{to_host}
use Rattle.model_device.specs.Meaning.{Meaning}
use Rattle.redir_host.specs.step.Acts.{guest_bytes}
use Rattle.redir_host.specs.guest.Guest.{guest_split}
use Rattle.redir_host.specs.step.History.{history as host_history}
use Rattle.redir_host.specs.step.Machine.{all_given}
use Rattle.direct_run.specs.World.{Course, first_id}

-- what both announce
abbrev pub both_caps : Caps
both_caps = agreed announced announced

-- ---- sent, behind the hello

abbrev pub sent_by_gate : Course → List (ℕ × RedirPacket)
sent_by_gate c = all_of to_host first_id (history first_id c.events)

abbrev pub sent_by_host : {S : Type 0} → Meaning S → S → Course → List (ℕ × RedirPacket)
sent_by_host m s c = all_given (λ v. v.sent) m s (host_history c.acts)

-- ---- read, with the hello

-- a packet that was read, with its header and at its place
abbrev pub Found : Type 0
Found = ℕ × (Header × RedirPacket)

abbrev pub read_by_host : Course → List Found
read_by_host c = (guest_split (guest_bytes c.acts)).packets

abbrev pub read_by_gate : Course → List Found
read_by_gate c = (host_split (host_bytes c.events)).packets

-- with its id alone, as it is sent
abbrev pub bare : Header × RedirPacket → ℕ × RedirPacket
bare p = (p.0.id, p.1)

abbrev pub bares : List Found → List (ℕ × RedirPacket)
bares is = map (λ (i : Found). bare i.1) is
