-- What holds of facts and streams while the gateway knows of the device, or is told of it.
use Rattle.std.specs.Prelude.{◌≡◌, ℕ, ◌||◌, Bool, true, List, ◌++◌, Option, Some, is_none}
use Rattle.std.specs.List.{list_any, AllByRecursion}
use Rattle.redir_wire.specs.EpTable.{table_of}
use Rattle.redir_data.specs.declared.packet.RedirPacket.{RedirPacket}
use Rattle.model_device.specs.Meaning.{Meaning}
use Rattle.redir_host.specs.device.Facts.{ep_info_of}
use Rattle.redir_host.specs.guest.Packets.{runs_at}
use Rattle.redir_host.specs.declared.state.host.Host.{Host}
use Rattle.redir_host.specs.declared.state.running.Running.{Running}
use Rattle.gate_history.specs.state.Ups.{Up, stream_of}
use Rattle.direct_run.specs.Moves.{World}
use Rattle.direct_run.specs.Packets.{both_caps}
use Rattle.direct_proof.specs.Cancels.{any_change}
use Rattle.direct_proof.specs.Kinds.{OfKind, StartOfKind}
use Rattle.direct_proof.specs.Running.{Quits, StartsFit, Trails, started_kind}
use Rattle.direct_proof.specs.Shared.{Shared}
use Rattle.direct_proof.specs.Stale.{Clean}
use Rattle.direct_proof.specs.Tagged.{told}

abbrev pub down_in : List (Option Up) → ℕ → Bool
down_in ups ep = is_none (stream_of ups ep)

abbrev pub runs : {S : Type 0} → Host S → ℕ → Bool
runs h ep = list_any (runs_at ep) h.running

-- what holds of facts and streams from the moment on in which the host has told of the device, as long as it is there
abbrev pub Session : {S : Type 0} → Meaning S → World S → Shared → Type 0
Session m w j = record {
  table : (told w.gate.facts j.back).table ≡ table_of (ep_info_of both_caps (m.table w.host.gadget));
  faces : (told w.gate.facts j.back).interfaces ≡ Some (m.interfaces w.host.gadget);
  clean : Clean w.gate.fence (down_in w.gate.streams) (any_change (j.held ++ j.coming) || j.fenced) j.back;
  quits : (ep : ℕ) → down_in w.gate.streams ep ≡ true → Quits w.gate.fence ep (runs w.host ep) w.to_host;
  trails : Trails w.gate.fence (down_in w.gate.streams) w.to_host;
  starts : StartsFit (m.table w.host.gadget) (any_change j.held || j.half) w.to_host;
  kinds : AllByRecursion (λ (s : Running). OfKind (stream_of w.gate.streams s.ep) s.kind) w.host.running;
  start_kinds : AllByRecursion (λ (p : ℕ × RedirPacket). StartOfKind w.gate.streams (started_kind p.1)) w.to_host;
}
