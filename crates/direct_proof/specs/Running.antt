-- Streams at the host: each that is down at the gateway ends, and each start comes to the table that it was made for.
use Rattle.std.specs.Prelude.{◌≡◌, ℕ, ◌==◌, ◌||◌, Bool, true, false, if◌then◌else◌, List, [], ◌∷◌, Option, Some, None}
use Rattle.std.specs.List.{list_any}
use Rattle.usb_base.specs.declared.endpoint.EpTable.{EpTable}
use Rattle.redir_wire.specs.declared.packet.RedirControl.TheVariants as plain
use Rattle.redir_data.specs.declared.packet.RedirPacket.{RedirPacket}
use Rattle.redir_data.specs.declared.packet.RedirPacket.TheVariants.{Plain}
use Rattle.redir_data.specs.declared.stream_kind.StreamKind.{StreamKind}
use Rattle.redir_data.specs.declared.stream_kind.StreamKind.TheVariants.{Interrupt, Iso}
use Rattle.redir_host.specs.guest.Packets.{can_start}
use Rattle.direct_proof.specs.Stale.{asks}

-- what a packet makes of whether an endpoint's stream runs
abbrev pub runs_after : ℕ → RedirPacket → Bool → Bool
runs_after ep (Plain (plain.StartIso e urbs count)) runs = if e == ep then true else runs
runs_after ep (Plain (plain.StartInterrupt e)) runs = if e == ep then true else runs
runs_after ep (Plain (plain.StopIso e)) runs = if e == ep then false else runs
runs_after ep (Plain (plain.StopInterrupt e)) runs = if e == ep then false else runs
runs_after ep _ runs = runs

-- as long as the stream runs, now or by a start on the wire, a change or the fence's stop is behind
abbrev pub Quits : Option ℕ → ℕ → Bool → List (ℕ × RedirPacket) → Type 0
Quits fence ep runs [] = runs ≡ false
Quits fence ep runs (p ∷ ps) = (runs ≡ true → list_any (asks fence) (p ∷ ps) ≡ true) × Quits fence ep (runs_after ep p.1 runs) ps

-- the endpoint of a start or stop
abbrev pub stream_endpoint : RedirPacket → Option ℕ
stream_endpoint (Plain (plain.StartIso e urbs count)) = Some e
stream_endpoint (Plain (plain.StartInterrupt e)) = Some e
stream_endpoint (Plain (plain.StopIso e)) = Some e
stream_endpoint (Plain (plain.StopInterrupt e)) = Some e
stream_endpoint _ = None

abbrev pub passes : (ℕ → Bool) → Option ℕ → Bool
passes test None = false
passes test (Some ep) = test ep

-- a start or stop of a stream that is down has a change or the fence's stop behind it, or is that
abbrev pub Trails : Option ℕ → (ℕ → Bool) → List (ℕ × RedirPacket) → Type 0
Trails fence down [] = Unit {0}
Trails fence down (p ∷ ps) = (passes down (stream_endpoint p.1) ≡ true → list_any (asks fence) (p ∷ ps) ≡ true) × Trails fence down ps

-- what is started
abbrev pub started_kind : RedirPacket → Option (StreamKind × ℕ)
started_kind (Plain (plain.StartIso e urbs count)) = Some (Iso, e)
started_kind (Plain (plain.StartInterrupt e)) = Some (Interrupt, e)
started_kind _ = None

abbrev pub CanStart : EpTable → Bool → Option (StreamKind × ℕ) → Type 0
CanStart table changing None = Unit {0}
CanStart table changing (Some s) = (changing ≡ false) × (can_start table s.0 s.1 ≡ true)

-- a start comes to the table that it was made for
abbrev pub StartsFit : EpTable → Bool → List (ℕ × RedirPacket) → Type 0
StartsFit table changing [] = Unit {0}
StartsFit table changing (p ∷ ps) = CanStart table changing (started_kind p.1) × StartsFit table (changing || asks None p) ps
