-- The host reads a packet of the gateway: all that ask it for transfers, and all cancels.
use Rattle.std.proofs.Common.{◌≡◌, ℕ, false, List, [], ◌∷◌, is_some, refl, ap, ◌∙◌}
use Rattle.std.proofs.lemmas.Bool.{both_ways}
use Rattle.redir_wire.specs.declared.packet.RedirControl.TheVariants as plain
use Rattle.redir_data.specs.declared.packet.RedirPacket.{RedirPacket}
use Rattle.redir_data.specs.declared.packet.RedirPacket.TheVariants.{Plain}
use Rattle.model_device.specs.Meaning.{Meaning}
use Rattle.direct_run.specs.Moves.{World, HostReads, move, host_reads}
use Rattle.direct_proof.specs.Deeds.{as_deeds}
use Rattle.direct_proof.specs.Shared.{Shared}
use Rattle.direct_proof.specs.Related.{Related}
use Rattle.direct_proof.specs.Cancels.{IsAsking}
use Rattle.direct_proof.specs.Running.{stream_endpoint}
use Rattle.direct_proof.proofs.heard.Hears.{Heard, Joins, Resetting, Cancelling, Switching, Ignored, heard}
use Rattle.direct_proof.proofs.heard.Listening.{greeted, keep-joined}
use Rattle.direct_proof.proofs.heard.Ignoring.{keep-ignored, keep-reset}
use Rattle.direct_proof.proofs.heard.Taking.{keep-cancel}
use Rattle.direct_proof.proofs.shared.Keeps.{Keeps, keeps-quiet}

-- it starts or stops no stream, and isn't the hello
pub keep-reads-asked : {S : Type 0} (m : Meaning S) (w : World S) (j : Shared) (ps : List (ℕ × RedirPacket)) → Related m w j → w.to_host ≡ ps → ((p : ℕ × RedirPacket) (rest : List (ℕ × RedirPacket)) → ps ≡ p ∷ rest → IsAsking p.1 × (is_some (stream_endpoint p.1) ≡ false)) → Keeps m w j (move as_deeds m w HostReads)
keep-reads-asked m w j [] rel wire calm = keeps-quiet m w j j (move as_deeds m w HostReads) w (ap (host_reads as_deeds m w) wire) rel refl
keep-reads-asked {S = S} m w j (p ∷ ps) rel wire calm = go (heard m w.host p asks)
  where
    asks : IsAsking p.1
    asks = (calm p ps refl).0

    first : w.host.guest.first ≡ false
    first = greeted m w j p ps rel wire w.host.guest.first refl asks

    named : (x : RedirPacket) → p.1 ≡ x → w.to_host ≡ (p.0, x) ∷ ps
    named x is = wire ∙ ap (λ (y : RedirPacket). (p.0, y) ∷ ps) is

    go : Heard m w.host p → Keeps m w j (move as_deeds m w HostReads)
    go (Joins f t line begin quiet changed host) = keep-joined m w j p ps f t rel wire asks first line begin quiet changed host
    go (Resetting is) = keep-reset m w j p.0 ps rel (named (Plain plain.Reset) is) first
    go (Cancelling is) = keep-cancel m w j p.0 ps rel (named (Plain plain.Cancel) is) first
    go (Switching is) = absurd (both_ways (is_some (stream_endpoint p.1)) (calm p ps refl).1 is)
    go (Ignored line begin quiet changed host) = keep-ignored m w j p ps rel wire asks first line begin quiet changed (λ h. host)
