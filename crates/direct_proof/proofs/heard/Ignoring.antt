-- The host reads what leaves its queue alone: half a reset, and what it does nothing about.
use Rattle.std.proofs.Common.{◌≡◌, ℕ, ◌||◌, Bool, true, false, List, [], ◌∷◌, ◌++◌, Option, None, refl, sym, ap, ◌∙◌}
use Rattle.std.proofs.lemmas.Bool.{both_ways, or_right}
use Rattle.std.proofs.Math.Bool.{or-false}
use Rattle.redir_wire.specs.declared.packet.RedirControl.TheVariants as plain
use Rattle.redir_data.specs.declared.packet.RedirPacket.{RedirPacket}
use Rattle.redir_data.specs.declared.packet.RedirPacket.TheVariants.{Plain}
use Rattle.model_device.specs.Meaning.{Meaning}
use Rattle.redir_host.specs.guest.Line.{Waiting as InLine, Reset}
use Rattle.redir_host.specs.step.Moves.{quiet as host_quiet}
use Rattle.redir_host.specs.guest.Packets.{packet_move_by}
use Rattle.direct_run.specs.Moves.{World, HostReads, move, quiet}
use Rattle.direct_proof.specs.Deeds.{as_deeds}
use Rattle.direct_proof.specs.Shared.{Shared, in_line, lines, half_line, at_hosts}
use Rattle.direct_proof.specs.Related.{Related}
use Rattle.direct_proof.specs.Cancels.{IsAsking, begins, any_change}
use Rattle.direct_proof.specs.Stale.{asks}
use Rattle.direct_proof.proofs.shared.Folds.{no-second}
use Rattle.direct_proof.proofs.shared.Streaming.{IsQuiet}
use Rattle.direct_proof.proofs.heard.Listening.{host-reads, read_world, after-heard, cancels-heard}
use Rattle.direct_proof.proofs.shared.Keeps.{Keeps, keeps-quiet}

-- what is in line stays so, and half a reset may have come
pub after-silent : {S : Type 0} (m : Meaning S) (w : World S) (j : Shared) (p : ℕ × RedirPacket) (ps : List (ℕ × RedirPacket)) (half next : Bool) → Related m w j → w.to_host ≡ p ∷ ps → w.host.guest.first ≡ false →
    begins p.1 ≡ false → IsQuiet p → half_line half ++ lines ps ≡ at_hosts j.coming → ((any_change j.held || j.half) || asks None p) ≡ (any_change j.held || half) → (w.host.unplugged ≡ false → next ≡ half) →
    Related m (read_world w ps w.host.queue next) (record j { half = half })
after-silent m w j p ps half next rel wire first begin calm coming changed marked = after-heard m w j p ps w.host.queue next j.held half j.coming rel wire first calm (record {
  queued = rel.line.held;
  marked = marked;
  line = coming;
  same = refl;
  cancels = cancels-heard m w j p ps false rel wire begin;
  changed = changed;
})

-- nothing is done about it
pub keep-ignored : {S : Type 0} (m : Meaning S) (w : World S) (j : Shared) (p : ℕ × RedirPacket) (ps : List (ℕ × RedirPacket)) → Related m w j → w.to_host ≡ p ∷ ps → IsAsking p.1 → w.host.guest.first ≡ false →
    in_line p ≡ [] → begins p.1 ≡ false → IsQuiet p → ((fence : Option ℕ) → asks fence p ≡ false) → (w.host.unplugged ≡ false → packet_move_by m w.host p.0 p.1 ≡ host_quiet w.host) → Keeps m w j (move as_deeds m w HostReads)
keep-ignored {S = S} m w j p ps rel wire k first line begin calm asked host = keeps-quiet m w j j (move as_deeds m w HostReads) (read_world w ps w.host.queue w.host.resets_next) (go w.host.unplugged refl)
    (after-silent m w j p ps j.half w.host.resets_next rel wire first begin calm
    (ap (λ (l : List InLine). half_line j.half ++ (l ++ lines ps)) (sym line) ∙ ap (λ (l : List (ℕ × RedirPacket)). half_line j.half ++ lines l) (sym wire) ∙ rel.line.coming)
    (ap (λ (b : Bool). (any_change j.held || j.half) || b) (asked None) ∙ or-false (any_change j.held || j.half)) rel.line.half) refl
  where
    go : (b : Bool) → w.host.unplugged ≡ b → move as_deeds m w HostReads ≡ quiet (record w { to_host = ps; to_gate = w.to_gate ++ []; host = w.host })
    go true off = host-reads m w p ps w.host wire k true off (λ z. absurd (both_ways true z refl))
    go false on = host-reads m w p ps w.host wire k false on (λ z. host on)

-- ---- the packet of a reset

pub keep-reset : {S : Type 0} (m : Meaning S) (w : World S) (j : Shared) (id : ℕ) (ps : List (ℕ × RedirPacket)) → Related m w j → w.to_host ≡ (id, Plain plain.Reset) ∷ ps → w.host.guest.first ≡ false → Keeps m w j (move as_deeds m w HostReads)
keep-reset {S = S} m w j id ps rel wire first = go w.host.unplugged refl
  where
    p : ℕ × RedirPacket
    p = (id, Plain plain.Reset)

    whole : half_line j.half ++ Reset ∷ lines ps ≡ at_hosts j.coming
    whole = ap (λ (l : List (ℕ × RedirPacket)). half_line j.half ++ lines l) (sym wire) ∙ rel.line.coming

    none : (b : Bool) → j.half ≡ b → b ≡ false
    none true h = absurd (no-second j.coming (lines ps) (ap (λ (b : Bool). half_line b ++ Reset ∷ lines ps) (sym h) ∙ whole))
    none false h = refl

    coming : half_line true ++ lines ps ≡ at_hosts j.coming
    coming = ap (λ (b : Bool). half_line b ++ Reset ∷ lines ps) (sym (none j.half refl)) ∙ whole

    changed : ((any_change j.held || j.half) || true) ≡ (any_change j.held || true)
    changed = or_right (any_change j.held || j.half) true refl ∙ sym (or_right (any_change j.held) true refl)

    go : (b : Bool) → w.host.unplugged ≡ b → Keeps m w j (move as_deeds m w HostReads)
    go true off = keeps-quiet m w j (record j { half = true }) (move as_deeds m w HostReads) (read_world w ps w.host.queue w.host.resets_next)
        (host-reads m w p ps w.host wire tt true off (λ z. absurd (both_ways true z refl)))
        (after-silent m w j p ps true w.host.resets_next rel wire first refl (refl, refl, λ ep b. refl) coming changed (λ h. absurd (both_ways w.host.unplugged h off))) refl
    go false on = keeps-quiet m w j (record j { half = true }) (move as_deeds m w HostReads) (read_world w ps w.host.queue true)
        (host-reads m w p ps (record w.host { resets_next = true }) wire tt false on (λ z. refl))
        (after-silent m w j p ps true true rel wire first refl (refl, refl, λ ep b. refl) coming changed (λ h. refl)) refl
