-- The device may send a packet of a stream: what the move makes.
use Rattle.std.proofs.Common.{◌≡◌, ℕ, true, false, cond, [], ◌∷◌, ◌++◌, Some, None, is_some, ◌∙◌, append-nil}
use Rattle.std.specs.List.{find}
use Rattle.usb_base.specs.declared.transfer.StreamPacket.{StreamPacket}
use Rattle.model_device.specs.Meaning.{Meaning}
use Rattle.redir_host.specs.declared.state.running.Running.{Running}
use Rattle.redir_host.specs.step.Moves.{quiet as host_quiet}
use Rattle.redir_host.specs.device.Offering.{offered_on, offered_by as host_offers, told_offered_by, stream_packet}
use Rattle.redir_host.specs.declared.write.note.Offered.TheVariants as offered
use Rattle.redir_host.specs.guest.Packets.{runs_at}
use Rattle.direct_device.specs.Acting.{Offer}
use Rattle.direct_run.specs.Moves.{World, Offers, move, quiet, host_made}
use Rattle.direct_run.specs.Noted.{offered_item}
use Rattle.direct_proof.specs.Deeds.{as_deeds}

abbrev pub offered_world : {S : Type 0} → World S → Running → ℕ → S × StreamPacket → World S
offered_world w s ep sent = record w { host = record w.host { gadget = sent.0 }; to_gate = w.to_gate ++ stream_packet s.kind ep sent.1 ∷ [] }

-- ---- what the move makes

pub offer-moved : {S : Type 0} (m : Meaning S) (w : World S) (ep : ℕ) (s : Running) (sent : S × StreamPacket) → w.host.unplugged ≡ false → find (runs_at ep) w.host.running ≡ Some s → m.offer w.host.gadget ep ≡ Some sent →
    move as_deeds m w (Offers ep) ≡ record { world = offered_world w s ep sent; outs = []; told = Offer ep ∷ [] }
offer-moved {S = S} m w ep s sent plugged found ready =
    (λ i. host_made as_deeds w (cond (plugged i) (host_quiet w.host) (offered_on m w.host ep (found i))) (offered_item ep (cond (plugged i) offered.Unplugged (told_offered_by m w.host ep (found i)))))
    ∙ (λ i. host_made as_deeds w (host_offers w.host ep s.kind (ready i)) (offered_item ep (cond (is_some (ready i)) offered.Sent offered.Nothing)))

-- nothing was offered
pub offer-stands : {S : Type 0} (m : Meaning S) (w : World S) (ep : ℕ) → w.host.unplugged ≡ true → move as_deeds m w (Offers ep) ≡ quiet w
offer-stands m w ep gone =
    (λ i. host_made as_deeds w (cond (gone i) (host_quiet w.host) (offered_on m w.host ep (find (runs_at ep) w.host.running))) (offered_item ep (cond (gone i) offered.Unplugged (told_offered_by m w.host ep (find (runs_at ep) w.host.running)))))
    ∙ (λ i. quiet (record w { to_gate = append-nil w.to_gate i }))

pub offer-closed : {S : Type 0} (m : Meaning S) (w : World S) (ep : ℕ) → w.host.unplugged ≡ false → find (runs_at ep) w.host.running ≡ None → move as_deeds m w (Offers ep) ≡ quiet w
offer-closed m w ep plugged none =
    (λ i. host_made as_deeds w (cond (plugged i) (host_quiet w.host) (offered_on m w.host ep (none i))) (offered_item ep (cond (plugged i) offered.Unplugged (told_offered_by m w.host ep (none i)))))
    ∙ (λ i. quiet (record w { to_gate = append-nil w.to_gate i }))

pub offer-empty : {S : Type 0} (m : Meaning S) (w : World S) (ep : ℕ) (s : Running) → w.host.unplugged ≡ false → find (runs_at ep) w.host.running ≡ Some s → m.offer w.host.gadget ep ≡ None → move as_deeds m w (Offers ep) ≡ quiet w
offer-empty m w ep s plugged found none =
    (λ i. host_made as_deeds w (cond (plugged i) (host_quiet w.host) (offered_on m w.host ep (found i))) (offered_item ep (cond (plugged i) offered.Unplugged (told_offered_by m w.host ep (found i)))))
    ∙ (λ i. host_made as_deeds w (host_offers w.host ep s.kind (none i)) (offered_item ep (cond (is_some (none i)) offered.Sent offered.Nothing)))
    ∙ (λ i. quiet (record w { to_gate = append-nil w.to_gate i }))
