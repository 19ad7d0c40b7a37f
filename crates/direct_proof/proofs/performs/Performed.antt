-- The device performs the first request of an endpoint, whatever it is.
use Rattle.std.proofs.Common.{◌≡◌, ℕ, Bool, true, false, cond, Option, Some, None, refl, sym, ap, ◌∙◌}
use Rattle.std.specs.List.{find}
use Rattle.usb_base.specs.declared.transfer.Outcome.{Outcome}
use Rattle.control_route.specs.declared.route.Route.{Route}
use Rattle.model_device.specs.Meaning.{Meaning}
use Rattle.model_device.specs.Gadget.{IsGadget}
use Rattle.redir_host.specs.declared.state.request.Request.{Request as HostRequest}
use Rattle.usb_base.specs.Firsts.{without_first}
use Rattle.redir_host.specs.state.Queues.{queue_of, is_at}
use Rattle.redir_host.specs.device.Performing.{first_performed, performs_any, does, with_id}
use Rattle.direct_run.specs.Moves.{World, Performs, move}
use Rattle.direct_device.specs.Direct.{normal_of, change_in}
use Rattle.direct_proof.specs.Deeds.{as_deeds}
use Rattle.direct_proof.specs.Shared.{Shared}
use Rattle.direct_proof.specs.Requests.{at_queue}
use Rattle.direct_proof.specs.Related.{Related}
use Rattle.direct_proof.proofs.answers.Loads.{performed-as}
use Rattle.direct_proof.proofs.performs.Performs.{First, first-of}
use Rattle.direct_proof.proofs.performs.Performing.{keep-still, keep-plain, queue-held, performed-first}
use Rattle.direct_proof.proofs.performs.Changing.{keep-changed}
use Rattle.direct_proof.proofs.shared.Keeps.{Keeps}

pub keep-performs : {S : Type 0} (m : Meaning S) → IsGadget m → (w : World S) (j : Shared) (ep : ℕ) → Related m w j → Keeps m w j (move as_deeds m w (Performs ep))
keep-performs {S = S} m laws w j ep rel = go w.host.unplugged refl
  where
    here : w.host.unplugged ≡ false → (o : Option HostRequest) → find (is_at ep) w.host.queue ≡ o → Keeps m w j (move as_deeds m w (Performs ep))
    here on None found = keep-still m w j ep rel (performed-first m w ep None on found)
    here on (Some q) found = by (change_in f.entry.load.verdict) refl (m.perform w.host.gadget (normal_of f.entry.load)) refl
      where
        f : First (queue_of ep) j.held j.coming q
        f = first-of (queue_of ep) j.held j.coming q (ap (find (is_at ep)) (sym (queue-held m w j rel on)) ∙ found)

        by : (c : Option Route) → change_in f.entry.load.verdict ≡ c → (r : Option (S × Outcome)) → m.perform w.host.gadget (normal_of f.entry.load) ≡ r → Keeps m w j (move as_deeds m w (Performs ep))
        by None plain r ready = keep-plain m laws w j ep q rel on found f plain r ready
        by (Some c) change (Some done) ready = keep-changed m laws w j ep q rel on found f c change done ready
        by (Some c) change None ready = keep-still m w j ep rel (performed-first m w ep (Some q) on found
            ∙ (λ i. with_id (f.is i) (performs_any m (record w.host { queue = without_first (is_at ep) w.host.queue }) (f.is i)))
            ∙ ap (with_id (at_queue f.entry)) (performed-as m (record w.host { queue = without_first (is_at ep) w.host.queue }) f.entry ∙ ap (does m (record w.host { queue = without_first (is_at ep) w.host.queue }) (at_queue f.entry) (change_in f.entry.load.verdict)) ready))

    go : (b : Bool) → w.host.unplugged ≡ b → Keeps m w j (move as_deeds m w (Performs ep))
    go true off = keep-still m w j ep rel (ap (λ (b : Bool). cond b None (first_performed m w.host ep (find (is_at ep) w.host.queue))) off)
    go false on = here on (find (is_at ep) w.host.queue) refl
