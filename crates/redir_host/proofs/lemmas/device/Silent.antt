-- Performs, offers and the end tell nothing beside their answers.
use Rattle.std.proofs.Common.{◌≡◌, ℕ, Bool, true, false, List, [], ◌++◌, Option, Some, None, refl, ap, ◌∙◌}
use Rattle.usb_base.specs.Status.{is_success}
use Rattle.usb_base.specs.declared.endpoint.EpTable.{EpTable}
use Rattle.usb_base.specs.declared.transfer.Outcome.{Outcome}
use Rattle.control_route.specs.declared.route.Route.{Route}
use Rattle.model_device.specs.Meaning.{Meaning}
use Rattle.redir_host.specs.declared.state.host.Host.{Host}
use Rattle.redir_host.specs.declared.write.note.HostNote.{HostNote}
use Rattle.redir_host.specs.declared.state.request.Request.{Request}
use Rattle.redir_host.specs.device.Changes.{changed}
use Rattle.redir_host.specs.device.Offering.{offer_move, unplug_move}
use Rattle.redir_host.specs.device.Performing.{done_by, perform_move}
use Rattle.redir_host.proofs.lemmas.device.Performs.{always-kept, IsPreserved, offer-kept, perform-kept}
use Rattle.redir_host.proofs.lemmas.state.Sound.{unplugged-by}

changed-silent : {S : Type 0} (m : Meaning S) (r : Route) (t : EpTable) (b : Bool) (h : Host S) → (changed m r t b h).notes ≡ []
changed-silent m r t true h = refl
changed-silent m r t false h = refl

done-silent : {S : Type 0} (m : Meaning S) (t : EpTable) (h : Host S) (q : Request) (r : Option Route) (o : Outcome) → (done_by m t h q r o).notes ≡ []
done-silent m t h q None o = refl
done-silent m t h q (Some r) o = changed-silent m r t (is_success o.status) h

silent : {S : Type 0} (m : Meaning S) → IsPreserved m (λ q. Unit {0}) (λ h. Unit {0}) (λ v. v.notes ≡ [])
silent m = always-kept (λ h. refl) (changed-silent m) (done-silent m) (λ v w first then. ap (λ (ns : List HostNote). ns ++ w.notes) first ∙ then)

pub perform-silent : {S : Type 0} (m : Meaning S) (h : Host S) (ep : ℕ) → (perform_move m h ep).notes ≡ []
perform-silent m h ep = perform-kept (silent m) h ep h.unplugged tt

pub offer-silent : {S : Type 0} (m : Meaning S) (h : Host S) (ep : ℕ) → (offer_move m h ep).notes ≡ []
offer-silent m h ep = offer-kept m (λ v. v.notes ≡ []) (λ h. refl) (λ h ep k sent. refl) h ep h.unplugged

unplug-by : {S : Type 0} (h : Host S) (b : Bool) → (unplugged-by h b).notes ≡ []
unplug-by h true = refl
unplug-by h false = refl

pub unplug-silent : {S : Type 0} (h : Host S) → (unplug_move h).notes ≡ []
unplug-silent h = unplug-by h h.unplugged
