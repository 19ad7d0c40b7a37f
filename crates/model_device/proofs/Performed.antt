-- The state that a request of endpoint 0 leaves, by what it came to.
use Rattle.std.proofs.Common.{◌≡◌, ◌&&◌, Bool, true, if◌then◌else◌, is_some, refl, ap, subst, ◌∙◌}
use Rattle.usb_base.specs.Status.{is_success}
use Rattle.usb_base.specs.declared.transfer.Transfer.{Transfer}
use Rattle.usb_base.specs.declared.transfer.Outcome.{Outcome}
use Rattle.chapter9.specs.declared.part.Part.{Part}
use Rattle.chapter9.specs.declared.standard_requests.DescriptorSet.{DescriptorSet}
use Rattle.std.specs.Prelude.{List}
use Rattle.chapter9.specs.Standard.{outcome_of, state_after}
use Rattle.model_device.specs.declared.framework.Framework.{Framework}
use Rattle.model_device.specs.Transfer.{asks_change}
use Rattle.model_device.specs.Meaning.{state_in}
use Rattle.model_device.specs.Device.{Device, State, control, device_parts, perform}

performed-by : {X : Type 0} (d : Device X) (s : State X) (t : Transfer) → is_some t.setup ≡ true → (control d s t).0 ≡ state_in s (perform d s t)
performed-by d s t is = rw is refl

-- what is kept is as before, or as at first where it was a change that is done
pub performed : {X : Type 0} (d : Device X) (was new : Framework) (s : State X) (t : Transfer) (o : Outcome) (done : Bool) (kept left : X)
    → was.set ≡ d.set → was.parts ≡ device_parts d → record { device = was.state; kept = kept } ≡ s → new ≡ record was { state = state_after was.parts was.state t } → is_some t.setup ≡ true
    → o ≡ outcome_of was.set was.parts was.state t → done ≡ (asks_change t && is_success o.status) → left ≡ (if done then d.first else kept) → record { device = new.state; kept = left } ≡ state_in s (perform d s t)
performed {X = X} d was new s t o done kept left set parts view state some outcome is leaves =
    let now : State X = record { device = was.state; kept = kept } in
    let device = ap (λ (n : Framework). n.state) state ∙ ap (λ (ps : List Part). state_after ps was.state t) parts in
    let came = outcome ∙ ap (λ (x : DescriptorSet). outcome_of x was.parts was.state t) set ∙ ap (λ (ps : List Part). outcome_of d.set ps was.state t) parts in
    let left_is = leaves ∙ ap (λ (b : Bool). if b then d.first else kept) (is ∙ ap (λ (x : Outcome). asks_change t && is_success x.status) came) in
    subst (λ (x : State X). record { device = new.state; kept = left } ≡ state_in x (perform d x t)) view
    ((λ i. record { device = device i; kept = left_is i }) ∙ performed-by d now t some)
