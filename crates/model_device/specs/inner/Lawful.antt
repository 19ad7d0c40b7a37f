-- A device that answers endpoint 0 by its descriptors is a gadget (IsGadget), if its function is one (IsFunction).
use Rattle.std.proofs.Common.{◌≡◌, ◌≢◌, ℕ, ◌≤◌, Bool, true, false, cond, List, [], ◌∷◌, length, take, min, Option, Some, None, refl, sym, ap, ◌∙◌, arith}
use Rattle.std.specs.Prelude.{◌&&◌, is_some, unwrap_or, IsSome, IfSome}
use Rattle.std.specs.Option.{option_map_or}
use Rattle.std.proofs.lemmas.Bool.{and_right, false≢true, cond_both}
use Rattle.std.proofs.lemmas.List.{length-take}
use Rattle.usb_base.specs.Status.{is_success}
use Rattle.usb_base.specs.Endpoint.{is_in_endpoint}
use Rattle.usb_base.specs.declared.setup.Setup.{Setup}
use Rattle.usb_base.specs.declared.status.UsbStatus.{UsbStatus}
use Rattle.usb_base.specs.declared.status.UsbStatus.TheVariants.{Success, Cancelled, Inval, IoError, Stall, Timeout, Babble, Other}
use Rattle.usb_base.specs.declared.transfer.Transfer.{Transfer}
use Rattle.usb_base.specs.declared.transfer.Outcome.{Outcome}
use Rattle.control_route.specs.Routes.{route_of}
use Rattle.control_route.specs.Changes.{is_change}
use Rattle.redir_wire.specs.declared.packet.TheConstants.{MAX_INTERFACES}
use Rattle.chapter9.specs.declared.part.Part.{Part}
use Rattle.chapter9.specs.declared.state.DevState.{DevState}
use Rattle.chapter9.specs.declared.table.InterfaceClass.{InterfaceClass}
use Rattle.chapter9.specs.declared.standard_requests.DescriptorSet.{DescriptorSet}
use Rattle.chapter9.specs.declared.requests.Request.{Request}
use Rattle.chapter9.specs.declared.requests.Request.TheVariants.{Read, Write}
use Rattle.chapter9.specs.Requests.{request_of}
use Rattle.chapter9.specs.State.{is_configured}
use Rattle.chapter9.specs.Table.{class_of, table_of}
use Rattle.chapter9.specs.Standard.{changed_by, given_by, outcome_by, read_outcome, stall, state_by, success, write_outcome}
use Rattle.model_device.specs.declared.gadget.TheConstants.{MAX_STREAM_PACKET}
use Rattle.usb_base.specs.Setup.{is_in_setup}
use Rattle.model_device.specs.Transfer.{IsTransfer, IsOutcome}
use Rattle.model_device.specs.Gadget.{IsGadget, IsNamed, SameFacts, is_get_configuration, is_port_reset}
use Rattle.model_device.specs.Function.{IsFunction}
use Rattle.model_device.specs.Device.{Device, State, device_parts, interfaces_of, is_running, meaning_of, offer, one_interface, perform, with_kept}
use Rattle.model_device.specs.inner.Asked.{SameSetting, get_configuration_asked, port_reset_asked, read_from_device, setting_kept}
use Rattle.model_device.specs.inner.Tables.{table_fine}

-- ---- what stays where the setting does

same_interfaces : (parts : List Part) (old new : DevState) → SameSetting old new → interfaces_of parts new ≡ interfaces_of parts old
same_interfaces parts old new h = rw (h.configuration, h.alt) refl

same_table : (parts : List Part) (old new : DevState) → SameSetting old new → table_of parts new ≡ table_of parts old
same_table parts old new h = rw (h.configuration, h.alt) refl

same_facts : {X : Type 0} (d : Device X) (old new : State X) → SameSetting old.device new.device → SameFacts (meaning_of d) old new
same_facts d old new h = record { configuration = h.configuration; interfaces = same_interfaces (device_parts d) old.device new.device h; table = same_table (device_parts d) old.device new.device h }

-- what an endpoint of its own leaves
with_kept_facts : {X A : Type 0} (d : Device X) (s : State X) (r : Option (X × A)) → IfSome (with_kept s.device r) (λ done. SameFacts (meaning_of d) s done.0)
with_kept_facts d s None = tt
with_kept_facts d s (Some r) = same_facts d s (record { device = s.device; kept = r.0 }) (record { configuration = refl; alt = refl })

-- ---- outcomes of endpoint 0

pub stall_outcome : (t : Transfer) → IsOutcome t stall
stall_outcome t = record { done = omega arith; from_device = λ e. refl; to_device = λ e. refl }

no_data_outcome : (t : Transfer) → IsOutcome t (success [])
no_data_outcome t = record { done = omega arith; from_device = λ e. refl; to_device = λ e. refl }

read_is_outcome : (t : Transfer) (len : ℕ) (given : Option (List ℕ)) → (is_in_endpoint t.ep ≡ false → ⊥) → IsOutcome t (read_outcome len t.wanted given)
read_is_outcome t len None h = stall_outcome t
read_is_outcome t len (Some bytes) h = record { done = omega (arith, length-take (min t.wanted len) bytes); from_device = λ e. refl; to_device = λ e. absurd (h e) }

write_is_outcome : (t : Transfer) (s : Option DevState) → IsOutcome t (write_outcome s)
write_is_outcome t None = stall_outcome t
write_is_outcome t (Some s) = no_data_outcome t

request_outcome : (set : DescriptorSet) (parts : List Part) (s : DevState) (r : Setup) (t : Transfer) (x : Option Request) → request_of r ≡ x → is_in_setup r ≡ is_in_endpoint t.ep → IsOutcome t (outcome_by set parts s r t.wanted x)
request_outcome set parts s r t None e h = stall_outcome t
request_outcome set parts s r t (Some (Read read)) e h = read_is_outcome t r.length (given_by set parts s r read) (λ f. false≢true (sym f ∙ sym h ∙ read_from_device r read e))
request_outcome set parts s r t (Some (Write write)) e h = write_is_outcome t (changed_by parts s r write)

-- ---- a request that isn't carried out

refused_write : (s : DevState) (new : Option DevState) → (write_outcome new).status ≢ Success → unwrap_or new s ≡ s
refused_write s None h = refl
refused_write s (Some new) h = absurd (h refl)

refused_state : (set : DescriptorSet) (parts : List Part) (s : DevState) (r : Setup) (wanted : ℕ) (x : Option Request) → (outcome_by set parts s r wanted x).status ≢ Success → state_by parts s r x ≡ s
refused_state set parts s r wanted None h = refl
refused_state set parts s r wanted (Some (Read read)) h = refl
refused_state set parts s r wanted (Some (Write write)) h = refused_write s (changed_by parts s r write) h

keeps_unless : {X : Type 0} (first kept : X) (b : Bool) → b ≡ false → cond b first kept ≡ kept
keeps_unless first kept b e = ap (λ b. cond b first kept) e

-- ---- a transfer with this setup

abbrev control_with : {X : Type 0} → Device X → State X → Setup → ℕ → Option Request → State X × Outcome
control_with d s r wanted x = (record { device = state_by (device_parts d) s.device r x; kept = cond (is_change (route_of r) && is_success (outcome_by d.set (device_parts d) s.device r wanted x).status) d.first s.kept }, outcome_by d.set (device_parts d) s.device r wanted x)

performed : {X : Type 0} (d : Device X) (s : State X) (t : Transfer) (r : Setup) → t.setup ≡ Some r → perform d s t ≡ Some (control_with d s r t.wanted (request_of r))
performed d s t r e = rw e refl

not_ready : {X : Type 0} (d : Device X) (s : State X) (t : Transfer) → t.setup ≡ None → perform d s t ≡ cond (is_running (device_parts d) s.device t.ep) (with_kept s.device (d.transfer s.kept t)) (Some (s, stall))
not_ready d s t e = rw e refl

-- ---- each law

ready_by : {X : Type 0} (d : Device X) (s : State X) (t : Transfer) → is_some t.setup ≡ true → IsSome (perform d s t)
ready_by d s t e = rw e refl

resets_by : {X : Type 0} (d : Device X) (s : State X) (t : Transfer) (r : Setup) → t.setup ≡ Some r → is_port_reset r ≡ true → IfSome (perform d s t) (λ done. done.1.status ≡ Success)
resets_by d s t r e q = let asks = port_reset_asked r q in rw (performed d s t r e, asks.0, asks.1) refl

tells_by : {X : Type 0} (d : Device X) (s : State X) (t : Transfer) (r : Setup) → t.setup ≡ Some r → is_get_configuration r ≡ true → perform d s t ≡ Some (s, success (take (min t.wanted r.length) (s.device.configuration ∷ [])))
tells_by d s t r e q = let asks = get_configuration_asked r q in performed d s t r e ∙ rw (asks.0, asks.1) refl

keeps_by : {X : Type 0} (d : Device X) (s : State X) (t : Transfer) (o : Option Setup) → t.setup ≡ o → option_map_or (λ r. is_change (route_of r)) o false ≡ false → IfSome (perform d s t) (λ done. SameFacts (meaning_of d) s done.0)
keeps_by d s t None e c =
    rw (not_ready d s t e)
    (cond_both (is_running (device_parts d) s.device t.ep) (with_kept s.device (d.transfer s.kept t)) (Some (s, stall)) (λ o. IfSome o (λ done. SameFacts (meaning_of d) s done.0))
    (λ r. with_kept_facts d s (d.transfer s.kept t)) (λ r. same_facts d s s (record { configuration = refl; alt = refl })))
keeps_by d s t (Some r) e c = rw (performed d s t r e) (same_facts d s (control_with d s r t.wanted (request_of r)).0 (setting_kept (device_parts d) s.device r c))

offer_keeps_by : {X : Type 0} (d : Device X) (s : State X) (ep : ℕ) → IfSome (offer d s ep) (λ sent. SameFacts (meaning_of d) s sent.0)
offer_keeps_by d s ep =
    cond_both (is_running (device_parts d) s.device ep) (with_kept s.device (d.packet s.kept ep)) None (λ o. IfSome o (λ sent. SameFacts (meaning_of d) s sent.0))
    (λ r. with_kept_facts d s (d.packet s.kept ep)) (λ r. tt)

not_success : (status : UsbStatus) → status ≢ Success → is_success status ≡ false
not_success Success h = absurd (h refl)
not_success Cancelled h = refl
not_success Inval h = refl
not_success IoError h = refl
not_success Stall h = refl
not_success Timeout h = refl
not_success Babble h = refl
not_success (Other byte) h = refl

refuses_by : {X : Type 0} (d : Device X) (s : State X) (t : Transfer) (o : Option Setup) → t.setup ≡ o → option_map_or (λ r. is_change (route_of r)) o false ≡ true → IfSome (perform d s t) (λ done. done.1.status ≢ Success → done.0 ≡ s)
refuses_by d s t None e c = absurd (false≢true c)
refuses_by d s t (Some r) e c =
    rw (performed d s t r e) (λ h.
    let device = refused_state d.set (device_parts d) s.device r t.wanted (request_of r) h in
    let kept = keeps_unless d.first s.kept (is_change (route_of r) && is_success (outcome_by d.set (device_parts d) s.device r t.wanted (request_of r)).status) (and_right (is_change (route_of r)) (is_success (outcome_by d.set (device_parts d) s.device r t.wanted (request_of r)).status) (not_success (outcome_by d.set (device_parts d) s.device r t.wanted (request_of r)).status h)) in
    λ i. record { device = device i; kept = kept i })

one_count : (c : Option InterfaceClass) → (one_interface c).count ≤ MAX_INTERFACES
one_count None = omega arith
one_count (Some c) = omega arith

few_interfaces_by : (parts : List Part) (s : DevState) → (interfaces_of parts s).count ≤ MAX_INTERFACES
few_interfaces_by parts s = cond_both (is_configured s) (one_interface (class_of s.alt parts)) _ (λ i. i.count ≤ MAX_INTERFACES) (λ e. one_count (class_of s.alt parts)) (λ e. omega arith)

with_kept_second : {X A : Type 0} (s : DevState) (r : Option (X × A)) (P : A → Type 0) → IfSome r (λ done. P done.1) → IfSome (with_kept s r) (λ done. P done.1)
with_kept_second s None P h = tt
with_kept_second s (Some r) P h = h

outcomes_by : {X : Type 0} (d : Device X) (s : State X) (t : Transfer) (o : Option Setup) → IsFunction d → IsTransfer t → t.setup ≡ o → IfSome o (λ r. is_in_setup r ≡ is_in_endpoint t.ep) → IfSome (perform d s t) (λ done. IsOutcome t done.1)
outcomes_by d s t None own it e h =
    rw (not_ready d s t e)
    (cond_both (is_running (device_parts d) s.device t.ep) (with_kept s.device (d.transfer s.kept t)) (Some (s, stall)) (λ o. IfSome o (λ done. IsOutcome t done.1))
    (λ r. with_kept_second s.device (d.transfer s.kept t) (IsOutcome t) (own.outcomes s.kept t it e)) (λ r. stall_outcome t))
outcomes_by d s t (Some r) own it e h = rw (performed d s t r e) (request_outcome d.set (device_parts d) s.device r t (request_of r) refl h)

packets_by : {X : Type 0} (d : Device X) (s : State X) (ep : ℕ) → IsFunction d → IfSome (offer d s ep) (λ sent. length sent.1.body ≤ MAX_STREAM_PACKET)
packets_by d s ep own =
    cond_both (is_running (device_parts d) s.device ep) (with_kept s.device (d.packet s.kept ep)) None (λ o. IfSome o (λ sent. length sent.1.body ≤ MAX_STREAM_PACKET))
    (λ r. with_kept_second s.device (d.packet s.kept ep) (λ p. length p.body ≤ MAX_STREAM_PACKET) (own.packets s.kept ep)) (λ r. tt)

-- ---- statuses

read_named : (len wanted : ℕ) (given : Option (List ℕ)) → IsNamed (read_outcome len wanted given).status
read_named len wanted None = refl
read_named len wanted (Some bytes) = refl

write_named : (s : Option DevState) → IsNamed (write_outcome s).status
write_named None = refl
write_named (Some s) = refl

request_named : (set : DescriptorSet) (parts : List Part) (s : DevState) (r : Setup) (wanted : ℕ) (x : Option Request) → IsNamed (outcome_by set parts s r wanted x).status
request_named set parts s r wanted None = refl
request_named set parts s r wanted (Some (Read read)) = read_named r.length wanted (given_by set parts s r read)
request_named set parts s r wanted (Some (Write write)) = write_named (changed_by parts s r write)

named_by : {X : Type 0} (d : Device X) (s : State X) (t : Transfer) (o : Option Setup) → IsFunction d → t.setup ≡ o → IfSome (perform d s t) (λ done. IsNamed done.1.status)
named_by d s t None own e =
    rw (not_ready d s t e)
    (cond_both (is_running (device_parts d) s.device t.ep) (with_kept s.device (d.transfer s.kept t)) (Some (s, stall)) (λ o. IfSome o (λ done. IsNamed done.1.status))
    (λ r. with_kept_second s.device (d.transfer s.kept t) (λ o. IsNamed o.status) (own.named s.kept t)) (λ r. refl))
named_by d s t (Some r) own e = rw (performed d s t r e) (request_named d.set (device_parts d) s.device r t.wanted (request_of r))

offer_named_by : {X : Type 0} (d : Device X) (s : State X) (ep : ℕ) → IsFunction d → IfSome (offer d s ep) (λ sent. IsNamed sent.1.status)
offer_named_by d s ep own =
    cond_both (is_running (device_parts d) s.device ep) (with_kept s.device (d.packet s.kept ep)) None (λ o. IfSome o (λ sent. IsNamed sent.1.status))
    (λ r. with_kept_second s.device (d.packet s.kept ep) (λ p. IsNamed p.status) (own.packets_named s.kept ep)) (λ r. tt)

pub lawful : {X : Type 0} (d : Device X) → IsFunction d → IsGadget (meaning_of d)
lawful d own = record {
  ready = λ s t it c. ready_by d s t (it.has_setup ∙ c);
  resets = λ s t r it e q. resets_by d s t r e q;
  tells = λ s t r it e q. tells_by d s t r e q;
  keeps = λ s t it c. keeps_by d s t t.setup refl c;
  offer_keeps = λ s ep. offer_keeps_by d s ep;
  refuses = λ s t it c. refuses_by d s t t.setup refl c;
  no_iso_out = λ s i lt. table_fine (device_parts d) s.device own.endpoints i lt;
  few_interfaces = λ s. few_interfaces_by (device_parts d) s.device;
  outcomes = λ s t it. outcomes_by d s t t.setup own it refl it.direction;
  packets = λ s ep. packets_by d s ep own;
  named = λ s t it. named_by d s t t.setup own refl;
  offer_named = λ s ep. offer_named_by d s ep own;
}
