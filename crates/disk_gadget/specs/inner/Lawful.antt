-- The disk is a device.
use Rattle.std.proofs.Common.{◌≡◌, ◌≢◌, ℕ, Bool, true, false, cond, List, [], ◌∷◌, take, min, Option, Some, None, refl, sym, ap, ◌∙◌, subst, arith}
use Rattle.std.specs.Prelude.{◌==◌, ◌&&◌, is_some, IsSome, IfSome}
use Rattle.std.specs.Option.{option_map_or}
use Rattle.std.proofs.lemmas.Bool.{and_parts, eqb-true, false≢true, cond_both}
use Rattle.std.proofs.lemmas.List.{length-take}
use Rattle.usb_base.specs.Endpoint.{is_in_endpoint}
use Rattle.usb_base.specs.Number.{le_at}
use Rattle.usb_base.specs.declared.setup.Setup.{Setup}
use Rattle.usb_base.specs.declared.status.UsbStatus.TheVariants.{Success}
use Rattle.usb_base.specs.declared.transfer.Transfer.{Transfer}
use Rattle.usb_base.specs.declared.transfer.Outcome.{Outcome}
use Rattle.control_route.specs.Routes.{route_of}
use Rattle.control_route.specs.Changes.{is_change}
use Rattle.chapter9.specs.Requests.{is_request}
use Rattle.chapter9.specs.Standard.{stall, success}
use Rattle.usb_base.specs.Setup.{is_in_setup}
use Rattle.model_device.specs.Transfer.{IsTransfer, IsOutcome, asks_change}
use Rattle.model_device.specs.Gadget.{IsGadget, IsNamed, SameFacts, is_get_configuration, is_port_reset}
use Rattle.model_device.specs.Device.{State, device_parts, is_running, meaning_of, perform}
use Rattle.model_device.specs.inner.Lawful.{lawful, stall_outcome}
use Rattle.disk_gadget.specs.declared.class_request.ClassRequest.{ClassRequest}
use Rattle.disk_gadget.specs.declared.class_request.ClassRequest.TheVariants.{Reset, MaxLun}
use Rattle.disk_gadget.specs.declared.stage.Course.{Course}
use Rattle.disk_gadget.specs.Accesses.{count_of}
use Rattle.disk_gadget.specs.Descriptors.{described}
use Rattle.disk_gadget.specs.DiskStep.{DiskState, both_halted, bulk_turn, class_request, disk, disk_step, no_access, on_blocks, setup_done, step_by, turned}
use Rattle.disk_gadget.specs.Turns.{Turn}
use Rattle.disk_gadget.specs.inner.Outcomes.{turn_is_named, turn_is_outcome}

-- ---- what it is on endpoint 0 is a device

base : IsGadget (meaning_of described)
unfolding described le_at
base = lawful described (record { configuration = refl; outcomes = λ course t it e. stall_outcome t; packets = λ course ep. tt; named = λ course t. refl; packets_named = λ course ep. tt; endpoints = refl })

-- ---- the requests of the class are none of the others

codes_of : (r : Setup) (kind request : ℕ) → is_request r kind request ≡ true → (r.kind ≡ kind) × (r.request ≡ request)
codes_of r kind request h = let p = and_parts (r.kind == kind) (r.request == request) h in (eqb-true r.kind kind p.0, eqb-true r.request request p.1)

port_reset_other : (r : Setup) → is_port_reset r ≡ true → class_request r ≡ None
port_reset_other r h =
    let outer = and_parts (is_request r 0x23 3 && r.value == 4) (r.length == 0) h in
    let inner = and_parts (is_request r 0x23 3) (r.value == 4) outer.0 in
    rw (codes_of r 0x23 3 inner.0).0 refl

get_configuration_other : (r : Setup) → is_get_configuration r ≡ true → class_request r ≡ None
get_configuration_other r h = rw (codes_of r 0x80 8 h).0 refl

unchanging : (r : Setup) (a b : Bool) (x : ClassRequest) → (is_request r 0x21 0xFF && r.length == 0) ≡ a → is_request r 0xA1 0xFE ≡ b → cond a (Some Reset) (cond b (Some MaxLun) None) ≡ Some x → is_change (route_of r) ≡ false
unfolding route_of
unchanging r true b x ea eb h =
    let codes = codes_of r 0x21 0xFF (and_parts (is_request r 0x21 0xFF) (r.length == 0) ea).0 in
    rw codes.0 refl
unchanging r false true x ea eb h = let codes = codes_of r 0xA1 0xFE eb in rw codes.0 refl
unchanging r false false x ea eb h = cc

class_keeps : (r : Setup) (x : ClassRequest) → class_request r ≡ Some x → is_change (route_of r) ≡ false
class_keeps r x h = unchanging r (is_request r 0x21 0xFF && r.length == 0) (is_request r 0xA1 0xFE) x refl refl h

lun_by : (r : Setup) (a b : Bool) → is_request r 0xA1 0xFE ≡ b → cond a (Some Reset) (cond b (Some MaxLun) None) ≡ Some MaxLun → is_in_setup r ≡ true
lun_by r true b eb h = cc
lun_by r false true eb h = let codes = codes_of r 0xA1 0xFE eb in rw codes.0 refl
lun_by r false false eb h = cc

-- ---- a transfer with another setup

abbrev lift : DiskState → Option (State Course × Outcome) → Option (DiskState × Outcome)
lift d None = None
lift d (Some done) = Some (record { state = done.0; blocks = d.blocks }, done.1)

step_at : (d : DiskState) (t : Transfer) (r : Setup) → t.setup ≡ Some r → class_request r ≡ None → disk_step d t ≡ lift d (perform described d.state t)
step_at d t r e c = rw (e, c) refl

lift_if : (d : DiskState) (o : Option (State Course × Outcome)) (P : State Course × Outcome → Type 0) (Q : DiskState × Outcome → Type 0) → ((done : State Course × Outcome) → P done → Q (record { state = done.0; blocks = d.blocks }, done.1)) → IfSome o P → IfSome (lift d o) Q
lift_if d None P Q f h = tt
lift_if d (Some done) P Q f h = f done h

other : (d : DiskState) (t : Transfer) (r : Setup) (P : State Course × Outcome → Type 0) (Q : DiskState × Outcome → Type 0) → t.setup ≡ Some r → class_request r ≡ None → ((done : State Course × Outcome) → P done → Q (record { state = done.0; blocks = d.blocks }, done.1)) → IfSome (perform described d.state t) P → IfSome (disk_step d t) Q
other d t r P Q e c f h = subst (λ o. IfSome o Q) (sym (step_at d t r e c)) (lift_if d (perform described d.state t) P Q f h)

-- a transfer with a setup of the class
of_class : (d : DiskState) (t : Transfer) (r : Setup) (x : ClassRequest) (Q : DiskState × Outcome → Type 0) → t.setup ≡ Some r → class_request r ≡ Some x → IfSome (on_blocks d.blocks (Some (no_access (setup_done d.state t r (Some x))))) Q → IfSome (disk_step d t) Q
of_class d t r x Q e c h =
    subst (λ o. IfSome (on_blocks d.blocks (step_by (count_of d.blocks) d.state t o)) Q) (sym e)
    (subst (λ o. IfSome (on_blocks d.blocks (Some (no_access (setup_done d.state t r o)))) Q) (sym c) h)

-- a transfer without a setup
of_bulk : (d : DiskState) (t : Transfer) (Q : DiskState × Outcome → Type 0) → t.setup ≡ None → IfSome (on_blocks d.blocks (turned d.state.device (bulk_turn (count_of d.blocks) d.state.kept t))) Q → Q (d, stall) → IfSome (disk_step d t) Q
of_bulk d t Q e running halted =
    subst (λ o. IfSome (on_blocks d.blocks (step_by (count_of d.blocks) d.state t o)) Q) (sym e)
    (cond_both (is_running (device_parts described) d.state.device t.ep) (turned d.state.device (bulk_turn (count_of d.blocks) d.state.kept t)) (Some (no_access (d.state, stall))) (λ o. IfSome (on_blocks d.blocks o) Q) (λ r. running) (λ r. halted))

-- ---- each law

ready_by : (d : DiskState) (t : Transfer) (o : Option Setup) → is_some o ≡ true → IsSome (on_blocks d.blocks (step_by (count_of d.blocks) d.state t o))
ready_by d t None e = absurd (false≢true e)
ready_by d t (Some r) e = refl

halts_keep : (d : DiskState) (halts : Bool) (course : Course) (blocks : List ℕ) → SameFacts disk d (record { state = record { device = cond halts (both_halted d.state.device) d.state.device; kept = course }; blocks = blocks })
halts_keep d true course blocks = record { configuration = refl; interfaces = refl; table = refl }
halts_keep d false course blocks = record { configuration = refl; interfaces = refl; table = refl }

turn_keeps : (d : DiskState) (o : Option Turn) → IfSome (on_blocks d.blocks (turned d.state.device o)) (λ done. SameFacts disk d done.0)
turn_keeps d None = tt
turn_keeps d (Some turn) = halts_keep d turn.halts turn.course _

same : (d : DiskState) → SameFacts disk d d
same d = record { configuration = refl; interfaces = refl; table = refl }

class_same : (d : DiskState) (t : Transfer) (r : Setup) (x : ClassRequest) → IfSome (on_blocks d.blocks (Some (no_access (setup_done d.state t r (Some x))))) (λ done. SameFacts disk d done.0)
class_same d t r Reset = record { configuration = refl; interfaces = refl; table = refl }
class_same d t r MaxLun = same d

setup_keeps : (d : DiskState) (t : Transfer) (r : Setup) (x : Option ClassRequest) → IsTransfer t → t.setup ≡ Some r → class_request r ≡ x → asks_change t ≡ false → IfSome (disk_step d t) (λ done. SameFacts disk d done.0)
setup_keeps d t r None it e c h =
    other d t r (λ done. SameFacts (meaning_of described) d.state done.0) (λ done. SameFacts disk d done.0) e c
    (λ done k. record { configuration = k.configuration; interfaces = k.interfaces; table = k.table }) (base.keeps d.state t it h)
setup_keeps d t r (Some x) it e c h = of_class d t r x (λ done. SameFacts disk d done.0) e c (class_same d t r x)

keeps_by : (d : DiskState) (t : Transfer) (o : Option Setup) → IsTransfer t → t.setup ≡ o → asks_change t ≡ false → IfSome (disk_step d t) (λ done. SameFacts disk d done.0)
keeps_by d t None it e h = of_bulk d t (λ done. SameFacts disk d done.0) e (turn_keeps d (bulk_turn (count_of d.blocks) d.state.kept t)) (same d)
keeps_by d t (Some r) it e h = setup_keeps d t r (class_request r) it e refl h

refuses_at : (d : DiskState) (t : Transfer) (r : Setup) (x : Option ClassRequest) → IsTransfer t → t.setup ≡ Some r → class_request r ≡ x → asks_change t ≡ true → is_change (route_of r) ≡ true → IfSome (disk_step d t) (λ done. done.1.status ≢ Success → done.0 ≡ d)
refuses_at d t r None it e c h q =
    other d t r (λ done. done.1.status ≢ Success → done.0 ≡ d.state) (λ done. done.1.status ≢ Success → done.0 ≡ d) e c
    (λ done k f i. record { state = k f i; blocks = d.blocks }) (base.refuses d.state t it h)
refuses_at d t r (Some x) it e c h q = absurd (false≢true (sym (class_keeps r x c) ∙ q))

refuses_by : (d : DiskState) (t : Transfer) (o : Option Setup) → IsTransfer t → t.setup ≡ o → asks_change t ≡ true → option_map_or (λ r. is_change (route_of r)) o false ≡ true → IfSome (disk_step d t) (λ done. done.1.status ≢ Success → done.0 ≡ d)
refuses_by d t None it e h q = absurd (false≢true q)
refuses_by d t (Some r) it e h q = refuses_at d t r (class_request r) it e refl h q

-- ---- outcomes

lun_outcome : (t : Transfer) (len : ℕ) → is_in_endpoint t.ep ≡ true → IsOutcome t (success (take (min t.wanted len) (0 ∷ [])))
lun_outcome t len e = record { done = omega (arith, length-take {A = ℕ} (min t.wanted len) (0 ∷ [])); from_device = λ f. refl; to_device = λ f. absurd (false≢true (sym f ∙ e)) }

class_outcome : (d : DiskState) (t : Transfer) (r : Setup) (x : ClassRequest) → IfSome t.setup (λ r. is_in_setup r ≡ is_in_endpoint t.ep) → t.setup ≡ Some r → class_request r ≡ Some x → IfSome (on_blocks d.blocks (Some (no_access (setup_done d.state t r (Some x))))) (λ done. IsOutcome t done.1)
class_outcome d t r Reset dir e c = record { done = omega arith; from_device = λ f. refl; to_device = λ f. refl }
class_outcome d t r MaxLun dir e c =
    let same_way : is_in_setup r ≡ is_in_endpoint t.ep = subst (λ o. IfSome o (λ r. is_in_setup r ≡ is_in_endpoint t.ep)) e dir in
    lun_outcome t r.length (sym same_way ∙ lun_by r (is_request r 0x21 0xFF && r.length == 0) (is_request r 0xA1 0xFE) refl c)

setup_outcome : (d : DiskState) (t : Transfer) (r : Setup) (x : Option ClassRequest) → IsTransfer t → t.setup ≡ Some r → class_request r ≡ x → IfSome (disk_step d t) (λ done. IsOutcome t done.1)
setup_outcome d t r None it e c = other d t r (λ done. IsOutcome t done.1) (λ done. IsOutcome t done.1) e c (λ done k. k) (base.outcomes d.state t it)
setup_outcome d t r (Some x) it e c = of_class d t r x (λ done. IsOutcome t done.1) e c (class_outcome d t r x it.direction e c)

outcomes_by : (d : DiskState) (t : Transfer) (o : Option Setup) → IsTransfer t → t.setup ≡ o → IfSome (disk_step d t) (λ done. IsOutcome t done.1)
outcomes_by d t None it e = of_bulk d t (λ done. IsOutcome t done.1) e (turn_is_outcome d t it) (stall_outcome t)
outcomes_by d t (Some r) it e = setup_outcome d t r (class_request r) it e refl

-- ---- statuses

class_named : (d : DiskState) (t : Transfer) (r : Setup) (x : ClassRequest) → IfSome (on_blocks d.blocks (Some (no_access (setup_done d.state t r (Some x))))) (λ done. IsNamed done.1.status)
class_named d t r Reset = refl
class_named d t r MaxLun = refl

setup_named : (d : DiskState) (t : Transfer) (r : Setup) (x : Option ClassRequest) → IsTransfer t → t.setup ≡ Some r → class_request r ≡ x → IfSome (disk_step d t) (λ done. IsNamed done.1.status)
setup_named d t r None it e c = other d t r (λ done. IsNamed done.1.status) (λ done. IsNamed done.1.status) e c (λ done k. k) (base.named d.state t it)
setup_named d t r (Some x) it e c = of_class d t r x (λ done. IsNamed done.1.status) e c (class_named d t r x)

named_by : (d : DiskState) (t : Transfer) (o : Option Setup) → IsTransfer t → t.setup ≡ o → IfSome (disk_step d t) (λ done. IsNamed done.1.status)
named_by d t None it e = of_bulk d t (λ done. IsNamed done.1.status) e (turn_is_named d t) refl
named_by d t (Some r) it e = setup_named d t r (class_request r) it e refl

pub disk_lawful : IsGadget disk
disk_lawful = record {
  ready = λ d t it c. ready_by d t t.setup (it.has_setup ∙ c);
  resets = λ d t r it e q. other d t r (λ done. done.1.status ≡ Success) (λ done. done.1.status ≡ Success) e (port_reset_other r q) (λ done k. k) (base.resets d.state t r it e q);
  tells = λ d t r it e q. step_at d t r e (get_configuration_other r q) ∙ ap (lift d) (base.tells d.state t r it e q);
  keeps = λ d t it c. keeps_by d t t.setup it refl c;
  offer_keeps = λ d ep. tt;
  refuses = λ d t it c. refuses_by d t t.setup it refl c c;
  no_iso_out = λ d i lt. base.no_iso_out d.state i lt;
  few_interfaces = λ d. base.few_interfaces d.state;
  outcomes = λ d t it. outcomes_by d t t.setup it refl;
  packets = λ d ep. tt;
  named = λ d t it. named_by d t t.setup it refl;
  offer_named = λ d ep. tt;
}
