-- What a setup is, told by the request that it asks; and which requests are changes.
use Rattle.std.proofs.Common.{◌≡◌, ℕ, ◌<◌, ◌≤◌, Bool, true, false, cond, List, Option, Some, None, refl, sym, ap, ◌∙◌, subst, arith}
use Rattle.std.specs.Prelude.{◌==◌, ◌&&◌, nat_lt, not, unwrap_or}
use Rattle.std.proofs.lemmas.Bool.{and_parts, eqb-true, ltb-true, lt-ltb, le-ltb, false≢true}
use Rattle.usb_base.specs.declared.setup.Setup.{Setup}
use Rattle.control_route.specs.Routes.{route_of}
use Rattle.control_route.specs.Changes.{is_change}
use Rattle.chapter9.specs.declared.part.Part.{Part}
use Rattle.chapter9.specs.declared.state.DevState.{DevState}
use Rattle.chapter9.specs.declared.requests.ControlRead.{ControlRead}
use Rattle.chapter9.specs.declared.requests.ControlRead.TheVariants.{DeviceStatus, InterfaceStatus, EndpointStatus, GetDescriptor, GetConfiguration, GetInterface}
use Rattle.chapter9.specs.declared.requests.ControlWrite.{ControlWrite}
use Rattle.chapter9.specs.declared.requests.ControlWrite.TheVariants.{ClearHalt, SetHalt, SetAddress, SetConfiguration, SetInterface, ResetPort}
use Rattle.chapter9.specs.declared.requests.Request.{Request}
use Rattle.chapter9.specs.declared.requests.Request.TheVariants.{Read, Write}
use Rattle.chapter9.specs.Requests.{is_request, request_of}
use Rattle.chapter9.specs.State.{is_configured, unconfigured}
use Rattle.chapter9.specs.Standard.{changed_by, halted, is_endpoint, is_setting, state_by}
use Rattle.usb_base.specs.Setup.{is_in_setup}
use Rattle.model_device.specs.Gadget.{is_get_configuration, is_port_reset}

-- ---- from a request back to its setup

-- the test of each request
abbrev pub setup_test : Setup → Request → Bool
setup_test r (Read DeviceStatus) = is_request r 0x80 0
setup_test r (Read InterfaceStatus) = is_request r 0x81 0
setup_test r (Read EndpointStatus) = is_request r 0x82 0
setup_test r (Read GetDescriptor) = is_request r 0x80 6
setup_test r (Read GetConfiguration) = is_request r 0x80 8
setup_test r (Read GetInterface) = is_request r 0x81 10
setup_test r (Write ClearHalt) = is_request r 0x02 1 && r.value == 0
setup_test r (Write SetHalt) = is_request r 0x02 3 && r.value == 0
setup_test r (Write SetAddress) = is_request r 0x00 5
setup_test r (Write SetConfiguration) = is_request r 0x00 9
setup_test r (Write SetInterface) = is_request r 0x01 11
setup_test r (Write ResetPort) = is_request r 0x23 3 && r.value == 4

same_some : {A : Type 0} (x y : A) → Some x ≡ Some y → x ≡ y
same_some x y h = cc

-- of tests in turn the first that holds gives its request
passed : (r : Setup) (first : Request) (rest : Option Request) (x : Request) (b : Bool) → setup_test r first ≡ b → (rest ≡ Some x → setup_test r x ≡ true) → cond b (Some first) rest ≡ Some x → setup_test r x ≡ true
passed r first rest x true e later h = subst (λ x. setup_test r x ≡ true) (same_some first x h) e
passed r first rest x false e later h = later h

pub asked : (r : Setup) (x : Request) → request_of r ≡ Some x → setup_test r x ≡ true
asked r x =
    passed r (Read DeviceStatus) _ x _ refl (passed r (Read InterfaceStatus) _ x _ refl
    (passed r (Read EndpointStatus) _ x _ refl (passed r (Read GetDescriptor) _ x _ refl
    (passed r (Read GetConfiguration) _ x _ refl (passed r (Read GetInterface) _ x _ refl
    (passed r (Write ClearHalt) _ x _ refl (passed r (Write SetHalt) _ x _ refl
    (passed r (Write SetAddress) _ x _ refl (passed r (Write SetConfiguration) _ x _ refl
    (passed r (Write SetInterface) _ x _ refl (passed r (Write ResetPort) None x _ refl (λ h. cc))))))))))))

kind_of : (r : Setup) (kind request : ℕ) → is_request r kind request ≡ true → (r.kind ≡ kind) × (r.request ≡ request)
kind_of r kind request h = let p = and_parts (r.kind == kind) (r.request == request) h in (eqb-true r.kind kind p.0, eqb-true r.request request p.1)

from_device : (r : Setup) (kind request : ℕ) → 128 ≤ kind → is_request r kind request ≡ true → is_in_setup r ≡ true
from_device r kind request k h = let is : 128 ≤ r.kind = omega (arith, (kind_of r kind request h).0) in ap not (le-ltb r.kind 128 is)

-- what is read comes from the device
pub read_from_device : (r : Setup) (read : ControlRead) → request_of r ≡ Some (Read read) → is_in_setup r ≡ true
read_from_device r DeviceStatus h = from_device r 0x80 0 (omega arith) (asked r (Read DeviceStatus) h)
read_from_device r InterfaceStatus h = from_device r 0x81 0 (omega arith) (asked r (Read InterfaceStatus) h)
read_from_device r EndpointStatus h = from_device r 0x82 0 (omega arith) (asked r (Read EndpointStatus) h)
read_from_device r GetDescriptor h = from_device r 0x80 6 (omega arith) (asked r (Read GetDescriptor) h)
read_from_device r GetConfiguration h = from_device r 0x80 8 (omega arith) (asked r (Read GetConfiguration) h)
read_from_device r GetInterface h = from_device r 0x81 10 (omega arith) (asked r (Read GetInterface) h)

-- ---- two setups that are known

pub port_reset_asked : (r : Setup) → is_port_reset r ≡ true → (request_of r ≡ Some (Write ResetPort)) × ((r.length == 0) ≡ true)
port_reset_asked r h =
    let outer = and_parts (is_request r 0x23 3 && r.value == 4) (r.length == 0) h in
    let inner = and_parts (is_request r 0x23 3) (r.value == 4) outer.0 in
    let codes = kind_of r 0x23 3 inner.0 in
    let value = eqb-true r.value 4 inner.1 in
    (rw (codes.0, codes.1, value) refl, outer.1)

pub get_configuration_asked : (r : Setup) → is_get_configuration r ≡ true → (request_of r ≡ Some (Read GetConfiguration)) × (is_change (route_of r) ≡ false)
unfolding route_of
get_configuration_asked r h =
    let codes = kind_of r 0x80 8 h in
    (rw (codes.0, codes.1) refl, rw (codes.0, codes.1) refl)

-- ---- changes

set_configuration_changes : (r : Setup) → request_of r ≡ Some (Write SetConfiguration) → (r.length == 0 && nat_lt r.value 2) ≡ true → is_change (route_of r) ≡ true
unfolding route_of
set_configuration_changes r h k =
    let codes = kind_of r 0 9 (asked r (Write SetConfiguration) h) in
    let good = and_parts (r.length == 0) (nat_lt r.value 2) k in
    let below : r.value < 256 = omega (arith, ltb-true r.value 2 good.1) in
    rw (codes.0, codes.1, good.0, lt-ltb r.value 256 below) refl

set_interface_changes : (r : Setup) → request_of r ≡ Some (Write SetInterface) → (r.length == 0) ≡ true → (r.index == 0) ≡ true → nat_lt r.value 256 ≡ true → is_change (route_of r) ≡ true
unfolding route_of
set_interface_changes r h len index value =
    let codes = kind_of r 1 11 (asked r (Write SetInterface) h) in
    let below : nat_lt r.index 256 ≡ true = lt-ltb r.index 256 (omega (arith, eqb-true r.index 0 index)) in
    rw (codes.0, codes.1, len, below, value) refl

reset_port_changes : (r : Setup) → request_of r ≡ Some (Write ResetPort) → (r.length == 0) ≡ true → is_change (route_of r) ≡ true
unfolding route_of
reset_port_changes r h len =
    let both = and_parts (is_request r 0x23 3) (r.value == 4) (asked r (Write ResetPort) h) in
    let codes = kind_of r 0x23 3 both.0 in
    rw (codes.0, codes.1, both.1, len) refl

-- the configuration and the alternate setting are the same
pub record SameSetting (old new : DevState) : Type 0 where
  pub configuration : new.configuration ≡ old.configuration
  pub alt : new.alt ≡ old.alt

same_as_before : (s : DevState) → SameSetting s s
same_as_before s = record { configuration = refl; alt = refl }

-- where a test holds only for a change, nothing is set otherwise
set_only : (s new : DevState) (t : Bool) → (t ≡ true → ⊥) → SameSetting s (unwrap_or (cond t (Some new) None) s)
set_only s new true h = absurd (h refl)
set_only s new false h = same_as_before s

not_both : (b : Bool) → b ≡ false → b ≡ true → ⊥
not_both b f t = false≢true (sym f ∙ t)

halt_stays : (s : DevState) (ep : ℕ) (t : Bool) (new : DevState) → SameSetting s new → SameSetting s (unwrap_or (cond t (Some new) None) s)
halt_stays s ep true new h = h
halt_stays s ep false new h = same_as_before s

halted_stays : (s : DevState) (t : Bool) (new : DevState) → SameSetting s new → SameSetting s (cond t s new)
halted_stays s true new h = same_as_before s
halted_stays s false new h = h

written : (parts : List Part) (s : DevState) (r : Setup) (write : ControlWrite) → request_of r ≡ Some (Write write) → is_change (route_of r) ≡ false → SameSetting s (unwrap_or (changed_by parts s r write) s)
written parts s r ClearHalt h c = halt_stays s r.index (is_endpoint parts s r.index) _ (record { configuration = refl; alt = refl })
written parts s r SetHalt h c = halt_stays s r.index (is_endpoint parts s r.index) (halted s r.index) (halted_stays s _ _ (record { configuration = refl; alt = refl }))
written parts s r SetAddress h c = halt_stays s r.index (r.length == 0) s (same_as_before s)
written parts s r SetConfiguration h c = set_only s _ (r.length == 0 && nat_lt r.value 2) (λ t. not_both (is_change (route_of r)) c (set_configuration_changes r h t))
written parts s r SetInterface h c =
    set_only s _ (r.length == 0 && is_configured s && r.index == 0 && is_setting parts r.value) (λ t.
    let a = and_parts (r.length == 0 && is_configured s && r.index == 0) (is_setting parts r.value) t in
    let b = and_parts (r.length == 0 && is_configured s) (r.index == 0) a.0 in
    let d = and_parts (r.length == 0) (is_configured s) b.0 in
    let e = and_parts (nat_lt r.value 256) _ a.1 in
    not_both (is_change (route_of r)) c (set_interface_changes r h d.0 b.1 e.0))
written parts s r ResetPort h c = set_only s unconfigured (r.length == 0) (λ t. not_both (is_change (route_of r)) c (reset_port_changes r h t))

by_request : (parts : List Part) (s : DevState) (r : Setup) (x : Option Request) → request_of r ≡ x → is_change (route_of r) ≡ false → SameSetting s (state_by parts s r x)
by_request parts s r None h c = same_as_before s
by_request parts s r (Some (Read read)) h c = same_as_before s
by_request parts s r (Some (Write write)) h c = written parts s r write h c

-- what isn't a change keeps the configuration and the alternate setting
pub setting_kept : (parts : List Part) (s : DevState) (r : Setup) → is_change (route_of r) ≡ false → SameSetting s (state_by parts s r (request_of r))
setting_kept parts s r c = by_request parts s r (request_of r) refl c
