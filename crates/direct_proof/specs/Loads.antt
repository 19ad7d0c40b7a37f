-- What is known of a submit that goes by an id, and of an answer under way.
use Rattle.std.specs.Prelude.{◌≡◌, ◌≢◌, ◌≤◌, false, if◌then◌else◌, Option, Some, None, nat_lt}
use Rattle.usb_base.specs.Endpoint.{is_control, is_in_endpoint}
use Rattle.usb_base.specs.declared.limits.TheConstants.{MAX_TRANSFER}
use Rattle.usb_base.specs.declared.setup.Setup.{Setup}
use Rattle.usb_base.specs.declared.transfer.Transfer.{Transfer}
use Rattle.control_route.specs.Routes.{route_of}
use Rattle.control_route.specs.declared.route.Route.{Route}
use Rattle.control_route.specs.declared.route.Route.TheVariants as route
use Rattle.model_device.specs.Gadget.{IsNamed}
use Rattle.model_device.specs.Transfer.{IsOutcome, IsTransfer}
use Rattle.gate_history.specs.declared.verdict.TheConstants.{MAX_NARROW}
use Rattle.gate_history.specs.declared.verdict.Pipe.{Pipe}
use Rattle.gate_history.specs.declared.verdict.Pipe.TheVariants.{Control, Bulk, InterruptOut}
use Rattle.gate_history.specs.declared.verdict.Verdict.{Verdict}
use Rattle.gate_history.specs.declared.verdict.Verdict.TheVariants.{Wire, Routed}
use Rattle.direct_device.specs.Direct.{Load, normal_of}
use Rattle.direct_proof.specs.Requests.{Coming}

-- what is known of a submit that goes by an id: how its packet is read at the host as what was asked
abbrev pub FitsPipe : Pipe → Transfer → Option Setup → Type 0
FitsPipe Control t None = ⊥
FitsPipe Control t (Some s) = (t.ep ≡ (if nat_lt s.kind 128 then 0 else 128)) × (route_of s ≡ route.Plain) × (s.length ≡ t.wanted)
FitsPipe Bulk t setup = (setup ≡ None) × (is_control t.ep ≡ false) × (t.wanted ≤ MAX_TRANSFER)
FitsPipe InterruptOut t setup = (setup ≡ None) × (is_control t.ep ≡ false) × (is_in_endpoint t.ep ≡ false) × (t.wanted ≤ MAX_NARROW)

abbrev pub FitsRoute : Route → Transfer → Option Setup → Type 0
FitsRoute r t None = ⊥
FitsRoute r t (Some s) = (route_of s ≡ r) × (s.length ≡ t.wanted) × (r ≢ route.Plain) × (r ≢ route.Local) × (r ≢ route.Bad)

abbrev pub FitsVerdict : Verdict → Transfer → Type 0
FitsVerdict (Wire pipe) t = FitsPipe pipe t t.setup
FitsVerdict (Routed r) t = FitsRoute r t t.setup
FitsVerdict _ t = ⊥

pub record IsLoad (l : Load) : Type 0 where
  pub transfer : IsTransfer (normal_of l)
  pub verdict : FitsVerdict l.verdict l.request.transfer

pub record IsComing (c : Coming) : Type 0 where
  pub load : IsLoad c.load
  pub outcome : IsOutcome (normal_of c.load) c.outcome
  pub status : IsNamed c.outcome.status
