-- Streams are of IN endpoints, stand at their places, and are of one type everywhere.
use Rattle.std.specs.Prelude.{◌≡◌, ℕ, ◌≤◌, ◌<◌, true, List, length, Option, Some, None, get_or, ◌⊎◌}
use Rattle.usb_base.specs.Endpoint.{endpoint_index}
use Rattle.usb_base.specs.declared.endpoint.EpKind.TheVariants as kind
use Rattle.usb_base.specs.declared.endpoint.TheConstants.{ENDPOINTS}
use Rattle.redir_data.specs.declared.stream_kind.StreamKind.{StreamKind}
use Rattle.redir_data.specs.StreamKinds.{is_kind_of}
use Rattle.model_device.specs.Gadget.{IsNamed}
use Rattle.gate_history.specs.state.Ups.{Up, stream_of}
use Rattle.direct_proof.specs.Loads.{IsComing}
use Rattle.direct_proof.specs.Tagged.{Answered, Packed, Stated, Tagged}

-- an IN endpoint's address
pub record IsIn (ep : ℕ) : Type 0 where
  pub low : 128 ≤ ep
  pub high : ep < 144

-- a stream stands at the place of its endpoint
abbrev pub UpFits : ℕ → Option Up → Type 0
UpFits i None = Unit {0}
UpFits i (Some up) = IsIn up.ep × (endpoint_index up.ep ≡ i) × ((up.row.kind ≡ kind.Iso) ⊎ (up.row.kind ≡ kind.Interrupt))

pub record UpsFit (ups : List (Option Up)) : Type 0 where
  pub count_is : length ups ≡ ENDPOINTS
  pub each : (i : ℕ) → UpFits i (get_or ups i None)

-- a start and a stop are of an IN endpoint's address
abbrev pub StreamIsIn : Option ℕ → Type 0
StreamIsIn None = Unit {0}
StreamIsIn (Some ep) = IsIn ep

-- a stream that is up is of its row's kind everywhere
abbrev pub OfKind : Option Up → StreamKind → Type 0
OfKind None k = Unit {0}
OfKind (Some up) k = is_kind_of k up.row.kind ≡ true

abbrev pub StartOfKind : List (Option Up) → Option (StreamKind × ℕ) → Type 0
StartOfKind ups None = Unit {0}
StartOfKind ups (Some s) = OfKind (stream_of ups s.1) s.0

abbrev pub TaggedOfKind : List (Option Up) → Tagged → Type 0
TaggedOfKind ups (Packed k ep p) = (128 ≤ ep) × (ep < 144) × (IsNamed p.status) × OfKind (stream_of ups ep) k
TaggedOfKind ups (Stated k id ep status) = (128 ≤ ep) × (ep < 144) × (status ≡ 0)
TaggedOfKind ups (Answered c) = IsComing c
TaggedOfKind ups _ = Unit {0}
