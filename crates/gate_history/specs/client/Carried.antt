-- Which requests the client's packets make, and that a verdict lets only such on the wire as a packet can carry.
use Rattle.std.specs.Prelude.{◌≡◌, ℕ, ◌≤◌, not, Bool, false, IsTrue, length, Option, Some, None}
use Rattle.usb_base.specs.declared.setup.Setup.{Setup}
use Rattle.usb_base.specs.declared.transfer.Transfer.{Transfer}
use Rattle.usb_base.specs.Endpoint.{is_in_endpoint}
use Rattle.usb_base.specs.declared.limits.TheConstants.{MAX_TRANSFER}
use Rattle.usbip_urb.specs.Buffers.{laid}
use Rattle.usbip_urb.specs.Sizes.{body_size, count_of}
use Rattle.usbip_urb.specs.Ranges.{is_packet_count}
use Rattle.redir_wire.specs.declared.packet.Way.TheVariants.{ToHost}
use Rattle.redir_data.specs.Spelling.{data_count}
use Rattle.gate_history.specs.declared.request.Request.{Request}
use Rattle.usb_base.specs.Setup.{is_in_setup}
use Rattle.gate_history.specs.client.Requests.{address}
use Rattle.gate_history.specs.declared.verdict.Pipe.{Pipe}
use Rattle.gate_history.specs.declared.verdict.Pipe.TheVariants.{Control, Bulk, InterruptOut}
use Rattle.gate_history.specs.declared.verdict.TheConstants.{MAX_NARROW}
use Rattle.gate_history.specs.declared.verdict.Verdict.{Verdict}
use Rattle.gate_history.specs.declared.verdict.Verdict.TheVariants.{Wire, IsoOut}

-- ---- of a submit

-- a control transfer's direction is that of its setup, and another's that of the submit
abbrev pub IsDirected : Bool → Option Setup → ℕ → Type 0
IsDirected is_in None ep = is_in_endpoint ep ≡ is_in
IsDirected is_in (Some s) ep = ep ≡ address (is_in_setup s) 0

pub record IsRequest (r : Request) : Type 0 where
  pub few_bytes : r.transfer.wanted ≤ MAX_TRANSFER
  pub few_packets : IsTrue (is_packet_count r.packets)
  pub descs : length r.descs ≡ count_of r.packets
  pub body : length r.transfer.body ≡ body_size (not r.is_in) r.transfer.wanted
  pub directed : IsDirected r.is_in r.transfer.setup r.transfer.ep

-- ---- on the wire

-- a control transfer has a setup, which tells its length once more
abbrev pub HasItsSetup : Pipe → Option Setup → ℕ → Type 0
HasItsSetup Control None wanted = ⊥
HasItsSetup Control (Some s) wanted = wanted ≡ s.length
HasItsSetup _ setup wanted = Unit {0}

-- the packet of another has 16 bits for its length, but for a bulk packet where those are wide
abbrev pub LengthFits : Bool → Pipe → ℕ → Type 0
LengthFits wide InterruptOut wanted = wanted ≤ MAX_NARROW
LengthFits false Bulk wanted = wanted ≤ MAX_NARROW
LengthFits wide _ wanted = Unit {0}

pub record IsSent (wide : Bool) (pipe : Pipe) (t : Transfer) : Type 0 where
  pub setup : HasItsSetup pipe t.setup t.wanted
  pub length_fits : LengthFits wide pipe t.wanted
  pub few_bytes : t.wanted ≤ MAX_TRANSFER
  pub data_there : length t.body ≡ data_count ToHost t.ep t.wanted

-- isochronous packets lie over a buffer that goes to the device
pub record IsLaid (r : Request) : Type 0 where
  pub out : is_in_endpoint r.transfer.ep ≡ false
  pub to_device : r.is_in ≡ false
  pub lies : IsTrue (laid r.descs r.transfer.wanted)
  pub whole : length r.transfer.body ≡ r.transfer.wanted

abbrev pub IsCarried : Bool → Verdict → Request → Type 0
IsCarried wide (Wire pipe) r = IsSent wide pipe r.transfer
IsCarried wide (IsoOut row) r = IsLaid r
IsCarried wide _ r = Unit {0}
