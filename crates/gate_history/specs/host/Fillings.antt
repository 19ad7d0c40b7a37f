-- What the packets that are held of a stream give to the requests that wait for them: the earliest takes the fewest
-- that complete it, and then the next.
use Rattle.std.specs.Prelude.{ℕ, ◌==◌, if◌then◌else◌, List, [], ◌∷◌, Option, Some, None}
use Rattle.std.specs.Option.{option_map}
use Rattle.usb_base.specs.declared.transfer.Outcome.{Outcome}
use Rattle.usb_base.specs.declared.transfer.StreamPacket.{StreamPacket}
use Rattle.usb_base.specs.Lists.{is_empty}
use Rattle.stream_buffers.specs.Cuts.{Cut}
use Rattle.stream_buffers.specs.Interrupt.{interrupt_cut}
use Rattle.stream_buffers.specs.Iso.{IsoOutcome, iso_cut}
use Rattle.gate_history.specs.declared.request.Request.{Request}

-- what packets give to a request: an interrupt transfer, or an isochronous one
pub data Given : Type 0 where
  Transferred : Outcome → Given
  Isochronous : IsoOutcome → Given

-- the request that has this number is given this
pub record Filling : Type 0 where
  pub seqnum : ℕ
  pub given : Given

pub record Fill : Type 0 where
  pub fillings : List Filling
  -- the packets that no request took
  pub left : List StreamPacket

-- ---- of one request

abbrev pub cut_as : {A : Type 0} → (A → Given) → Cut A → Cut Given
cut_as kind cut = record { gives = kind cut.gives; leaves = cut.leaves }

-- one with isochronous packets is given a packet for each of them
abbrev pub cut_of : ℕ → Request → List StreamPacket → Option (Cut Given)
cut_of max_packet r packets =
    if is_empty r.descs then option_map (cut_as Transferred) (interrupt_cut max_packet r.transfer.wanted packets)
    else option_map (cut_as Isochronous) (iso_cut r.descs packets)

-- ---- of all that wait, in order

abbrev pub none_filled : List StreamPacket → Fill
none_filled packets = record { fillings = []; left = packets }

-- where a request isn't filled, none behind it is
abbrev pub filled_by : ℕ → List StreamPacket → Option (Cut Given) → (List StreamPacket → Fill) → Fill
filled_by number packets None rest = none_filled packets
filled_by number packets (Some cut) rest = record (rest cut.leaves) { fillings = record { seqnum = number; given = cut.gives } ∷ (rest cut.leaves).fillings }

abbrev pub fill : ℕ → List Request → List StreamPacket → Fill
fill max_packet [] packets = none_filled packets
fill max_packet (r ∷ rs) packets = filled_by r.seqnum packets (cut_of max_packet r packets) (fill max_packet rs)

-- what the request with this number is given
abbrev pub given_to : List Filling → ℕ → Option Given
given_to [] number = None
given_to (f ∷ fs) number = if f.seqnum == number then Some f.given else given_to fs number
