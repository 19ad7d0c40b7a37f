-- Isochronous requests over the packets that are held: one packet for each descriptor.
use Rattle.std.specs.Prelude.{ℕ, nat_lt, if◌then◌else◌, List, length, map, take, drop, Option, Some, None}
use Rattle.std.specs.List.{flat_map, zip}
use Rattle.usb_base.specs.Status.{errno_of}
use Rattle.usb_base.specs.declared.status.UsbStatus.{UsbStatus}
use Rattle.usb_base.specs.declared.status.UsbStatus.TheVariants.{Babble}
use Rattle.usb_base.specs.declared.transfer.StreamPacket.{StreamPacket}
use Rattle.usbip_urb.specs.declared.packet.IsoDesc.{IsoDesc}
use Rattle.stream_buffers.specs.Cuts.{Cut}

-- what fits of a packet
abbrev pub piece : IsoDesc → StreamPacket → List ℕ
piece d p = take d.length p.body

-- a packet that is too long has the status of babble
abbrev pub piece_status : IsoDesc → StreamPacket → UsbStatus
piece_status d p = if nat_lt d.length (length p.body) then Babble else p.status

abbrev pub filled : IsoDesc → StreamPacket → IsoDesc
filled d p = record d { actual = length (piece d p); status = errno_of (piece_status d p) }

-- ---- those of all descriptors

-- joined without gaps, whatever the offsets
abbrev pub pieces : List IsoDesc → List StreamPacket → List ℕ
pieces descs packets = flat_map (λ x. piece x.0 x.1) (zip descs packets)

abbrev pub all_filled : List IsoDesc → List StreamPacket → List IsoDesc
all_filled descs packets = map (λ x. filled x.0 x.1) (zip descs packets)

-- the bytes of a request's packets, one behind another, and its descriptors with what came of each
pub record IsoOutcome : Type 0 where
  pub body : List ℕ
  pub descs : List IsoDesc

abbrev pub iso_outcome : List IsoDesc → List StreamPacket → IsoOutcome
iso_outcome descs packets = record { body = pieces descs packets; descs = all_filled descs packets }

abbrev pub iso_cut : List IsoDesc → List StreamPacket → Option (Cut IsoOutcome)
iso_cut descs packets =
    if nat_lt (length packets) (length descs) then None
    else Some (record { gives = iso_outcome descs packets; leaves = drop (length descs) packets })
