-- What the answer of a submit has of the submit, as the code has it.
use Rattle.std.specs.Prelude.{◌≡◌, ℕ, ◌≤◌, Bool, IsTrue, List, length, None, []}
use Rattle.usb_base.specs.declared.transfer.Outcome.{Outcome}
use Rattle.usb_base.specs.declared.transfer.Transfer.{Transfer}
use Rattle.usb_base.specs.declared.limits.TheConstants.{MAX_TRANSFER}
use Rattle.usbip_urb.specs.declared.packet.IsoDesc.{IsoDesc}
use Rattle.usbip_urb.specs.Sizes.{body_size, count_of}
use Rattle.usbip_urb.specs.Ranges.{is_packet_count}
use Rattle.gate_history.specs.declared.request.AnsweredSubmit.{AnsweredSubmit}
use Rattle.gate_history.specs.declared.request.Request.{Request}

-- an answer has nothing of a submit's endpoint, setup and body
abbrev pub answered_transfer : ℕ → Transfer
answered_transfer wanted = record { ep = 0; setup = None; wanted = wanted; body = [] }

abbrev pub asked_view : AnsweredSubmit → Request
asked_view a = record {
  seqnum = a.seqnum;
  is_in = a.is_in;
  flags = a.flags;
  packets = a.packets;
  descs = a.descs.now;
  transfer = answered_transfer a.wanted;
}

-- as many isochronous packets as number_of_packets says
pub record HasItsPackets (packets : ℕ) (descs : List IsoDesc) : Type 0 where
  pub few : IsTrue (is_packet_count packets)
  pub counted : length descs ≡ count_of packets

-- as many bytes came as were moved, where the transfer is one from the device
pub record IsMoved (is_in : Bool) (o : Outcome) : Type 0 where
  pub few_bytes : o.done ≤ MAX_TRANSFER
  pub body : length o.body ≡ body_size is_in o.done
