-- What a submit asks for: its transfer, and what its answer has of it.
use Rattle.std.specs.Prelude.{ℕ, ◌+◌, ◌==◌, Bool, not, if◌then◌else◌, Some, None}
use Rattle.usb_base.specs.Setup.{is_in_setup, setup_at}
use Rattle.usb_base.specs.declared.transfer.Transfer.{Transfer}
use Rattle.usbip_urb.specs.declared.packet.Submit.{Submit}
use Rattle.usbip_urb.specs.Sizes.{is_out}
use Rattle.gate_history.specs.declared.request.Request.{Request}

-- bit 7 of an endpoint's address is its direction
abbrev pub address : Bool → ℕ → ℕ
address is_in ep = if is_in then ep + 128 else ep

-- a control transfer's direction is that of its setup
abbrev pub transfer_by : Bool → Submit → Transfer
transfer_by control s = record {
  ep = if control then address (is_in_setup (setup_at s.setup)) 0 else address (not (is_out s.head.direction)) s.head.ep;
  setup = if control then Some (setup_at s.setup) else None;
  wanted = s.length;
  body = s.body;
}

abbrev pub request_of : Submit → Request
request_of s = record {
  seqnum = s.head.seqnum;
  is_in = not (is_out s.head.direction);
  flags = s.flags;
  packets = s.packets;
  descs = s.descs;
  transfer = transfer_by (s.head.ep == 0) s;
}
