-- The packets of a made tape's client ("usbip_protocol", OP_REQ_IMPORT, USBIP_CMD_SUBMIT and USBIP_CMD_UNLINK). Its
-- submits have no flags and no isochronous packets.
use Rattle.std.specs.Prelude.{ℕ, ◌+◌, ◌*◌, ◌%◌, List, [], ◌∷◌, replicate}
use Rattle.usb_base.specs.Text.{padded}
use Rattle.usbip_op.specs.declared.code.TheConstants.{BUS_ID_SIZE}
use Rattle.usbip_op.specs.declared.exported.TheConstants.{BUS_ID}
use Rattle.usbip_op.specs.declared.packet.OpPacket.TheVariants.{ReqImport}
use Rattle.usbip_op.specs.Spelling.{spelling as op_spelling}
use Rattle.usbip_urb.specs.declared.packet.Head.{Head}
use Rattle.usbip_urb.specs.declared.packet.UrbPacket.{UrbPacket}
use Rattle.usbip_urb.specs.declared.packet.UrbPacket.TheVariants.{Submit, Unlink}
use Rattle.usbip_urb.specs.declared.code.TheConstants.{EXPORTED_DEVID, USBIP_DIR_IN, USBIP_DIR_OUT}
use Rattle.usbip_urb.specs.Spelling.{spelling}
use Rattle.made_tape.specs.declared.packet.TheConstants.{UNLINKS}

-- of the one device that a gateway exports
abbrev pub import_bytes : List ℕ
import_bytes = op_spelling (ReqImport 0 (padded BUS_ID_SIZE BUS_ID))

abbrev pub head_of : (seqnum direction ep : ℕ) → Head
head_of seqnum direction ep = record { seqnum = seqnum; devid = EXPORTED_DEVID; direction = direction; ep = ep }

abbrev pub submit_packet : (seqnum direction ep size : ℕ) → (setup body : List ℕ) → UrbPacket
submit_packet seqnum direction ep size setup body = Submit (record {
  head = head_of seqnum direction ep;
  flags = 0;
  length = size;
  start_frame = 0;
  packets = 0;
  interval = 0;
  setup = setup;
  body = body;
  descs = [];
})

-- SET_CONFIGURATION with the value 1 (USB 2.0, 9.4.7)
abbrev pub configure_bytes : List ℕ
configure_bytes = spelling (submit_packet 1 USBIP_DIR_OUT 0 0 (0 ∷ 9 ∷ 1 ∷ 0 ∷ 0 ∷ 0 ∷ 0 ∷ 0 ∷ []) [])

-- a round sends so many bytes to endpoint 1, asks it for as many, and may take back what it asked for
abbrev pub send_bytes : (round size : ℕ) → List ℕ
send_bytes round size = spelling (submit_packet (2 * round) USBIP_DIR_OUT 1 size (replicate 8 0) (replicate size (round % 256)))

abbrev pub ask_bytes : (round size : ℕ) → List ℕ
ask_bytes round size = spelling (submit_packet (2 * round + 1) USBIP_DIR_IN 1 size (replicate 8 0) [])

abbrev pub take_back_bytes : (round : ℕ) → List ℕ
take_back_bytes round = spelling (Unlink (record { head = head_of (UNLINKS + round) USBIP_DIR_OUT 0; target = 2 * round + 1; pad = replicate 24 0 }))
