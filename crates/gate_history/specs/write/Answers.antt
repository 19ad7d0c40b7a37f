-- The answers of submits ("usbip_protocol", USBIP_RET_SUBMIT and USBIP_RET_UNLINK).
use Rattle.std.specs.Prelude.{ℕ, ◌==◌, ◌&&◌, nat_lt, not, Bool, if◌then◌else◌, List, [], length, map, replicate, ℤ, pos, bit_and}
use Rattle.usb_base.specs.declared.transfer.Outcome.{Outcome}
use Rattle.usb_base.specs.Status.{errno_of}
use Rattle.usbip_urb.specs.declared.code.TheConstants.{URB_SHORT_NOT_OK}
use Rattle.usbip_urb.specs.declared.packet.Head.{Head}
use Rattle.usbip_urb.specs.declared.packet.IsoDesc.{IsoDesc}
use Rattle.usbip_urb.specs.declared.packet.UrbPacket.{UrbPacket}
use Rattle.usbip_urb.specs.declared.packet.UrbPacket.TheVariants as urb
use Rattle.usbip_urb.specs.Buffers.{total}
use Rattle.usbip_urb.specs.Errors.{is_failed, errors_of}
use Rattle.usb_base.specs.declared.errno.TheConstants.{EREMOTEIO}
use Rattle.usb_base.specs.Lists.{is_empty}
use Rattle.gate_history.specs.declared.request.Request.{Request}
use Rattle.gate_history.specs.host.Fillings.{Given, Transferred, Isochronous}

-- an answer has its request's number, and zeros in the other fields of its head
abbrev pub answer_head : ℕ → Head
answer_head seqnum = record { seqnum = seqnum; devid = 0; direction = 0; ep = 0 }

-- by its transfer_flags, a read that gives fewer bytes than were asked for has failed
abbrev pub fails_if_short : ℕ → Bool
fails_if_short flags = not (bit_and flags URB_SHORT_NOT_OK == 0)

abbrev pub told_status : Request → ℤ → ℕ → ℤ
told_status r status actual =
    if r.is_in && is_empty r.descs && not (is_failed status) && nat_lt actual r.transfer.wanted && fails_if_short r.flags then EREMOTEIO else status

abbrev pub ret_submit : Request → ℤ → ℕ → List ℕ → List IsoDesc → UrbPacket
ret_submit r status actual body descs = urb.RetSubmit (record {
  head = answer_head r.seqnum;
  status = told_status r status actual;
  actual = actual;
  start_frame = 0;
  packets = r.packets;
  errors = errors_of descs;
  tail = replicate 8 0;
  body = body;
  descs = descs;
})

abbrev pub ret_unlink : ℕ → ℤ → UrbPacket
ret_unlink seqnum status = urb.RetUnlink (record { head = answer_head seqnum; status = status; pad = replicate 24 0 })

-- isochronous packets of which nothing came have the request's status
abbrev pub echoed : ℤ → List IsoDesc → List IsoDesc
echoed status descs = map (λ (d : IsoDesc). record d { actual = 0; status = status }) descs

-- it ends without its packets
abbrev pub without_packets : Request → ℤ → UrbPacket
without_packets r status = ret_submit r status 0 [] (echoed status r.descs)

-- isochronous packets that were all sent
abbrev pub sent_whole : List IsoDesc → List IsoDesc
sent_whole descs = map (λ (d : IsoDesc). record d { actual = d.length; status = pos 0 }) descs

abbrev pub all_sent : Request → UrbPacket
all_sent r = ret_submit r (pos 0) (total (sent_whole r.descs)) [] (sent_whole r.descs)

abbrev pub with_outcome : Request → Outcome → UrbPacket
with_outcome r o = ret_submit r (errno_of o.status) o.done o.body (echoed (errno_of o.status) r.descs)

-- packets that came one for each descriptor lie in the answer without gaps
abbrev pub with_given : Request → Given → UrbPacket
with_given r (Transferred outcome) = with_outcome r outcome
with_given r (Isochronous outcome) = ret_submit r (pos 0) (length outcome.body) outcome.body outcome.descs
