-- The bytes of URB packets, fields in wire order ("usbip_protocol", USBIP_CMD_SUBMIT to USBIP_RET_UNLINK).
use Rattle.std.specs.Prelude.{ℕ, List, [], ◌∷◌, ◌++◌, flat_map}
use Rattle.std.specs.Int.{w32, cast_unsigned}
use Rattle.usb_base.specs.Number.{be}
use Rattle.usbip_urb.specs.declared.packet.Head.{Head}
use Rattle.usbip_urb.specs.declared.packet.IsoDesc.{IsoDesc}
use Rattle.usbip_urb.specs.declared.packet.Submit.{Submit}
use Rattle.usbip_urb.specs.declared.packet.RetSubmit.{RetSubmit}
use Rattle.usbip_urb.specs.declared.packet.Unlink.{Unlink}
use Rattle.usbip_urb.specs.declared.packet.RetUnlink.{RetUnlink}
use Rattle.usbip_urb.specs.declared.packet.UrbPacket.{UrbPacket}
use Rattle.usbip_urb.specs.declared.packet.UrbPacket.TheVariants as urb
use Rattle.usbip_urb.specs.declared.code.TheConstants.{USBIP_CMD_SUBMIT, USBIP_CMD_UNLINK, USBIP_RET_SUBMIT, USBIP_RET_UNLINK}

-- ---- the numbers that a packet begins with; a status stands in two's complement

abbrev pub head_words : ℕ → Head → List ℕ
head_words command h = command ∷ h.seqnum ∷ h.devid ∷ h.direction ∷ h.ep ∷ []

abbrev pub submit_words : Submit → List ℕ
submit_words s = head_words USBIP_CMD_SUBMIT s.head ++ s.flags ∷ s.length ∷ s.start_frame ∷ s.packets ∷ s.interval ∷ []

abbrev pub ret_submit_words : RetSubmit → List ℕ
ret_submit_words r = head_words USBIP_RET_SUBMIT r.head ++ cast_unsigned w32 r.status ∷ r.actual ∷ r.start_frame ∷ r.packets ∷ r.errors ∷ []

abbrev pub unlink_words : Unlink → List ℕ
unlink_words u = head_words USBIP_CMD_UNLINK u.head ++ u.target ∷ []

abbrev pub ret_unlink_words : RetUnlink → List ℕ
ret_unlink_words r = head_words USBIP_RET_UNLINK r.head ++ cast_unsigned w32 r.status ∷ []

abbrev pub desc_words : IsoDesc → List ℕ
desc_words d = d.offset ∷ d.length ∷ d.actual ∷ cast_unsigned w32 d.status ∷ []

-- ---- bytes

-- each number in four bytes
abbrev pub words : List ℕ → List ℕ
words ns = flat_map (be w32) ns

abbrev pub descs_bytes : List IsoDesc → List ℕ
descs_bytes ds = flat_map (λ d. words (desc_words d)) ds

abbrev pub spelling : UrbPacket → List ℕ
spelling (urb.Submit s) = words (submit_words s) ++ s.setup ++ s.body ++ descs_bytes s.descs
spelling (urb.RetSubmit r) = words (ret_submit_words r) ++ r.tail ++ r.body ++ descs_bytes r.descs
spelling (urb.Unlink u) = words (unlink_words u) ++ u.pad
spelling (urb.RetUnlink r) = words (ret_unlink_words r) ++ r.pad
