-- Which fields packets may have.
use Rattle.std.specs.Prelude.{◌≡◌, ℕ, ◌≤◌, ◌<◌, ◌^◌, Bool, ◌||◌, ◌==◌, nat_le, IsTrue, length, All}
use Rattle.std.specs.Int.{w32}
use Rattle.std.specs.Int.RustNames.{FitsSigned}
use Rattle.usbip_urb.specs.declared.packet.Head.{Head}
use Rattle.usbip_urb.specs.declared.packet.IsoDesc.{IsoDesc}
use Rattle.usbip_urb.specs.declared.packet.Submit.{Submit}
use Rattle.usbip_urb.specs.declared.packet.RetSubmit.{RetSubmit}
use Rattle.usbip_urb.specs.declared.packet.Unlink.{Unlink}
use Rattle.usbip_urb.specs.declared.packet.RetUnlink.{RetUnlink}
use Rattle.usbip_urb.specs.declared.packet.UrbPacket.{UrbPacket}
use Rattle.usbip_urb.specs.declared.packet.UrbPacket.TheVariants as urb
use Rattle.usb_base.specs.declared.limits.TheConstants.{MAX_TRANSFER, MAX_PACKETS}
use Rattle.usbip_urb.specs.declared.code.TheConstants.{EXPORTED_DEVID, MAX_ENDPOINT, NO_PACKETS, USBIP_DIR_IN}
use Rattle.usbip_urb.specs.Sizes.{is_out, body_size, count_of}
use Rattle.usbip_urb.specs.Spelling.{submit_words, ret_submit_words, unlink_words, ret_unlink_words, desc_words}

-- ---- what a sender keeps to, beside the ranges that the types of the code have

-- number_of_packets is a count of descriptors, or means none
abbrev pub is_packet_count : ℕ → Bool
is_packet_count packets = nat_le packets MAX_PACKETS || (packets == NO_PACKETS)

pub record IsRequestHead (h : Head) : Type 0 where
  pub direction : h.direction ≤ USBIP_DIR_IN
  pub endpoint : h.ep ≤ MAX_ENDPOINT

-- a submit has a body exactly where its direction is OUT
pub record IsSubmit (s : Submit) : Type 0 where
  pub head : IsRequestHead s.head
  pub few_bytes : s.length ≤ MAX_TRANSFER
  pub few_packets : IsTrue (is_packet_count s.packets)
  pub body : length s.body ≡ body_size (is_out s.head.direction) s.length
  pub descs : length s.descs ≡ count_of s.packets

-- its answer has one exactly where it was IN
pub record IsRetSubmit (is_in : Bool) (r : RetSubmit) : Type 0 where
  pub few_bytes : r.actual ≤ MAX_TRANSFER
  pub few_packets : IsTrue (is_packet_count r.packets)
  pub body : length r.body ≡ body_size is_in r.actual
  pub descs : length r.descs ≡ count_of r.packets

-- a request's devid may be any number
abbrev pub IsWritable : UrbPacket → Type 0
IsWritable (urb.Submit s) = IsSubmit s
IsWritable (urb.RetSubmit r) = (is_in : Bool) × IsRetSubmit is_in r
IsWritable (urb.Unlink u) = IsRequestHead u.head
IsWritable (urb.RetUnlink r) = Unit {0}

-- ---- the ranges that the types of the code have

abbrev pub IsWord : ℕ → Type 0
IsWord n = n < 2 ^ 32

pub record DescFits (d : IsoDesc) : Type 0 where
  pub words : All IsWord (desc_words d)
  pub status : FitsSigned w32 d.status

pub record SubmitFits (s : Submit) : Type 0 where
  pub words : All IsWord (submit_words s)
  pub setup : length s.setup ≡ 8
  pub descs : All DescFits s.descs

pub record RetSubmitFits (r : RetSubmit) : Type 0 where
  pub words : All IsWord (ret_submit_words r)
  pub status : FitsSigned w32 r.status
  pub tail : length r.tail ≡ 8
  pub descs : All DescFits r.descs

pub record UnlinkFits (u : Unlink) : Type 0 where
  pub words : All IsWord (unlink_words u)
  pub pad : length u.pad ≡ 24

pub record RetUnlinkFits (r : RetUnlink) : Type 0 where
  pub words : All IsWord (ret_unlink_words r)
  pub status : FitsSigned w32 r.status
  pub pad : length r.pad ≡ 24

-- ---- what a reader finds

-- requests, all to the one device
abbrev pub IsRequest : UrbPacket → Type 0
IsRequest (urb.Submit s) = IsSubmit s × (s.head.devid ≡ EXPORTED_DEVID) × SubmitFits s
IsRequest (urb.Unlink u) = IsRequestHead u.head × (u.head.devid ≡ EXPORTED_DEVID) × UnlinkFits u
IsRequest _ = ⊥

-- answers, the body of a submit's by whether it was IN
abbrev pub IsAnswer : Bool → UrbPacket → Type 0
IsAnswer is_in (urb.RetSubmit r) = IsRetSubmit is_in r × RetSubmitFits r
IsAnswer is_in (urb.RetUnlink r) = RetUnlinkFits r
IsAnswer is_in _ = ⊥
