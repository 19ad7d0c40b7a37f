-- The packets of each way, with the conditions on their fields side by side.
use Rattle.std.proofs.Common.{◌≡◌, ◌≢◌, true, false, ℕ, ◌≤◌, ◌<◌, ◌^◌, List, [], length, Option, Some, None, refl, All, arith}
use Rattle.usbip_op.specs.declared.packet.DeviceRow.{DeviceRow}
use Rattle.usbip_op.specs.declared.packet.Listed.{Listed}
use Rattle.usbip_op.specs.declared.packet.OpPacket.{OpPacket}
use Rattle.usbip_op.specs.declared.packet.OpPacket.TheVariants.{ReqDevlist, ReqImport, RepDevlist, RepImport}
use Rattle.usbip_op.specs.declared.packet.OpWay.TheVariants.{Request, Reply}
use Rattle.usbip_op.specs.Ranges.{IsDevice, IsListed, IsPacket}

abbrev pub IsRequest : OpPacket → Type 0
IsRequest (ReqDevlist status) = status < 2 ^ 32
IsRequest (ReqImport status busid) = (status < 2 ^ 32) × (length busid ≡ 32)
IsRequest (RepDevlist status devices) = ⊥
IsRequest (RepImport status device) = ⊥

pub record IsListReply (status : ℕ) (devices : List Listed) : Type 0 where
  pub status_fits : status < 2 ^ 32
  pub few : length devices ≤ 1024
  pub none : status ≢ 0 → devices ≡ []
  pub each : All IsListed devices

abbrev pub IsImportReply : ℕ → Option DeviceRow → Type 0
IsImportReply status None = (status < 2 ^ 32) × (status ≢ 0)
IsImportReply status (Some d) = (status ≡ 0) × IsDevice d

abbrev pub IsReply : OpPacket → Type 0
IsReply (ReqDevlist status) = ⊥
IsReply (ReqImport status busid) = ⊥
IsReply (RepDevlist status devices) = IsListReply status devices
IsReply (RepImport status device) = IsImportReply status device

pub request_fits : (p : OpPacket) → IsPacket Request p → IsRequest p
request_fits (ReqDevlist status) h = h.1
request_fits (ReqImport status busid) h = h.1
request_fits (RepDevlist status devices) h = let no : Reply ≡ Request = h.0 in absurd cc
request_fits (RepImport status device) h = let no : Reply ≡ Request = h.0 in absurd cc

pub fits_request : (p : OpPacket) → IsRequest p → IsPacket Request p
fits_request (ReqDevlist status) h = (refl, h, tt)
fits_request (ReqImport status busid) h = (refl, h, tt)
fits_request (RepDevlist status devices) h = absurd h
fits_request (RepImport status device) h = absurd h

pub reply_fits : (p : OpPacket) → IsPacket Reply p → IsReply p
reply_fits (ReqDevlist status) h = let no : Request ≡ Reply = h.0 in absurd cc
reply_fits (ReqImport status busid) h = let no : Request ≡ Reply = h.0 in absurd cc
reply_fits (RepDevlist status devices) h = record { status_fits = h.1.0; few = h.2.few; none = h.2.none; each = λ k d lt. (h.1.1 k d lt, h.2.counted k d lt) }
reply_fits (RepImport status None) h = (h.1.0, λ e. let no : false ≡ true = h.2.1 e in absurd cc)
reply_fits (RepImport status (Some d)) h = (h.2.0 refl, h.1.1)

low : (n : ℕ) → n ≡ 0 → n < 2 ^ 32
low n e = omega arith

pub fits_reply : (p : OpPacket) → IsReply p → IsPacket Reply p
fits_reply (ReqDevlist status) h = absurd h
fits_reply (ReqImport status busid) h = absurd h
fits_reply (RepDevlist status devices) h = (refl, (h.status_fits, λ k d lt. (h.each k d lt).0), record { few = h.few; none = h.none; counted = λ k d lt. (h.each k d lt).1 })
fits_reply (RepImport status None) h = (refl, (h.0, tt), (λ (no : false ≡ true). absurd cc, λ e. absurd (h.1 e)))
fits_reply (RepImport status (Some d)) h = (refl, (low status h.0, h.1), (λ _. h.0, λ _. refl))
