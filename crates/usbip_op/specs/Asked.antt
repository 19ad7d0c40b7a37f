-- Which packet a request is, by its status and the device that it asks for, and the status of one.
use Rattle.std.specs.Prelude.{ℕ, List, Option, Some, None}
use Rattle.usbip_op.specs.declared.packet.OpPacket.{OpPacket}
use Rattle.usbip_op.specs.declared.packet.OpPacket.TheVariants.{ReqDevlist, ReqImport, RepDevlist, RepImport}

-- a list request asks for none
abbrev pub request_of : ℕ → Option (List ℕ) → OpPacket
request_of status None = ReqDevlist status
request_of status (Some busid) = ReqImport status busid

abbrev pub status_of : OpPacket → ℕ
status_of (ReqDevlist status) = status
status_of (ReqImport status busid) = status
status_of (RepDevlist status devices) = status
status_of (RepImport status device) = status
