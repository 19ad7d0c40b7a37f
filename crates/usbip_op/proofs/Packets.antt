-- The packets of both ways: their laws.
use Rattle.std.proofs.Common.{◌≡◌, ℕ, List, ◌++◌, length, refl}
use Rattle.packet_stream.specs.Format.{Whole, IsSound, reading}
use Rattle.packet_stream.proofs.Formats.{read_again}
use Rattle.usbip_op.specs.declared.packet.OpPacket.{OpPacket}
use Rattle.usbip_op.specs.declared.packet.OpPacket.TheVariants.{ReqDevlist, ReqImport, RepDevlist, RepImport}
use Rattle.usbip_op.specs.declared.packet.OpWay.{OpWay}
use Rattle.usbip_op.specs.declared.packet.OpWay.TheVariants.{Request, Reply}
use Rattle.usbip_op.specs.Spelling.{spelling}
use Rattle.usbip_op.specs.Ranges.{IsInRange, IsWritable, way_of}
use Rattle.usbip_op.specs.Requests.{requests}
use Rattle.usbip_op.specs.Replies.{replies}
use Rattle.usbip_op.specs.Packets.{packets_of}
use Rattle.usbip_op.proofs.Requests.{requests_sound}
use Rattle.usbip_op.proofs.Replies.{replies_sound}

pub packets_sound : (way : OpWay) → IsSound (packets_of way)
packets_sound Request = requests_sound
packets_sound Reply = replies_sound

-- what a sender writes is read again
pub written_again : (p : OpPacket) (more : List ℕ) → IsInRange p → IsWritable p → reading (packets_of (way_of p)) (spelling p ++ more) ≡ Whole p (length (spelling p))
written_again (ReqDevlist status) more range writable = read_again requests requests_sound (ReqDevlist status) more (refl, range, writable)
written_again (ReqImport status busid) more range writable = read_again requests requests_sound (ReqImport status busid) more (refl, range, writable)
written_again (RepDevlist status devices) more range writable = read_again replies replies_sound (RepDevlist status devices) more (refl, range, writable)
written_again (RepImport status device) more range writable = read_again replies replies_sound (RepImport status device) more (refl, range, writable)
