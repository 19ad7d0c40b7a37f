-- How far the packets that are held were looked at.
use Rattle.std.specs.Prelude.{◌≡◌, ℕ, ◌≤◌, ◌<◌, false, List, length, take}
use Rattle.usb_base.specs.declared.transfer.StreamPacket.{StreamPacket}
use Rattle.stream_buffers.specs.declared.fill.Seen.{Seen}
use Rattle.stream_buffers.specs.Interrupt.{ends, packet_at, bodies}

-- so many are there, have so many bytes, and none of them ends a transfer
pub record IsSeen (max_packet : ℕ) (packets : List StreamPacket) (seen : Seen) : Type 0 where
  pub there : seen.count ≤ length packets
  pub bytes : seen.bytes ≡ length (bodies (take seen.count packets))
  pub go_on : (k : ℕ) → k < seen.count → ends max_packet (packet_at packets k) ≡ false
